use Rattle.std.proofs.{Common.{◌∙◌, ap, sum_by, arith}, lemmas.List.{take_all}}
use Rattle.gs_game.specs.declared.positions.End.{End}
use Rattle.gs_seq.specs.{Cells.{pair_count}, Games.{frame_in}}
use Rattle.gs_seq.proofs.{CellLaws.{all_ends, end_few, end_inside, end_more, end_round_in}, Ends.{length-ends}, Sizes.{modest}}
use Rattle.gs_seq.proofs.rows.cells.Goals as goal

pub overflow_sub-from : goal.overflow_sub-from
overflow_sub-from c =
    let in_round = end_round_in c.args.game.now c.ends-end-items.result.now c.loop-end.end-index _ c.from.result c.ends-end-items.ensures c.loop-end-test.true
    c.from.ensures in
    omega (arith, in_round.0)

pub index-requires : goal.index-requires
index-requires c =
    let counts = c.in_ok-counts.counts in
    let inside = end_inside c.args.game.now c.args.classes.now c.requires.parents counts.items c.in_ok-counts.ensures
    c.ends-end-items.result.now c.ends-end-items.ensures c.loop-end.end-index _ c.from.result c.loop-end-test.true c.from.ensures in
    omega (arith, inside, counts.ok.0)

pub overflow_add-count : goal.overflow_add-count
overflow_add-count c =
    let few = end_few c.args.game.now c.args.classes.now c.requires.parents c.in_ok-counts.counts.items c.in_ok-counts.ensures
    c.ends-end-items.result.now c.ends-end-items.ensures c.loop-end.end-index _ c.from.result c.index.result.now c.loop-end-test.true c.from.ensures
    c.index.ensures in
    omega (
      arith,
      few,
      c.loop-end.invariant.few,
      c.loop-end-test.true,
      length-ends c.args.game.now c.ends-end-items.result.now c.ends-end-items.ensures,
      (modest
          c.args.game.now).ends,
    )

pub loop-end-preserved : goal.loop-end-preserved
loop-end-preserved c =
    let few = end_few c.args.game.now c.args.classes.now c.requires.parents c.in_ok-counts.counts.items c.in_ok-counts.ensures
    c.ends-end-items.result.now c.ends-end-items.ensures c.loop-end.end-index _ c.from.result c.index.result.now c.loop-end-test.true c.from.ensures
    c.index.ensures in
    record {
      count_is = end_more c.args.game.now c.args.classes.now c.requires.parents c.in_ok-counts.counts.items c.in_ok-counts.ensures
          c.ends-end-items.result.now c.ends-end-items.ensures c.loop-end.end-index _ c.from.result c.index.result.now c.loop-end.count c.loop-end-test.true
          c.from.ensures c.index.ensures c.loop-end.invariant.count_is;
      few = omega (arith, few, c.loop-end.invariant.few);
    }

pub returns : goal.returns
returns c =
    let f = frame_in c.args.game.now in
    let lists = c.args.classes.now.lists in
    let es = c.ends-end-items.result.now in
    let whole = take_all c.loop-end.end-index es (omega arith) in
    c.loop-end.invariant.count_is ∙ ap (sum_by (λ (z : End). pair_count f lists z.round)) whole
    ∙ all_ends c.args.game.now c.args.classes.now c.requires.parents c.in_ok-counts.counts.items c.in_ok-counts.ensures es c.ends-end-items.ensures
