use Rattle.std.proofs.{lemmas.Grind.{common_steps}, Common.{ap, arith, pos, reverse, ◌∙◌}}
use Rattle.gs_lossless.specs.declared.parts.Part.{Part}
use Rattle.gs_seq.specs.{Rows.{join}, declared.pair.Pair.{Pair}}
use Rattle.gs_seq.proofs.Gathered.{gathered_few, gathered_more}
use Rattle.gs_seq.proofs.rows.row_of.Goals as goal

abbrev no_part : Part
no_part = record { class = 0; outcome = pos 0; weight = 0 }

pub add-requires-clause-few : goal.add-requires-clause-few
add-requires-clause-few c =
    let f = gathered_few c.args.members c.args.sums.now c.loop-part.part-index no_part c.loop-part.row.items c.loop-part-test.true c.loop-part.invariant.row_is
    c.requires in
    omega (arith, f, ap (λ (p : Pair). p.weight) c.pair_from.ensures.value)

pub loop-part-preserved : goal.loop-part-preserved
loop-part-preserved c = record {
  row_is = gathered_more c.args.members c.args.sums.now c.loop-part.part-index no_part c.loop-part.row.items c.add.new.row.items c.loop-part-test.true
      c.loop-part.invariant.row_is
      (c.in_ok-add.ensures.row ∙ ap (λ p. join p (reverse c.loop-part.row.items)) c.pair_from.ensures.value);
  moderate = c.in_ok-add.ensures.moderate;
}

pub pair_from-requires : goal.pair_from-requires
pair_from-requires c =
    omega (
      arith,
      gathered_few c.args.members c.args.sums.now c.loop-part.part-index no_part c.loop-part.row.items c.loop-part-test.true c.loop-part.invariant.row_is
          c.requires,
    )

pub returns : goal.returns
returns c = grind (arith, common_steps)

pub add-requires-clause-moderate : goal.add-requires-clause-moderate
add-requires-clause-moderate c = grind arith

pub offset_bounds-sums-part-index : goal.offset_bounds-sums-part-index
offset_bounds-sums-part-index c = omega arith
