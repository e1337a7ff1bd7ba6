use Rattle.std.proofs.{Common.{◌≡◌, ◌*◌, ◌<◌, ◌^◌, ◌∙◌, ap, arith, get_or, of_z, pos, subst, sym, to_z}, lemmas.List.{take_all}}
use Rattle.std.specs.{Int.{w128}, Prelude.{◌*ℤ◌, unsigned_abs}}
use Rattle.gs_game.specs.Seen.{end_kind_of}
use Rattle.gs_model.specs.Sums.{sum_z}
use Rattle.gs_seq.specs.{Payoffs.{weight_of}, declared.pair.Pair.{Pair}}
use Rattle.gs_seq.proofs.{Signed.{read_back}, AlongRows.{along_more, along_small, more_small, number_to, product_small, weight_kept, weights_moderate}}
use Rattle.gs_seq.proofs.weighing.weights_along.Goals.{After-times}
use Rattle.gs_seq.proofs.weighing.weights_along.Goals as goal

abbrev no_pair : Pair
no_pair = record { two = 0; weight = 0; signed = pos 0 }

-- the pair's part
part : (c : After-times) → to_z w128 (of_z w128 c.times.result) ≡ (let p = get_or c.args.row.now c.loop-pair.pair-index no_pair in
    pos (number_to c.args.numbers.now p) *ℤ weight_of (end_kind_of c.args.end.kind) p)
part c =
    let row = c.args.row.now in
    let kind = end_kind_of c.args.end.kind in
    let kept = weight_kept row c.args.numbers.now (weight_of kind) c.requires.slim c.requires.numbers (weights_moderate kind row c.requires.slim)
    c.loop-pair.pair-index no_pair c.loop-pair-test.true _ c.weight_at.ensures in
    read_back c.times.result _ (record { sfits = c.times.type_inv }) (c.times.ensures ∙ ap (λ z. pos c.number_of-number.result *ℤ z) kept
    ∙ ap (λ n. pos n *ℤ weight_of kind (get_or row c.loop-pair.pair-index no_pair)) c.number_of-number.ensures)

pub number_of-number-requires : goal.number_of-number-requires
number_of-number-requires c = record {
  some = (c.requires.numbers c.loop-pair.pair-index no_pair c.loop-pair-test.true).0;
  within = (c.requires.numbers c.loop-pair.pair-index no_pair c.loop-pair-test.true).1;
}

pub times-requires : goal.times-requires
times-requires c = record {
  few = omega (arith, c.number_of-number.ensures, (c.requires.numbers c.loop-pair.pair-index no_pair c.loop-pair-test.true).2);
  fits = let row = c.args.row.now in
      let kind = end_kind_of c.args.end.kind in
      let moderate = weights_moderate kind row c.requires.slim in
      subst (λ z. c.number_of-number.result * unsigned_abs z < 2 ^ 127)
      (sym (weight_kept row c.args.numbers.now (weight_of kind) c.requires.slim c.requires.numbers moderate c.loop-pair.pair-index no_pair c.loop-pair-test.true _
      c.weight_at.ensures))
      (subst (λ n. n * unsigned_abs (weight_of kind (get_or row c.loop-pair.pair-index no_pair)) < 2 ^ 127) (sym c.number_of-number.ensures)
      (product_small row c.args.numbers.now (weight_of kind) c.requires.slim c.requires.numbers moderate c.loop-pair.pair-index no_pair c.loop-pair-test.true));
}

pub plus-sum-requires : goal.plus-sum-requires
plus-sum-requires c =
    let kind = end_kind_of c.args.end.kind in
    more_small c.args.row.now c.args.numbers.now (weight_of kind) c.requires.slim c.requires.numbers (weights_moderate kind c.args.row.now c.requires.slim)
    c.loop-pair.pair-index no_pair c.loop-pair-test.true _ _ c.loop-pair.invariant (part (goal.at.plus-sum-requires c).After-times)

pub loop-pair-preserved : goal.loop-pair-preserved
loop-pair-preserved c =
    let kind = end_kind_of c.args.end.kind in
    read_back c.plus-sum.result _ (record { sfits = c.plus-sum.type_inv }) (c.plus-sum.ensures
    ∙ along_more c.args.row.now c.args.numbers.now (weight_of kind) c.requires.slim c.requires.numbers (weights_moderate kind c.args.row.now c.requires.slim)
    c.loop-pair.pair-index no_pair c.loop-pair-test.true _ _ c.loop-pair.invariant (part (goal.at.loop-pair-preserved c).After-times))

pub returns : goal.returns
returns c =
    let row = c.args.row.now in
    let kind = end_kind_of c.args.end.kind in
    let small = along_small row c.args.numbers.now (weight_of kind) c.requires.slim c.requires.numbers (weights_moderate kind row c.requires.slim)
    c.loop-pair.pair-index in
    record {
      value = c.loop-pair.invariant ∙ ap (sum_z (λ (p : Pair). pos (number_to c.args.numbers.now p) *ℤ weight_of kind p))
          (take_all c.loop-pair.pair-index row (omega (arith, c.loop-pair-test.false)));
      small = omega (arith, small, ap unsigned_abs c.loop-pair.invariant);
    }
