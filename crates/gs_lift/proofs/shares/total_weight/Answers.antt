use Rattle.std.proofs.Common.{◌≡◌, ◌+◌, ℕ, ap, ◌∙◌, arith, sum_by}
use Rattle.std.specs.List.{range_with_len}
use Rattle.gs_model.specs.Frame.{move_count}
use Rattle.gs_seq.specs.{Abstracts.{abstract_frame, lists_of}, Plans.{lifted}}
use Rattle.gs_seq.proofs.SlotLaws.{sum_range_more}
use Rattle.gs_lift.proofs.shares.total_weight.Goals as goal

-- one number more
sum_more : (number : ℕ → ℕ) (n total w v : ℕ) → total ≡ sum_by number (range_with_len 0 n) → v ≡ w → w ≡ number n
    → total + v ≡ sum_by number (range_with_len 0 (n + 1))
sum_more number n total w v e is here = omega (arith, sum_range_more number n, e, is, here)

pub loop-choice-preserved : goal.loop-choice-preserved
loop-choice-preserved c =
    let f = abstract_frame c.args.a.now in
    let number : ℕ → ℕ = λ (m : ℕ). (lifted f (lists_of c.args.a.now) c.args.plan.now).number c.args.spot.point c.args.spot.signal m in
    record {
      sum_is = sum_more number c.loop-choice.choice c.loop-choice.total c.weight.result c.from-total.result c.loop-choice.invariant.sum_is c.from-total.ensures
          c.weight.ensures;
      within = omega (arith, c.loop-choice.invariant.within, c.from-total.ensures, c.weight.type_inv);
    }

pub returns-clause-value : goal.returns-clause-value
returns-clause-value c =
    let f = abstract_frame c.args.a.now in
    let number : ℕ → ℕ = λ (m : ℕ). (lifted f (lists_of c.args.a.now) c.args.plan.now).number c.args.spot.point c.args.spot.signal m in
    let last : c.loop-choice.choice ≡ move_count f c.args.spot.point =
    omega (arith, c.move_total-choice-end.ensures.value, c.loop-choice.auto.choice-end, c.loop-choice-test.false) in
    c.loop-choice.invariant.sum_is ∙ ap (λ n. sum_by number (range_with_len 0 n)) last
