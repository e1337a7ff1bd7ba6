use Rattle.std.proofs.Common.{◌≡◌, ◌+◌, ◌≤◌, ap, ◌∙◌, arith, of_z, to_z}
use Rattle.std.specs.{Int.{w128}, List.{range_with_len}, Prelude.{◌+ℤ◌}}
use Rattle.gs_model.specs.{Frame.{end_count}, Sums.{sum_z}}
use Rattle.gs_seq.specs.{Payoffs.{payoff_at}, Plans.{class_plan}}
use Rattle.gs_seq.proofs.{EndTotals.{ends_are_all, ends_within, from_zero, range_put}, Signed.{read_back}}
use Rattle.gs_best.specs.Sides.{frame_at, lists_at}
use Rattle.gs_certificate.proofs.{Kept.{other_plan, side_given}, ends.plans_pay.Goals.{After-end_paid}}
use Rattle.gs_certificate.proofs.ends.plans_pay.Goals as goal

-- the sum with the end's part
sum_is : (c : After-end_paid) → let d = c.args.first.now in let f = frame_at d in let ls = lists_at d in
    to_z w128 c.loop-end.sum-bits +ℤ to_z w128 (of_z w128 c.end_paid.result) ≡ sum_z
    (payoff_at f ls (class_plan f ls c.args.x.now) (class_plan f ls d.other.now)) (range_with_len 0 (c.loop-end.end + 1))
sum_is c =
    let d = c.args.first.now in
    let v = payoff_at (frame_at d) (lists_at d) (class_plan (frame_at d) (lists_at d) c.args.x.now) (class_plan (frame_at d) (lists_at d) d.other.now) in
    range_put v 0 c.loop-end.end _ _ c.loop-end.invariant
    (read_back c.end_paid.result _ (record { sfits = c.end_paid.type_inv }) (c.end_paid.ensures ∙ ap v (from_zero c.loop-end.end)))

pub end_paid-requires-clause-end : goal.end_paid-requires-clause-end
end_paid-requires-clause-end c = omega (arith, c.loop-end-test.true, c.end_total-end-end.ensures)

pub plus-sum-requires : goal.plus-sum-requires
plus-sum-requires c =
    let d = c.args.first.now in
    let inside : c.loop-end.end + 1 ≤ end_count (frame_at d) = omega (arith, c.end_total-end-end.ensures, c.loop-end-test.true) in
    ends_within _ _ (side_given d) _ _ c.requires.x.plan.plan (other_plan d c.requires.first) (c.loop-end.end + 1) inside _
    (sum_is (goal.at.plus-sum-requires c).After-end_paid)

pub loop-end-preserved : goal.loop-end-preserved
loop-end-preserved c = read_back c.plus-sum.result _ (record { sfits = c.plus-sum.type_inv })
    (c.plus-sum.ensures ∙ sum_is (goal.at.loop-end-preserved c).After-end_paid)

pub returns : goal.returns
returns c =
    let d = c.args.first.now in
    let all : c.loop-end.end ≡ end_count (frame_at d) = omega (arith, c.end_total-end-end.ensures, c.loop-end-test.false, c.loop-end.auto.end-end) in
    ends_are_all _ _ (side_given d) _ _ c.requires.x.plan.plan (other_plan d c.requires.first) c.loop-end.end all _ c.loop-end.invariant

pub end_paid-requires-clause-ends : goal.end_paid-requires-clause-ends
end_paid-requires-clause-ends c = grind arith

pub end_paid-requires-clause-x : goal.end_paid-requires-clause-x
end_paid-requires-clause-x c = grind arith
