use Rattle.std.proofs.lemmas.Grind.{common_steps}
use Rattle.std.proofs.Common.{◌≡◌, ◌+◌, ap, ◌∙◌, arith, of_z, to_z}
use Rattle.std.specs.{Int.{w128}, List.{range_with_len}, Prelude.{◌+ℤ◌}}
use Rattle.gs_model.specs.{Classes.{IsClass, class_count}, Frame.{round_of}, Pairs.{class_number}, Positions.{at_end}, Sums.{sum_z}}
use Rattle.gs_seq.specs.{Payoffs.{end_sum}, Plans.{class_plan}}
use Rattle.gs_seq.proofs.{EndTotals.{class_term, classes_within, range_put, term_fits, term_is, term_within}, Signed.{read_back}}
use Rattle.gs_best.specs.Sides.{frame_at, lists_at}
use Rattle.gs_certificate.proofs.Kept.{other_plan, side_given}
use Rattle.gs_certificate.proofs.ends.end_paid.Goals.{After-class_total-before-end, After-kept_at, After-number_at_end-number, After-scaled, In-loop-before}
use Rattle.gs_certificate.proofs.ends.end_paid.Goals as goal

-- the classes, and the class of a turn with its number and what the end pays it
count_is : (c : After-class_total-before-end) → let d = c.args.first.now in c.class_total-before-end.result ≡ class_count (lists_at d)
    (round_of (frame_at d) (at_end c.args.end))
count_is c = c.class_total-before-end.ensures.value ∙ ap (class_count (lists_at c.args.first.now)) c.end_round.ensures.value

here : (c : In-loop-before) → let d = c.args.first.now in IsClass (lists_at d) (round_of (frame_at d) (at_end c.args.end)) (c.loop-before.before + 1)
here c = (omega arith, omega (arith, count_is (goal.at.In-loop-before c).After-class_total-before-end, c.loop-before-test.true))

number_is : (c : After-number_at_end-number) → let f = frame_at c.args.first.now in let ls = lists_at c.args.first.now in c.number_at_end-number.result ≡
    class_number f ls 1 (class_plan f ls c.args.x.now) c.args.end (c.loop-before.before + 1)
number_is c =
    let d = c.args.first.now in
    c.number_at_end-number.ensures.value ∙ ap (λ p. class_number (frame_at d) (lists_at d) p (class_plan (frame_at d) (lists_at d) c.args.x.now) c.args.end
    (c.loop-before.before + 1)) c.requires.x.player_is

worth_is : (c : After-kept_at) → let d = c.args.first.now in to_z w128 (of_z w128 c.kept_at.result) ≡ end_sum (frame_at d) (lists_at d) 1
    (class_plan (frame_at d) (lists_at d) d.other.now) c.args.end (c.loop-before.before + 1)
worth_is c =
    let d = c.args.first.now in
    read_back c.kept_at.result _ (record { sfits = c.kept_at.type_inv })
    (c.kept_at.ensures ∙ ap (λ p. end_sum (frame_at d) (lists_at d) p (class_plan (frame_at d) (lists_at d) d.other.now) c.args.end (c.loop-before.before + 1))
    c.requires.first)

-- the sum with the class's part
sum_is : (c : After-scaled) → let d = c.args.first.now in let f = frame_at d in let ls = lists_at d in
    to_z w128 c.loop-before.sum-bits +ℤ to_z w128 (of_z w128 c.scaled.result) ≡ sum_z
    (class_term f ls (class_plan f ls c.args.x.now) (class_plan f ls d.other.now) c.args.end) (range_with_len 1 (c.loop-before.before + 1))
sum_is c =
    let at = goal.at.After-scaled c in
    let d = c.args.first.now in
    let f = frame_at d in
    let ls = lists_at d in
    let x = class_plan f ls c.args.x.now in
    let y = class_plan f ls d.other.now in
    let n = c.loop-before.before in
    let term = term_is f ls x y c.args.end n c.number_at_end-number.result _ c.scaled.result (number_is at.After-number_at_end-number)
    (worth_is at.After-kept_at) c.scaled.ensures in
    range_put (class_term f ls x y c.args.end) 1 n _ _ c.loop-before.invariant (read_back c.scaled.result _ (record { sfits = c.scaled.type_inv }) term)

pub number_at_end-number-requires-clause-class : goal.number_at_end-number-requires-clause-class
number_at_end-number-requires-clause-class c = here (goal.at.number_at_end-number-requires-clause-class c).In-loop-before

pub scaled-requires : goal.scaled-requires
scaled-requires c =
    let at = goal.at.scaled-requires c in
    let d = c.args.first.now in
    let small = term_within _ _ (side_given d) _ _ c.requires.x.plan.plan (other_plan d c.requires.first) c.args.end (c.loop-before.before + 1) c.requires.end
    (here at.In-loop-before) in
    term_fits c.number_at_end-number.result _ _ _ (number_is at.After-number_at_end-number) (worth_is at.After-kept_at) small

pub plus-sum-requires : goal.plus-sum-requires
plus-sum-requires c =
    let at = goal.at.plus-sum-requires c in
    let d = c.args.first.now in
    classes_within _ _ (side_given d) _ _ c.requires.x.plan.plan (other_plan d c.requires.first) c.args.end (c.loop-before.before + 1) c.requires.end
    (here at.In-loop-before).1 _ (sum_is at.After-scaled)

pub loop-before-preserved : goal.loop-before-preserved
loop-before-preserved c = read_back c.plus-sum.result _ (record { sfits = c.plus-sum.type_inv })
    (c.plus-sum.ensures ∙ sum_is (goal.at.loop-before-preserved c).After-scaled)

pub returns : goal.returns
returns c =
    let d = c.args.first.now in
    let f = frame_at d in
    let ls = lists_at d in
    let all : c.loop-before.before ≡ class_count ls (round_of f (at_end c.args.end)) =
    omega (arith, c.loop-before-test.false, c.loop-before.auto.before-end, count_is (goal.at.returns c).After-class_total-before-end) in
    c.loop-before.invariant ∙ ap (λ n. sum_z (class_term f ls (class_plan f ls c.args.x.now) (class_plan f ls d.other.now) c.args.end) (range_with_len 1 n)) all

pub kept_at-requires : goal.kept_at-requires
kept_at-requires c = grind (arith, common_steps)

pub number_at_end-number-requires-clause-plan : goal.number_at_end-number-requires-clause-plan
number_at_end-number-requires-clause-plan c = grind arith
