use Rattle.std.proofs.{Common.{◌≡◌, ◌<◌, Bool, of_z, to_z, sym, subst, ◌∙◌, arith, ⊎_elim}, lemmas.Bool.{cases_eq}}
use Rattle.std.specs.{Int.{w128}, Int.Signed.{lt_z}, Prelude.{◌≤ℤ◌, ◌<ℤ◌}}
use Rattle.gs_model.specs.{BestAnswers.{class_worth}, Frame.{move_count}, Positions.{at_point}}
use Rattle.gs_seq.proofs.Signed.{read_back}
use Rattle.gs_best.specs.Sides.{frame_at, lists_at}
use Rattle.gs_certificate.specs.{Claims.{claimed}, Numbers.{TellsWhether}}
use Rattle.gs_certificate.proofs.{Compared.{both_tell}, Together.{here_is, here_way, size, some_size, worth_is}, low.is_below_one.Goals.{After-worth_of}}
use Rattle.gs_certificate.proofs.low.is_below_one.Goals as goal

pub total_at-number-requires-clause-way : goal.total_at-number-requires-clause-way
total_at-number-requires-clause-way c = here_way c.args.spot.now

in_moves : (c : After-worth_of) → c.loop-choice.choice < move_count (frame_at c.args.spot.now.claim.side) c.args.spot.now.point
in_moves c = omega (arith, c.loop-choice-test.true, c.move_total-choice-end.ensures.value)

-- what the test of a move tells
told : (c : After-worth_of) {says : Bool} → lt_z (to_z w128 (of_z w128 c.total_at-number.result)) (to_z w128 (of_z w128 c.worth_of.result)) ≡ says
    → let p = c.args.spot.now in let k = p.claim in
    let worth = class_worth (frame_at k.side) (lists_at k.side) (claimed k) p.point c.loop-choice.choice c.args.class in
    let number = claimed k (at_point p.point) c.args.class in TellsWhether says (number <ℤ worth) (worth ≤ℤ number)
told c e =
    let p = c.args.spot.now in
    let k = p.claim in
    let n = c.args.class in
    let worth = class_worth (frame_at k.side) (lists_at k.side) (claimed k) p.point c.loop-choice.choice n in
    let number = claimed k (at_point p.point) n in
    subst (λ b. TellsWhether b (number <ℤ worth) (worth ≤ℤ number)) e
    (both_tell (size p n c.requires.class) number worth _ _ (some_size p n c.requires.class)
    (read_back c.total_at-number.result _ (record { sfits = c.total_at-number.type_inv }) c.total_at-number.ensures.value ∙ here_is p n c.requires.class)
    (read_back c.worth_of.result _ (record { sfits = c.worth_of.type_inv }) c.worth_of.ensures.value
    ∙ worth_is p n c.requires.class c.loop-choice.choice (in_moves c)))

pub returns-then-number-worth_of : goal.returns-then-number-worth_of
returns-then-number-worth_of c =
    let at = (goal.at.returns-then-number-worth_of c).After-worth_of in
    (c.loop-choice.choice, in_moves at, told at c.if-number-worth_of.true)

pub loop-choice-preserved : goal.loop-choice-preserved
loop-choice-preserved c m lm =
    let p = c.args.spot.now in
    let k = p.claim in
    let high = told (goal.at.loop-choice-preserved c).After-worth_of c.if-number-worth_of.false in
    ⊎_elim
    (λ (same : m ≡ c.loop-choice.choice).
    subst (λ i. class_worth (frame_at k.side) (lists_at k.side) (claimed k) p.point i c.args.class ≤ℤ claimed k (at_point p.point) c.args.class)
    (sym same) high)
    (λ (other : m ≡ c.loop-choice.choice → ⊥). c.loop-choice.invariant m (omega arith))
    (cases_eq m c.loop-choice.choice)

pub returns : goal.returns
returns c m lm = c.loop-choice.invariant m (omega (arith, c.loop-choice-test.false, c.loop-choice.auto.choice-end, c.move_total-choice-end.ensures.value))

pub loop-choice-init : goal.loop-choice-init
loop-choice-init c = grind arith

pub worth_of-requires-clause-ways : goal.worth_of-requires-clause-ways
worth_of-requires-clause-ways c = grind arith
