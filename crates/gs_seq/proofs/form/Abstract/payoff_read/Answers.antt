use Rattle.std.proofs.lemmas.Grind.{common_steps}
use Rattle.std.proofs.Common.{rules, ◌≡◌, ◌+◌, ◌-◌, ℕ, List, ap, ◌∙◌, arith, get_or, pos, FitsSigned, of_z, subst, sym, to_z}
use Rattle.std.specs.{Int.{w128}, Prelude.{ℤ}}
use Rattle.gs_model.specs.{Classes.{IsClass}, Frame.{round_of}, Pairs.{class_number}, Positions.{at_end}}
use Rattle.gs_seq.specs.{Abstracts.{abstract_frame, lists_of}, Plans.{class_plan}, declared.plan.Plan.{Plan}}
use Rattle.gs_seq.proofs.{EndTotals.{IsNext, end_put, next_fits, next_put, next_within}, Forms.{given_in}, Signed.{read_back}}
use Rattle.gs_seq.proofs.form.Abstract.payoff_read.Goals.{After-number_at-number}
use Rattle.gs_seq.proofs.form.Abstract.payoff_read.Goals as goal

-- what the list has of a class
read_at : (sums : List ℤ) (n : ℕ) (w : ℤ) → get_or sums (n + 1 - 1) (pos 0) ≡ w → get_or sums n (pos 0) ≡ w
read_at sums n w h = let at : n ≡ n + 1 - 1 = omega arith in ap (λ i. get_or sums i (pos 0)) at ∙ h

-- the class, its number and what the end pays there
next : (c : After-number_at-number) → FitsSigned w128 (get_or c.end_sums.new.sums c.loop-before.before (pos 0))
    → let f = abstract_frame c.args.self.now in let ls = lists_of c.args.self.now in
    IsNext f ls (class_plan f ls c.args.x.now) (class_plan f ls c.args.y.now) c.args.end c.loop-before.before c.number_at-number.result
    (to_z w128 (of_z w128 (get_or c.end_sums.new.sums c.loop-before.before (pos 0))))
next c fits =
    let f = abstract_frame c.args.self.now in
    let ls = lists_of c.args.self.now in
    let x = class_plan f ls c.args.x.now in
    let n = c.loop-before.before in
    let sums = c.end_sums.new.sums in
    let class : IsClass ls (round_of f (at_end c.args.end)) (n + 1) =
    (omega arith, omega (arith, c.end_class_total-before-end.ensures, c.loop-before-test.true)) in
    record {
      class = class;
      number = c.number_at-number.ensures.value
          ∙ ap (λ (q : Plan). class_number f ls q.player (class_plan f ls q) c.plan_at-own.result.end (n + 1)) c.plan_at-own.ensures.plan
          ∙ ap (λ z. class_number f ls c.args.x.now.player x z (n + 1)) c.plan_at-own.ensures.end
          ∙ ap (λ p. class_number f ls p x c.args.end (n + 1)) c.requires.x.player_is;
      worth = read_back (get_or sums n (pos 0)) _ fits (read_at sums n _ (c.end_sums.ensures.here (n + 1) class));
    }

pub number_at-number-requires-clause-class : goal.number_at-number-requires-clause-class
number_at-number-requires-clause-class c =
    subst (λ z. IsClass (lists_of c.args.self.now) (round_of (abstract_frame c.args.self.now) (at_end z)) (c.loop-before.before + 1))
    (sym c.plan_at-own.ensures.end)
    (omega arith, omega (arith, c.end_class_total-before-end.ensures, c.loop-before-test.true))

pub scaled-requires : goal.scaled-requires
scaled-requires c =
    next_fits _ _ (given_in c.args.self.now) _ _ c.requires.x.plan.plan c.requires.y.plan.plan c.args.end _ _ _ c.requires.end
    (next (goal.at.scaled-requires c).After-number_at-number (search rules))

pub plus-sum-requires : goal.plus-sum-requires
plus-sum-requires c =
    next_within _ _ (given_in c.args.self.now) _ _ c.requires.x.plan.plan c.requires.y.plan.plan c.args.end _ _ _ c.requires.end
    (next (goal.at.plus-sum-requires c).After-number_at-number (search rules)) _ _ c.loop-before.invariant
    (read_back c.scaled.result _ (record { sfits = c.scaled.type_inv }) c.scaled.ensures)

pub loop-before-preserved : goal.loop-before-preserved
loop-before-preserved c =
    read_back c.plus-sum.result _ (record { sfits = c.plus-sum.type_inv }) (c.plus-sum.ensures
    ∙ next_put _ _ (given_in c.args.self.now) _ _ c.requires.x.plan.plan c.requires.y.plan.plan c.args.end _ _ _ c.requires.end
    (next (goal.at.loop-before-preserved c).After-number_at-number (search rules)) _ _ c.loop-before.invariant
    (read_back c.scaled.result _ (record { sfits = c.scaled.type_inv }) c.scaled.ensures))

pub returns : goal.returns
returns c =
    let f = abstract_frame c.args.self.now in
    let ls = lists_of c.args.self.now in
    end_put f ls (class_plan f ls c.args.x.now) (class_plan f ls c.args.y.now) c.args.end c.loop-before.before _
    (omega (arith, c.loop-before-test.false, c.loop-before.auto, c.end_class_total-before-end.ensures)) c.loop-before.invariant

pub plan_at-own-requires : goal.plan_at-own-requires
plan_at-own-requires c = grind (arith, common_steps)

pub end_sums-requires : goal.end_sums-requires
end_sums-requires c = grind (arith, common_steps)

pub end_class_total-before-end-requires : goal.end_class_total-before-end-requires
end_class_total-before-end-requires c = omega arith

pub overflow_cast-before : goal.overflow_cast-before
overflow_cast-before c = omega arith

pub offset_bounds-sums-before : goal.offset_bounds-sums-before
offset_bounds-sums-before c = omega arith

pub overflow_add-before : goal.overflow_add-before
overflow_add-before c = grind arith
