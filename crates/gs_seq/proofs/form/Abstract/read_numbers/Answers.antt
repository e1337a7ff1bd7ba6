use Rattle.std.proofs.lemmas.Grind.{common_steps}
use Rattle.std.proofs.Common.{◌≡◌, ◌≢◌, ℕ, ◌+◌, ◌<◌, ◌≤◌, ◌^◌, ◌∙◌, List, ap, arith, get_or, length, set, subst, sym, ⊎_elim}
use Rattle.std.proofs.{lemmas.Bool.{cases_eq}, lemmas.Grind.{get_or-set_at}, lemmas.List.{get_or-set_other}}
use Rattle.gs_model.specs.{Classes.{IsClass}, Frame.{round_of}, Pairs.{class_number}, Positions.{at_end}}
use Rattle.gs_seq.specs.{Abstracts.{abstract_frame, lists_of}, Plans.{class_plan}, declared.plan.Plan.{Plan}}
use Rattle.gs_seq.proofs.form.Abstract.read_numbers.Goals.{After-number_at}
use Rattle.gs_seq.proofs.form.Abstract.read_numbers.Goals as goal

-- what holds of the first numbers and of the next one holds of them together
put : (xs : List ℕ) (n v : ℕ) (P : ℕ → ℕ → Type 0) → n < length xs → P n v → ((k : ℕ) → k < n → P k (get_or xs k 0))
    → (k : ℕ) → k < n + 1 → P k (get_or (set xs n v) k 0)
put xs n v P l new old k m = ⊎_elim
    (λ (is : k ≡ n). subst (P k) (sym (get_or-set_at xs n k v 0 is l)) (subst (λ j. P j v) (sym is) new))
    (λ (ne : k ≢ n). subst (P k) (sym (get_or-set_other xs n k v 0 ne)) (old k (omega (arith, m, ne))))
    (cases_eq k n)

pub number_at-requires-clause-class : goal.number_at-requires-clause-class
number_at-requires-clause-class c =
    subst (λ z. IsClass (lists_of c.args.self.now) (round_of (abstract_frame c.args.self.now) (at_end z)) (c.loop-before.before + 1))
    (sym c.plan_at-at.ensures.end)
    (omega arith, omega (arith, c.end_class_total-before-end.ensures, c.loop-before-test.true))

number_is : (c : After-number_at) → let f = abstract_frame c.args.self.now in let ls = lists_of c.args.self.now in
    c.number_at.result ≡ class_number f ls c.args.plan.now.player (class_plan f ls c.args.plan.now) c.args.end (c.loop-before.before + 1)
number_is c =
    let f = abstract_frame c.args.self.now in
    let ls = lists_of c.args.self.now in
    let p = c.args.plan.now in
    c.number_at.ensures.value
    ∙ ap (λ (q : Plan). class_number f ls q.player (class_plan f ls q) c.plan_at-at.result.end (c.loop-before.before + 1)) c.plan_at-at.ensures.plan
    ∙ ap (λ z. class_number f ls p.player (class_plan f ls p) z (c.loop-before.before + 1)) c.plan_at-at.ensures.end

pub loop-before-preserved : goal.loop-before-preserved
loop-before-preserved c =
    let at = (goal.at.loop-before-preserved c).After-number_at in
    let f = abstract_frame c.args.self.now in
    let ls = lists_of c.args.self.now in
    let p = c.args.plan.now in
    let n = c.loop-before.before in
    let numbers = c.loop-before.numbers in
    let inside : n < length numbers = omega (arith, c.requires.wide, c.end_class_total-before-end.ensures, c.loop-before-test.true, c.loop-before.auto.numbers)
    in
    let few : c.number_at.result ≤ 2 ^ 36 =
    omega (arith, c.number_at.ensures.within, ap (λ (q : Plan). q.total) c.plan_at-at.ensures.plan, c.requires.plan.plan.plan.total_in.1) in
    record {
      read = put numbers n c.number_at.result (λ k v. v ≡ class_number f ls p.player (class_plan f ls p) c.args.end (k + 1)) inside (number_is at)
          c.loop-before.invariant.read;
      few = put numbers n c.number_at.result (λ k v. v ≤ 2 ^ 36) inside few c.loop-before.invariant.few;
    }

pub plan_at-at-requires-clause-plan : goal.plan_at-at-requires-clause-plan
plan_at-at-requires-clause-plan c = grind arith

pub returns : goal.returns
returns c = grind (arith, common_steps)

pub bounds-numbers-before : goal.bounds-numbers-before
bounds-numbers-before c = omega arith
