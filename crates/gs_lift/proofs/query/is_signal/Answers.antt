use Rattle.std.proofs.{Common.{◌≡◌, ◌+◌, ◌≤◌, ℕ, true, false, inl, inr, sym, arith, subst, refl, Option, Some, None}, lemmas.Bool.{cases_eq, false≢true}}
use Rattle.std.specs.Prelude.{IfSome, is_some}
use Rattle.gs_model.specs.Game.{round_count}
use Rattle.gs_tree.specs.Trees.{rules_of}
use Rattle.gs_lift.specs.Queries.{IsTextOfSignal}
use Rattle.gs_lift.proofs.Spots.{names_found, names_none, rounds_are}
use Rattle.gs_lift.proofs.query.is_signal.Goals as goal

-- what holds of the value, where there is one
some_holds : (o : Option ℕ) (P : ℕ → Type 0) → true ≡ is_some o → IfSome o P → (i : ℕ) × P i
some_holds None P e h = absurd (false≢true (sym e))
some_holds (Some i) P e h = (i, h)

none_is : (o : Option ℕ) → false ≡ is_some o → o ≡ None
none_is None e = refl
none_is (Some i) e = absurd (false≢true e)

pub returns-then-is_some : goal.returns-then-is_some
returns-then-is_some c =
    let s = c.args.signals.now in
    let round = c.loop-before.before + 1 in
    let top : round ≤ round_count (rules_of s) = omega (arith, c.loop-before-test.true, c.rounds-before-end.ensures.value) in
    let f = some_holds c.index_of.result _ c.if-is_some.ensures c.index_of.ensures.found in
    ((λ _. (round, omega arith, omega (arith, top, rounds_are s), f.0, names_found s round f.0 c.args.text.now (omega arith) top f.1)), λ _. refl)

pub loop-before-preserved : goal.loop-before-preserved
loop-before-preserved c =
    let s = c.args.signals.now in
    let here = c.loop-before.before + 1 in
    let none = names_none s here c.args.text.now c.index_of.result (omega arith) (omega (arith, c.loop-before-test.true, c.rounds-before-end.ensures.value))
    c.index_of.ensures.only (none_is c.index_of.result c.if-is_some.ensures) in
    λ round some top i h. elim (cases_eq round here) [
      | inl e ↦ none i (subst (λ n. IsTextOfSignal s n c.args.text.now i) e h)
      | inr other ↦ c.loop-before.invariant round some (omega (arith, top, other)) i h
    ]

pub returns : goal.returns
returns c =
    let s = c.args.signals.now in (
      (λ e. absurd (false≢true e)),
      λ h. absurd (c.loop-before.invariant h.0 h.1
          (omega (arith, h.2, rounds_are s, c.rounds-before-end.ensures.value, c.loop-before-test.false)) h.3 h.4),
    )
