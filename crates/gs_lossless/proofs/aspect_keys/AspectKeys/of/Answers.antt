use Rattle.std.proofs.lemmas.Result.{IfOk-from_err}
use Rattle.std.proofs.Common.{◌≡◌, ℕ, subst}
use Rattle.std.specs.Prelude.{IfOk}
use Rattle.gs_filter.specs.Filter.{Filter}
use Rattle.gs_tree.specs.declared.signals.Signals.{Signals}
use Rattle.gs_lossless.specs.declared.aspects.Aspect.{Aspect}
use Rattle.gs_lossless.proofs.aspect_keys.AspectKeys.of.Goals as goal

pub returns-clause-aspect : goal.returns-clause-aspect
returns-clause-aspect c =
    let r = c.with_tables.result in
    let is = c.in_ok-at.ensures.aspect in
    subst (λ (n : ℕ). IfOk r (λ at. (at.aspect ≡ c.args.aspect) × (at.round ≡ n))) is.1
    (subst (λ (s : Aspect). IfOk r (λ at. (at.aspect ≡ s) × (at.round ≡ c.in_ok-at.at.round))) is.0 c.with_tables.ensures.aspect)

pub returns-clause-classes : goal.returns-clause-classes
returns-clause-classes c =
    subst (λ (k : Filter). IfOk c.with_tables.result (λ at. at.classes.now ≡ k)) c.in_ok-at.ensures.classes c.with_tables.ensures.classes

pub returns-clause-signals : goal.returns-clause-signals
returns-clause-signals c =
    subst (λ (s : Signals). IfOk c.with_tables.result (λ at. at.signals.now ≡ s)) c.in_ok-at.ensures.signals c.with_tables.ensures.signals

pub returns-in_err-at : goal.returns-in_err-at
returns-in_err-at c = let failed = c.from_residual.ensures.0 in record {
  signals = IfOk-from_err _ _ failed;
  classes = IfOk-from_err _ _ failed;
  aspect = IfOk-from_err _ _ failed;
}
