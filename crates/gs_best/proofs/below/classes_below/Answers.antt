use Rattle.std.proofs.{Common.{◌≡◌, ◌+◌, ◌<◌, ap, ◌∙◌, arith, ⊎_elim}, lemmas.Bool.{cases_eq}}
use Rattle.gs_model.specs.Classes.{IsClass, first_member}
use Rattle.gs_seq.specs.Abstracts.{abstract_frame, lists_of}
use Rattle.gs_best.specs.ClassTotals.{earlier_class}
use Rattle.gs_best.proofs.{FormRuns.{form_first, form_more, form_none, form_past, form_run}, below.classes_below.Goals.{After-run_below-run}}
use Rattle.gs_best.proofs.below.classes_below.Goals as goal

some : (c : After-run_below-run) → (c.run_below-run.result.first ≡ c.run_below-run.result.end → ⊥) → c.run_below-run.result.first < c.run_below-run.result.end
some c not = ⊎_elim (λ (e : c.run_below-run.result.first ≡ c.run_below-run.result.end). absurd (not e))
    (λ (n : c.run_below-run.result.first ≡ c.run_below-run.result.end
    → ⊥). omega (arith, c.run_below-run.ensures.ordered, n)) (cases_eq c.run_below-run.result.first c.run_below-run.result.end)

pub returns-then-run : goal.returns-then-run
returns-then-run c =
    form_none c.args.form.now c.args.from c.args.to c.args.class c.requires.some c.requires.onward c.requires.top c.requires.class _ _ c.run_below-run.ensures
    (omega (arith, c.if-run.true))

pub loop-next-init : goal.loop-next-init
loop-next-init c =
    let a = c.args.form.now in
    let first = form_first a c.args.from c.args.to c.args.class c.requires.some c.requires.onward c.requires.top c.requires.class _ _ c.run_below-run.ensures
    (some (goal.at.loop-next-init c).After-run_below-run c.if-run.false) in
    λ k lo hi. ap (earlier_class (abstract_frame a) (lists_of a) c.args.to c.args.from) (omega (arith, lo, hi, c.class_at-first.ensures.value)) ∙ first

pub loop-next-preserved : goal.loop-next-preserved
loop-next-preserved c =
    let a = c.args.form.now in
    let next = c.loop-next.next in
    λ k lo hi. ⊎_elim
    (λ (same : k ≡ next).
    let class : IsClass (lists_of a) c.args.to k = (
      omega (arith, same, c.class_at-first.ensures.class, lo),
      omega (arith, same, c.loop-next-test.true, c.class_total-past.ensures.value),
    ) in
    form_more a c.args.from c.args.to c.args.class c.requires.some c.requires.onward c.requires.top c.requires.class _ _ c.run_below-run.ensures
    (some (goal.at.loop-next-preserved c).After-run_below-run c.if-run.false) k (omega (arith, lo, c.class_at-first.ensures.value)) class
    (omega (arith, ap (first_member (lists_of a) c.args.to) same, c.first_of.ensures.value, c.if-first_of-run.false)))
    (λ (other : k ≡ next → ⊥). c.loop-next.invariant k lo (omega (arith, hi, other)))
    (cases_eq k next)

pub returns-then-first_of-run : goal.returns-then-first_of-run
returns-then-first_of-run c =
    let a = c.args.form.now in
    let next = c.loop-next.next in
    let class : IsClass (lists_of a) c.args.to next = (
      omega (arith, c.class_at-first.ensures.class, c.loop-next.auto.next),
      omega (arith, c.loop-next-test.true, c.class_total-past.ensures.value),
    ) in
    let any = some (goal.at.returns-then-first_of-run c).After-run_below-run c.if-run.false in
    form_run a c.args.from c.args.to c.args.class c.requires.some c.requires.onward c.requires.top c.requires.class _ _ c.run_below-run.ensures
    c.class_at-first.result next any c.class_at-first.ensures.value (omega (arith, c.loop-next.auto.next)) (omega (arith, class.1)) c.loop-next.invariant
    (λ k le lo. form_past a c.args.from c.args.to c.args.class c.requires.some c.requires.onward c.requires.top c.requires.class _ _ c.run_below-run.ensures
    any next k class
    (omega (arith, c.first_of.ensures.value, c.if-first_of-run.true)) le lo)

pub returns : goal.returns
returns c =
    let a = c.args.form.now in
    let any = some (goal.at.returns c).After-run_below-run c.if-run.false in
    let end = c.class_total-past.result in
    form_run a c.args.from c.args.to c.args.class c.requires.some c.requires.onward c.requires.top c.requires.class _ _ c.run_below-run.ensures
    c.class_at-first.result (c.class_total-past.result + 1) any c.class_at-first.ensures.value
    (omega (arith, c.class_at-first.ensures.class, c.class_total-past.ensures.value)) (omega (arith, c.class_total-past.ensures.value))
    (λ k lo hi. c.loop-next.invariant k lo (omega (arith, hi, c.loop-next-test.false, c.class_at-first.ensures.class, c.class_total-past.ensures.value)))
    (λ k le lo. absurd (omega (arith, lo, le.1, c.class_total-past.ensures.value)))

pub class_at-first-requires-clause-within : goal.class_at-first-requires-clause-within
class_at-first-requires-clause-within c = grind arith
