use Rattle.std.proofs.{lemmas.Grind.{common_steps}, Common.{◌≡◌, ℕ, ◌+◌, false, true, sym, ◌∙◌, subst, arith, ℤ}, lemmas.Int.{ints, to_z-of_z}}
use Rattle.std.specs.{Prelude.{◌<ℤ◌, ◌≤ℤ◌}, Int.RustNames.{FitsSigned}, Int.Signed.{lt_z}}
use mir.Syntax.{w128}
use Rattle.gs_best.specs.Rows.{IsFirstGreatest}
use Rattle.gs_play.specs.Lines.{line_at, value_in}
use Rattle.gs_play.proofs.{Firsts.{first_kept, first_more}, choosing.first_greatest.Goals.{then-most-worth, else-most-worth}}
use Rattle.gs_play.proofs.choosing.first_greatest.Goals as goal

raised : (u : ℕ → ℤ) (n best best' : ℕ) (most value read new : ℤ) → IsFirstGreatest u n most best → value ≡ u n → read ≡ value → lt_z most read ≡ true
    → best' ≡ n → new ≡ read → IsFirstGreatest u (n + 1) new best'
raised u n best best' most value read new h e g l b v =
    let less : most <ℤ value = omega (arith, ints, g, l) in
    subst (λ p. IsFirstGreatest u (n + 1) new p) (sym b) (subst (λ x. IsFirstGreatest u (n + 1) x n) (sym (v ∙ g)) (first_more u n best most value e less h))

kept : (u : ℕ → ℤ) (n best best' : ℕ) (most value read new : ℤ) → IsFirstGreatest u n most best → value ≡ u n → read ≡ value → lt_z most read ≡ false
    → best' ≡ best → new ≡ most → IsFirstGreatest u (n + 1) new best'
kept u n best best' most value read new h e g l b v =
    let less : u n ≤ℤ most = omega (arith, ints, e, g, l) in
    subst (λ p. IsFirstGreatest u (n + 1) new p) (sym b) (subst (λ x. IsFirstGreatest u (n + 1) x best) (sym v) (first_kept u n best most less h))

pub loop-place-preserved : goal.loop-place-preserved
loop-place-preserved c =
    let fits : FitsSigned w128 c.value-worth.result = record { sfits = c.value-worth.type_inv } in
    let read = to_z-of_z w128 c.value-worth.result fits in
    elim c.if-most-worth.branch [
      | then-most-worth w ↦ raised (λ m. value_in (line_at c.args.lines.now m) c.args.now) c.loop-place.place c.loop-place.best _ _ c.value-worth.result _ _
          c.loop-place.invariant c.value-worth.ensures read w.if-most-worth.true w.best-is w.most-is
      | else-most-worth w ↦ kept (λ m. value_in (line_at c.args.lines.now m) c.args.now) c.loop-place.place c.loop-place.best _ _ c.value-worth.result _ _
          c.loop-place.invariant c.value-worth.ensures read w.if-most-worth.false w.best-is w.most-is
    ]

pub loop-place-init : goal.loop-place-init
loop-place-init c = grind (arith, common_steps)

pub returns : goal.returns
returns c = grind arith
