use Rattle.std.proofs.Common.{ℤ, pos, ◌<ℤ◌, ◌≤ℤ◌, to_z, of_z, w64, subst, ◌∙◌, below_more}
use Rattle.gs_simplex.specs.Table.{grid_of}
use Rattle.gs_simplex.proofs.Fits.{kept_64, lt_true, lt_false}
use Rattle.gs_simplex.proofs.choice.entering.Goals as goal

pub loop-j-preserved : goal.loop-j-preserved
loop-j-preserved c =
    let p = c.args.p.now in let t = c.args.table.now in let x = c.number_at.result in
    let P : ℤ → Type 0 = λ z. z ≤ℤ pos 0 in
    below_more (λ k. grid_of p t p.rows k ≤ℤ pos 0) c.loop-j.j c.loop-j.invariant
    (subst P (kept_64 x c.number_at.ensures.narrow ∙ c.number_at.ensures.value) (lt_false (pos 0) (to_z w64 (of_z w64 x)) c.if-number_at-gt0.false))

pub returns-then-number_at-gt0 : goal.returns-then-number_at-gt0
returns-then-number_at-gt0 c =
    let x = c.number_at.result in let P : ℤ → Type 0 = λ z. pos 0 <ℤ z in (
      c.loop-j-test.true,
      subst P (kept_64 x c.number_at.ensures.narrow ∙ c.number_at.ensures.value) (lt_true (pos 0) (to_z w64 (of_z w64 x)) c.if-number_at-gt0.true),
      c.loop-j.invariant,
    )
