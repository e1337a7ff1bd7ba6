use Rattle.std.proofs.lemmas.Grind.{common_steps}
use Rattle.std.proofs.Common.{◌≡◌, ℕ, Option, Some, None, length, sym, subst, arith}
use Rattle.gs_simplex.specs.{declared.choice.Ratio.{Ratio}, Table.{grid_of}, Choice.{IsLeaving}}
use Rattle.gs_simplex.proofs.Choosing.{IsLeastSoFar, one_more, none_leaves_from, leaves_from}
use Rattle.gs_simplex.proofs.choice.leaving.Goals as goal

pub loop-place-preserved : goal.loop-place-preserved
loop-place-preserved c =
    one_more c.args.p.now c.args.basis.now (grid_of c.args.p.now c.args.table.now) c.args.e c.loop-place.place c.loop-place.best c.ratio_at.result
    c.better-best.result c.loop-place.invariant c.ratio_at.ensures
    c.better-best.ensures

pub returns-in_err-best : goal.returns-in_err-best
returns-in_err-best c =
    let p = c.args.p.now in let l = c.args.basis.now in let rows = grid_of p c.args.table.now in
    let all : c.loop-place.place ≡ length l = omega arith in
    let P : Option Ratio → Type 0 = λ x. IsLeastSoFar p l rows c.args.e c.loop-place.place x in
    let Q : ℕ → Type 0 = λ k. IsLeastSoFar p l rows c.args.e k None in
    let R : Option ℕ → Type 0 = λ x. IsLeaving p l rows c.args.e x in
    subst R (sym c.from_residual.ensures) (none_leaves_from p l rows c.args.e (subst Q all (subst P (c.in_err-best.was) c.loop-place.invariant)))

pub returns : goal.returns
returns c =
    let p = c.args.p.now in let l = c.args.basis.now in let rows = grid_of p c.args.table.now in
    let all : c.loop-place.place ≡ length l = omega arith in
    let P : Option Ratio → Type 0 = λ x. IsLeastSoFar p l rows c.args.e c.loop-place.place x in
    let Q : ℕ → Type 0 = λ k. IsLeastSoFar p l rows c.args.e k (Some c.in_ok-best.field-0) in
    leaves_from p l rows c.args.e c.in_ok-best.field-0 (subst Q all (subst P (c.in_ok-best.was) c.loop-place.invariant))

pub ratio_at-requires-clause-shaped : goal.ratio_at-requires-clause-shaped
ratio_at-requires-clause-shaped c = c.requires.shaped

pub better-best-requires : goal.better-best-requires
better-best-requires c = grind (arith, common_steps)

pub loop-place-init : goal.loop-place-init
loop-place-init c = grind arith
