use Rattle.std.proofs.Common.{◌≡◌, ℕ, ◌<◌, List, ℤ, pos, get_or, length, rules, ap, ◌∙◌, arith, FitsSigned, to_z, of_z, to_z-of_z}
use Rattle.std.specs.Int.{w64}
use Rattle.gs_simplex.proofs.Spread.{written_all, written_more}
use Rattle.gs_simplex.proofs.sparse.Row.dense.Goals as goal

pub loop-kept-preserved : goal.loop-kept-preserved
loop-kept-preserved c =
    let items = c.deref-kept-items.ensures.value in let k = c.loop-kept.kept-index in let e = get_or c.deref-kept-items.result.now k (0, pos 0) in
    let inside : k < length c.self.inside.kept.items = omega (arith, ap length items, c.loop-kept-test.true) in
    let fits : FitsSigned w64 e.1 = search rules in
    let number : to_z w64 (of_z w64 e.1) ≡ e.1 = to_z-of_z {w = w64} {z = e.1} fits in
    let is : (e.0, to_z w64 (of_z w64 e.1)) ≡ get_or c.self.inside.kept.items k (0, pos 0) =
    ap (λ z. (e.0, z)) number ∙ ap (λ (l : List (ℕ × ℤ)). get_or l k (0, pos 0)) items in
    written_more c.self.inside.kept.items k inside is c.loop-kept.invariant c.in_ok-push_kept.ensures

pub returns : goal.returns
returns c =
    written_all c.self.inside.kept.items c.loop-kept.kept-index c.self.inside.zeros
    (omega (arith, ap length c.deref-kept-items.ensures.value, c.loop-kept-test.false)) c.loop-kept.invariant c.in_ok-push_zeros.ensures c.self.view_is
