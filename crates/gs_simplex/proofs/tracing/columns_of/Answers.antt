use Rattle.std.proofs.Common.{ℕ, ◌+◌, List, inl, inr, sym, subst, arith}
use Rattle.gs_simplex.proofs.{PairLists.{column_decided}, Traces.{IsBasisBelow, basis_skip, basis_push, basis_whole}}
use Rattle.gs_simplex.proofs.tracing.columns_of.Goals as goal

pub loop-j-preserved-then-rows-j-eq0 : goal.loop-j-preserved-then-rows-j-eq0
loop-j-preserved-then-rows-j-eq0 c =
    let l = c.args.basis.now in let j = c.loop-j.j in
    basis_skip l j c.loop-j.columns.items c.loop-j.invariant (λ h. let e = c.requires.index.listed h.0 j h.1 in absurd (omega (arith, e, c.if-rows-j-eq0.true)))

pub loop-j-preserved : goal.loop-j-preserved
loop-j-preserved c =
    let l = c.args.basis.now in let j = c.loop-j.j in
    let P : List ℕ → Type 0 = λ x. IsBasisBelow l (j + 1) x in
    subst P (sym c.in_ok-push.ensures.items) (basis_push l j c.loop-j.columns.items c.loop-j.invariant (elim (column_decided c.requires.pairs j) [
      | inl h ↦ h
      | inr none ↦ absurd (c.if-rows-j-eq0.false (c.requires.index.unlisted j none))
    ]))

pub returns : goal.returns
returns c = basis_whole c.args.p.now c.args.basis.now c.loop-j.j c.loop-j.columns.items c.requires.pairs
    (omega (arith, c.requires.index.long, c.loop-j-test.false)) c.loop-j.invariant
