use Rattle.std.proofs.Common.{◌≡◌, ◌+◌, ◌-◌, ◌∷◌, ◌++◌, [], false, length, get_or, arith, ap, ◌∙◌, set, subst, sym, refl, List, Vec, Global, of_z, ◌<◌}
use Rattle.std.proofs.{lemmas.Grind.{common_steps}, lemmas.Int.{ints}, lemmas.List.{set-get_or}}
use mir.Syntax.{w8}
use Rattle.gs_lossless.specs.{Sums.{is_at, put_last}, declared.parts.Part.{Part}}
use Rattle.gs_lossless.proofs.{Merge.{join_last, push_last, exact, not_at}, parts.add.Goals.{else-last-part-via-else-last-part, else-count-gt0}}
use Rattle.gs_lossless.proofs.parts.add.Goals.{then-count-gt0+else-last-part, else-last-part-via-then-last-part+else-last-part-2}
use Rattle.gs_lossless.proofs.parts.add.Goals as goal

pub returns-then-last-part-2 : goal.returns-then-last-part-2
returns-then-last-part-2 c =
    let xs = c.args.sums.now.items in
    let last = c.index_mut-last.result.now in
    let n : c.len-count.result ≡ length xs = c.len-count.ensures ∙ c.args.sums.now.ok.0 in
    let next = record last { weight = last.weight + c.args.part.weight } in
    let at : last ≡ get_or xs (length xs - 1) last = c.index_mut-last.ensures.value ∙ ap (λ k. get_or xs (k - 1) last) n in
    let o : last.outcome ≡ c.args.part.outcome = omega (arith, ints, c.if-last-part-2.true) in
    ap (λ k. set xs (k - 1) next) n
    ∙ join_last xs last c.args.part (subst (λ k. 0 < k) n c.if-count-gt0.true) at
    ((exact last c.args.part).1 (c.if-last-part.true, o))

pub returns : goal.returns
returns c =
    let xs = c.args.sums.now.items in
    let p = c.args.part in
    let n : c.len-count.result ≡ length xs = c.len-count.ensures ∙ c.args.sums.now.ok.0 in
    elim c.if-count-gt0.branch [
      | then-count-gt0+else-last-part w ↦
          let last = w.index_mut-last.result.now in
          let at : last ≡ get_or xs (length xs - 1) last = w.index_mut-last.ensures.value ∙ ap (λ k. get_or xs (k - 1) last) n in
          let l : 0 < length xs = omega (arith, n, w.if-count-gt0.true) in
          let kept : set xs (c.len-count.result - 1) last ≡ xs =
          ap (λ v. set xs (c.len-count.result - 1) v) w.index_mut-last.ensures.value ∙ set-get_or xs (c.len-count.result - 1) last in
          let go : (v : Vec Part Global) → w.else-last-part.sums ≡ v → v.items ≡ set xs (c.len-count.result - 1) last → is_at last p ≡ false
          → c.push.new.self.items ≡ put_last p xs = λ v is items no.
          c.in_ok-push.ensures.items ∙ ap (λ (u : Vec Part Global). u.items ++ p ∷ []) (w.sums-is ∙ is) ∙ ap (λ ys. ys ++ p ∷ []) (items ∙ kept)
          ∙ push_last xs last p l at no in
          elim w.else-last-part.branch [
            | else-last-part-via-then-last-part+else-last-part-2 w' ↦
                go _ w'.sums-is refl (not_at last p (λ k. w'.if-last-part-2.false (ap (of_z w8) k.1)))
            | else-last-part-via-else-last-part w' ↦ go _ w'.sums-is refl (not_at last p (λ k. w'.if-last-part.false k.0))
          ]
      | else-count-gt0 w ↦
          let none = empty xs (omega (arith, n, w.if-count-gt0.false)) in
          c.in_ok-push.ensures.items ∙ ap (λ (v : Vec Part Global). v.items ++ p ∷ []) w.sums-is
          ∙ subst (λ ys. ys ++ p ∷ [] ≡ put_last p ys) (sym none) refl
    ]
  where
    empty : {X : Type 0} (ys : List X) → length ys ≡ 0 → ys ≡ []
    empty [] e = refl
    empty (y ∷ ys) e = absurd (omega (arith, e))

pub overflow_add-last : goal.overflow_add-last
overflow_add-last c = grind (arith, common_steps)
