use Rattle.std.proofs.{Common.{◌≡◌, ◌-◌, ◌∷◌, ◌++◌, [], length, get_or, reverse, set, ap, sym, ◌∙◌, subst, refl, List, arith}, lemmas.Grind.{common_steps}}
use Rattle.gs_seq.specs.Rows.{join}
use Rattle.gs_seq.proofs.{Gathered.{join_last, join_next, join_none}, rows.add.Goals.{then-count-gt0+else-last-pair, else-count-gt0}}
use Rattle.gs_seq.proofs.rows.add.Goals as goal

pub returns-then-last-pair : goal.returns-then-last-pair
returns-then-last-pair c = record {
  row = let xs = c.args.row.now.items in
      let n : c.len-count.result ≡ length xs = c.len-count.ensures ∙ c.args.row.now.ok.0 in
      let last = c.index-last.result.now in
      let at : last ≡ get_or xs (length xs - 1) last = c.index-last.ensures ∙ ap (λ k. get_or xs (k - 1) last) n in
      ap (λ k. reverse (set xs (k - 1) c.joined.result)) n ∙ ap (λ v. reverse (set xs (length xs - 1) v)) c.joined.ensures.value
      ∙ join_last xs last c.args.pair (omega arith) at c.if-last-pair.true;
  moderate = grind (arith, common_steps);
}

empty : {X : Type 0} (ys : List X) → length ys ≡ 0 → ys ≡ []
empty [] e = refl
empty (y ∷ ys) e = absurd (omega arith)

pub returns-clause-row : goal.returns-clause-row
returns-clause-row c =
    let xs = c.args.row.now.items in
    let p = c.args.pair in
    let n : c.len-count.result ≡ length xs = c.len-count.ensures ∙ c.args.row.now.ok.0 in
    ap reverse c.in_ok-push.ensures.items ∙ elim c.if-count-gt0.branch [
      | then-count-gt0+else-last-pair w ↦
          let last = w.index-last.result.now in
          let at : last ≡ get_or xs (length xs - 1) last = w.index-last.ensures ∙ ap (λ k. get_or xs (k - 1) last) n in
          join_next xs last p (omega (arith, n, w.if-count-gt0.true)) at w.if-last-pair.false
      | else-count-gt0 w ↦ let none = empty xs (omega (arith, n, w.if-count-gt0.false)) in subst (λ ys. reverse (ys ++ p ∷ []) ≡ join p (reverse ys)) (sym none)
          (join_none p)
    ]

pub returns-clause-moderate : goal.returns-clause-moderate
returns-clause-moderate c = grind arith

pub joined-requires : goal.joined-requires
joined-requires c = grind (arith, common_steps)
