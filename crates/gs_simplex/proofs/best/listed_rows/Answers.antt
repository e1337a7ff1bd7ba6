use Rattle.std.proofs.Common.{◌≡◌, ℕ, List, length, drop, replicate, inl, inr, rules, slice_index, sym, ap, subst, ◌∙◌, arith}
use Rattle.std.proofs.{lemmas.List.{take_at, get_or-replicate, get_or_past, length-replicate}, lemmas.Bool.{cases_lt}}
use Rattle.gs_simplex.specs.Values.{IsRowIndex}
use Rattle.gs_simplex.proofs.best.listed_rows.Goals as goal

all_zero : (n j : ℕ) → slice_index (replicate n 0) j ≡ 0
all_zero n j = elim (cases_lt j n) [
  | inl h ↦ get_or-replicate n j 0 0 h
  | inr h ↦ get_or_past (replicate n 0) j 0 (omega (arith, length-replicate {A = ℕ} n 0))
]

pub returns : goal.returns
returns c =
    let p = c.args.p.now in let l = c.args.basis.now in let new = c.mark_rows.new.rows in let n = c.in_ok-rows.rows.len in
    let zeros : c.in_ok-rows.rows.items ≡ replicate p.cols 0 = c.in_ok-rows.ensures.items_if_clones_equal (λ y k. search rules) in
    let P : List ℕ → Type 0 = λ x. IsRowIndex p l x in
    subst P (sym (take_at new (drop (length new) c.in_ok-rows.rows.items) n (omega (arith, c.mark_rows.auto.rows, c.deref_mut.ensures.len)))) (record {
      long = omega (arith, c.mark_rows.auto.rows, c.deref_mut.ensures.len, c.in_ok-rows.ensures.len);
      listed = c.mark_rows.ensures.listed;
      unlisted = λ j out. c.mark_rows.ensures.unlisted j out ∙ ap (λ (t : List ℕ). slice_index t j) c.deref_mut.ensures.value
          ∙ ap (λ (t : List ℕ). slice_index t j) zeros ∙ all_zero p.cols j;
    })
