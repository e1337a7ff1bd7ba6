use Rattle.std.proofs.Common.{◌≡◌, ◌≢◌, inl, inr, ℕ, ◌+◌, ◌<◌, List, length, slice_index, slice_index_or, slice_set, sym, ap, ◌∙◌, arith, get_or-set_other}
use Rattle.std.proofs.{Common.{get_or-set_same}, lemmas.Bool.{cases_eq}}
use Rattle.gs_simplex.proofs.PairLists.{IsMarked, less_one, no_column, place_of}
use Rattle.gs_simplex.specs.{declared.program.Program.{Program}, Program.{Listing, IsPairList}}
use Rattle.gs_simplex.proofs.best.mark_rows.Goals as goal

-- one more pair marked
marked : (p : Program) (l : Listing) (old rows : List ℕ) (n r c : ℕ) → IsPairList p l → length rows ≡ p.cols → n < length l
    → slice_index_or l n (0, 0) ≡ (r + 1, c + 1) → c < p.cols → IsMarked l old rows n → IsMarked l old (slice_set rows c (r + 1)) (n + 1)
marked p l old rows n r c pairs long h at cn u = record {
  listed = λ k i j kn e. elim (cases_eq k n) [
    | inl s ↦ (let q : (r + 1, c + 1) ≡ (i + 1, j + 1) = sym at ∙ ap (λ x. slice_index_or l x (0, 0)) (sym s) ∙ e in
        let a : r ≡ i = less_one r i (ap (λ (x : ℕ × ℕ). x.0) q) in let b : c ≡ j = less_one c j (ap (λ (x : ℕ × ℕ). x.1) q) in
        ap (slice_index (slice_set rows c (r + 1))) (sym b) ∙ get_or-set_same rows c (r + 1) 0 (omega arith) ∙ ap (λ x. x + 1) a)
    | inr ne ↦ (let apart : j ≢ c = λ s. ne (pairs.columns_differ k n (omega arith) h
        (ap (λ (x : ℕ × ℕ). x.1) e ∙ ap (λ x. x + 1) s ∙ sym (ap (λ (x : ℕ × ℕ). x.1) at))) in
        get_or-set_other rows c j (r + 1) 0 apart ∙ u.listed k i j (omega arith) e)
  ];
  unlisted = λ j none. (let apart : j ≢ c = λ s. none n (omega arith) (ap (λ (x : ℕ × ℕ). x.1) at ∙ ap (λ x. x + 1) (sym s)) in get_or-set_other rows c j
      (r + 1) 0 apart ∙ u.unlisted j (λ k kn. none k (omega arith)));
}

pub loop-place-preserved : goal.loop-place-preserved
loop-place-preserved c =
    marked c.args.p.now c.args.basis.now c.args.rows.now c.loop-place.rows c.loop-place.place c.pair_at-row.result.0 c.pair_at-row.result.1 c.requires.pairs
    (omega (arith, c.loop-place.auto.rows, c.requires.long)) c.loop-place-test.true
    c.pair_at-row.ensures.pair c.pair_at-row.ensures.column c.loop-place.invariant

pub returns : goal.returns
returns c = record {
  listed = λ i j h. c.loop-place.invariant.listed h.0 i j (omega (arith, h.1)) (place_of c.args.basis.now i j h);
  unlisted = λ j out. c.loop-place.invariant.unlisted j (λ k h. no_column j k c.requires.pairs out (omega arith));
}
