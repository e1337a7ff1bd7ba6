-- What is listed after a push, and that an elimination makes the rows of the next list from those of the list before.
use Rattle.std.proofs.Common.{◌≡◌, ◌≢◌, ℕ, suc, ◌+◌, ◌<◌, ◌≤◌, ◌⊎◌, inl, inr, List, [], ◌∷◌, ◌++◌, length, slice_index_or, ℤ, pos, ◌-ℤ◌, ◌*ℤ◌, neg_ℤ}
use Rattle.std.proofs.{Common.{◌<ℤ◌, sym, ap, subst, ◌∙◌, arith, below_more}, lemmas.List.{get_or_append_left, get_or_push}}
use Rattle.std.proofs.{lemmas.Bool.{cases_eq}, lemmas.List.Elements.{Contains-push, Contains-push_cases, Contains-append_left}}
use Rattle.gs_simplex.specs.{declared.program.Program.{Program}, Rows.{IsCombination, IsUnlistedRow, IsListedRow, IsAimRow}, Elimination.{IsEliminated}}
use Rattle.gs_simplex.specs.Program.{number, Listing, IsListed, RowListed, ColListed, IsRowsOf}
use Rattle.gs_simplex.proofs.{Ring.{ring, linear, sign_of, times_zero, cancel_zero}, Pivot.{pivot_unlisted, pivot_listed, pivot_aim, combination_divided}}

-- what holds of each item, and of one more
pub pushed_all : {X : Type 0} (P : ℕ → X → Type 0) (xs ys : List X) (x : X) (n : ℕ) → ys ≡ xs ++ x ∷ [] → length xs ≡ n
    → ((k : ℕ) → k < n → (d : X) → P k (slice_index_or xs k d)) → P n x → (k : ℕ) → k < n + 1 → (d : X) → P k (slice_index_or ys k d)
pushed_all {X} P xs ys x n is long u here = below_more (λ k. (d : X) → P k (slice_index_or ys k d)) n
    (λ k h d. let Q : X → Type 0 = λ t. P k t in subst Q
    (sym (ap (λ (t : List X). slice_index_or t k d) is ∙ get_or_append_left xs (x ∷ []) d k (omega arith))) (u k h d))
    (λ d. let Q : X → Type 0 = λ t. P n t in subst Q (sym (ap (λ (t : List X). slice_index_or t n d) is ∙ get_or_push xs x d n long)) here)

-- ---- what is listed after a push
pub listed_push : (l : Listing) (r c : ℕ) → IsListed (l ++ (r + 1, c + 1) ∷ []) r c
listed_push l r c = Contains-push l (r + 1, c + 1)

pub listed_push_old : (l : Listing) (r c i j : ℕ) → IsListed l i j → IsListed (l ++ (r + 1, c + 1) ∷ []) i j
listed_push_old l r c i j h = Contains-append_left l ((r + 1, c + 1) ∷ []) (i + 1, j + 1) h

pub listed_push_cases : (l : Listing) (r c i j : ℕ) → IsListed (l ++ (r + 1, c + 1) ∷ []) i j → (IsListed l i j) ⊎ ((i ≡ r) × (j ≡ c))
listed_push_cases l r c i j h = elim (Contains-push_cases l (r + 1, c + 1) (i + 1, j + 1) h) [
  | inl o ↦ inl o
  | inr e ↦ (let f : r + 1 ≡ i + 1 = ap (λ (q : ℕ × ℕ). q.0) e in let g : c + 1 ≡ j + 1 = ap (λ (q : ℕ × ℕ). q.1) e in inr (omega arith, omega arith))
]

module _ {m n : ℕ} {A : ℕ → ℕ → ℤ} {s : ℤ} {y : ℕ → ℤ} where
  module _ {R Q : ℕ → ℤ} where
    -- ---- the pivot row, and the others after an elimination
    combination_same : IsCombination m n A s y R → ((j : ℕ) → j ≤ n → Q j ≡ R j) → IsCombination m n A s y Q
    combination_same u e = record { positive = u.positive; each = λ j jn. ap (λ t. s *ℤ t) (e j jn) ∙ u.each j jn }

    module _ {RowIn ColIn : ℕ → Type 0} where
      -- a listed row divided by a common factor, or renamed
      listed_divided : {c : ℕ} (g : ℤ) → IsListedRow m n A RowIn ColIn c s y R → pos 0 <ℤ g → c < n → ((j : ℕ) → ColIn j → j < n)
          → ((j : ℕ) → j ≤ n → R j ≡ g *ℤ Q j) → IsListedRow m n A RowIn ColIn c (s *ℤ g) y Q
      listed_divided {c} g u gp cn inside e = record {
        combination = combination_divided g u.combination gp e;
        own = elim (sign_of (Q c)) [
          | inr x ↦ elim x [
            | inr h ↦ h
            | inl z ↦ (let f : R c ≡ pos 0 = e c (omega arith) ∙ ap (λ t. g *ℤ t) z ∙ times_zero g in let o : pos 0 <ℤ R c = u.own in
                absurd (omega (arith, linear)))
          ]
          | inl h ↦ (let f : R c ≡ g *ℤ Q c = e c (omega arith) in let o : pos 0 <ℤ R c = u.own in
              let k : pos 0 <ℤ Q c = Rattle.gs_simplex.proofs.Ring.cancel_pos g (Q c) gp (omega (arith, linear)) in k)
        ];
        others = u.others;
        zeros = λ j cj d. cancel_zero g (Q j) gp (sym (e j (omega (arith, inside j cj))) ∙ u.zeros j cj d);
      }

      unlisted_divided : {r : ℕ} (g : ℤ) → IsUnlistedRow m n A RowIn ColIn r s y R → pos 0 <ℤ g → ((j : ℕ) → ColIn j → j < n)
          → ((j : ℕ) → j ≤ n → R j ≡ g *ℤ Q j) → IsUnlistedRow m n A RowIn ColIn r (s *ℤ g) y Q
      unlisted_divided g u gp inside e = record {
        combination = combination_divided g u.combination gp e;
        own = u.own;
        others = u.others;
        zeros = λ j cj. cancel_zero g (Q j) gp (sym (e j (omega (arith, inside j cj))) ∙ u.zeros j cj);
      }

  aim_divided : {RowIn ColIn : ℕ → Type 0} {b aim : ℕ → ℤ} (g : ℤ) → IsAimRow m n A RowIn ColIn aim s y (λ j. g *ℤ b j) → pos 0 <ℤ g
      → IsAimRow m n A RowIn ColIn aim (s *ℤ g) y b
  aim_divided {b} {aim} g u gp = record {
    multiple = Rattle.gs_simplex.proofs.Ring.cancel_pos g (b (suc n)) gp u.multiple;
    positive = Rattle.gs_simplex.proofs.Ring.times_pos s g u.positive gp;
    each = λ j jn. let q : (s *ℤ g) *ℤ (b (suc n) *ℤ aim j -ℤ b j) ≡ s *ℤ ((g *ℤ b (suc n)) *ℤ aim j -ℤ g *ℤ b j) = simp ring in q ∙ u.each j jn;
    side = let q : (s *ℤ g) *ℤ b n ≡ s *ℤ (g *ℤ b n) = simp ring in q ∙ u.side;
    others = u.others;
    zeros = λ j cj. cancel_zero g (b j) gp (u.zeros j cj);
  }

-- what the list of a step and the list before it have to do with each other: row r is listed with column c
pub record IsChange (p : Program) (l next : Listing) (r c : ℕ) : Type 0 where
  pub row : r < p.rows
  pub column : c < p.cols
  pub inside : (j : ℕ) → ColListed next j → j < p.cols
  pub old : (i j : ℕ) → IsListed next i j → i ≢ r → IsListed l i j
  pub columns : (j : ℕ) → ColListed next j → j ≢ c → ColListed l j
  pub rows : (i : ℕ) → (RowListed next i → ⊥) → RowListed l i → ⊥
  pub row_inside : (i j : ℕ) → IsListed next i j → i < p.rows
  pub here : IsListed next r c
  pub one_column : (j : ℕ) → IsListed next r j → j ≡ c
  pub one_row : (i : ℕ) → IsListed next i c → i ≡ r

module _ {c r : ℕ} {b : ℕ → ℤ} {p : Program} {l next : Listing} {R Q : ℕ → ℕ → ℤ} {a : ℕ → ℤ} {t : ℤ} {z : ℕ → ℤ} where
  -- the rows of the next list, given that the pivot row is one of them
  pub rows_after : IsRowsOf p l R a → IsChange p l next r c → IsEliminated p R a r c Q b
      → IsListedRow p.rows p.cols (number p) (RowListed next) (ColListed next) c t z (Q r) → IsRowsOf p next Q b
  rows_after u ch el self = record {
    listed = λ i j h. elim (cases_eq i r) [
      | inl same ↦
          (let P : ℕ → ℕ → Type 0 = λ i j. (s : ℤ) × (y : ℕ → ℤ) × IsListedRow p.rows p.cols (number p) (RowListed next) (ColListed next) j s y (Q i) in
          let P1 : ℕ → Type 0 = λ k. IsListed next k j in
          let e : j ≡ c = ch.one_column j (subst P1 same h) in
          let P2 : ℕ → Type 0 = λ k. P r k in let P3 : ℕ → Type 0 = λ k. P k j in subst P3 (sym same) (subst P2 (sym e) (t, z, self)))
      | inr ne ↦
          (let o = ch.old i j h ne in
          let w = u.listed i j o in
          let im : i < p.rows = ch.row_inside i j h in
          let g = el.other i im ne in
          let m = pivot_listed w.2 self (λ e. ne (ch.one_row i (let P : ℕ → Type 0 = λ k. IsListed next i k in subst P e h))) (i, h) ch.rows ch.columns in (
            (w.0 *ℤ t) *ℤ g.0,
            λ k. (Q r c *ℤ t) *ℤ w.1 k -ℤ (R i c *ℤ w.0) *ℤ z k,
            listed_divided g.0 m g.1 (ch.inside j (i, h)) ch.inside g.2,
          ))
    ];
    unlisted = λ i im out.
        let ne : i ≢ r = λ e. out (c, let P : ℕ → Type 0 = λ k. IsListed next k c in subst P (sym e) ch.here) in
        let w = u.unlisted i im (ch.rows i out) in
        let g = el.other i im ne in
        let m = pivot_unlisted w.2 self im out ch.rows ch.columns in (
          (w.0 *ℤ t) *ℤ g.0,
          λ k. (Q r c *ℤ t) *ℤ w.1 k -ℤ (R i c *ℤ w.0) *ℤ z k,
          unlisted_divided g.0 m g.1 ch.inside g.2,
        );
    aim_row =
        let w = u.aim_row in let g = el.aim_row in
        let m = pivot_aim w.2 self ch.rows (λ j h. (ch.inside j h, ch.columns j h)) (λ j jn. sym (g.2 j jn)) (sym g.3) (sym g.4) in (
          (w.0 *ℤ t) *ℤ g.0,
          λ k. (Q r c *ℤ t) *ℤ w.1 k -ℤ (neg_ℤ (a c) *ℤ w.0) *ℤ z k,
          aim_divided g.0 m g.1,
        );
    primitive = el.primitive;
    primitive_aim = el.primitive_aim;
  }

module _ {m n : ℕ} {A : ℕ → ℕ → ℤ} {s : ℤ} {y R Q : ℕ → ℤ} {RowIn ColIn : ℕ → Type 0} {c : ℕ} where
  pub listed_renamed : IsListedRow m n A RowIn ColIn c s y R → ((j : ℕ) → ColIn j → j < n) → c < n → ((j : ℕ) → j ≤ n → Q j ≡ R j)
      → IsListedRow m n A RowIn ColIn c s y Q
  listed_renamed u inside cn e = record {
    combination = combination_same u.combination e;
    own = let f : Q c ≡ R c = e c (omega arith) in let o : pos 0 <ℤ R c = u.own in omega (arith, linear);
    others = u.others;
    zeros = λ j cj d. e j (omega (arith, inside j cj)) ∙ u.zeros j cj d;
  }
