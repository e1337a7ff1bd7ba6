-- The least ratio, found place by place, tells the row that leaves; where no place has a ratio, no row leaves.
use Rattle.std.proofs.Common.{◌≡◌, ℕ, ◌+◌, ◌<◌, ◌≤◌, ◌⊎◌, inl, inr, Option, Some, None, length, slice_index_or, ℤ, pos, ◌+ℤ◌, ◌-ℤ◌, ◌*ℤ◌, ◌≤ℤ◌, ◌<ℤ◌, refl, sym}
use Rattle.std.proofs.Common.{ap, subst, ◌∙◌, arith, below_more}
use Rattle.gs_simplex.proofs.{Ring.{ring, linear, times_pos, cancel, cancel_pos}, Circle.{cross_trans}, PairLists.{less_one, place_of, listed_at}}
use Rattle.gs_simplex.specs.{declared.program.Program.{Program}, Program.{Listing, IsListed, IsFree}, Path.{NoneLeaves}, declared.choice.Ratio.{Ratio}}
use Rattle.gs_simplex.specs.Choice.{Before, NotAfter, IsRatio, IsNoRatio, IsRatioAt, IsBetter, IsLeaving}

-- a is the ratio that leaves first among the first `count` places
pub record IsLeast (p : Program) (l : Listing) (rows : ℕ → ℕ → ℤ) (e count : ℕ) (a : Ratio) : Type 0 where
  pub here : (k : ℕ) × (k < count) × IsRatio p l rows e k a
  pub others : (k : ℕ) → k < count → (IsNoRatio p l rows e k) ⊎ ((b : Ratio) × (IsRatio p l rows e k b) × NotAfter a b)

-- the ratio that leaves first among the first `count` places, or none if no row there may leave
abbrev pub IsLeastSoFar : Program → Listing → (ℕ → ℕ → ℤ) → ℕ → ℕ → Option Ratio → Type 0
IsLeastSoFar p l rows e count None = (k : ℕ) → k < count → IsNoRatio p l rows e k
IsLeastSoFar p l rows e count (Some a) = IsLeast p l rows e count a

-- ---- the order of ratios
-- x/y is not below c/d, and a/b is below c/d: then a/b is below x/y
cross_less : (a b c d x y : ℤ) → pos 0 <ℤ b → pos 0 <ℤ d → pos 0 <ℤ y → (a *ℤ d) <ℤ (c *ℤ b) → (c *ℤ y) ≤ℤ (x *ℤ d) → (a *ℤ y) <ℤ (x *ℤ b)
cross_less a b c d x y bp dp yp f g =
    let h : pos 0 <ℤ (y *ℤ (c *ℤ b -ℤ a *ℤ d)) = times_pos y (c *ℤ b -ℤ a *ℤ d) yp (omega (arith, linear)) in
    let k : pos 0 ≤ℤ (b *ℤ (x *ℤ d -ℤ c *ℤ y)) = Rattle.gs_simplex.proofs.Ring.times_nonneg b (x *ℤ d -ℤ c *ℤ y) (omega (arith, linear))
    (omega (arith, linear)) in
    let e : y *ℤ (c *ℤ b -ℤ a *ℤ d) +ℤ b *ℤ (x *ℤ d -ℤ c *ℤ y) ≡ d *ℤ (x *ℤ b -ℤ a *ℤ y) = simp ring (omega (arith, linear)) in
    let s : pos 0 <ℤ (d *ℤ (x *ℤ b -ℤ a *ℤ y)) = omega (arith, linear) in
    let t : pos 0 <ℤ (x *ℤ b -ℤ a *ℤ y) = cancel_pos d (x *ℤ b -ℤ a *ℤ y) dp s in omega (arith, linear)

-- equal to one of two equal ratios, so to the other
cross_equal : (a b c d x y : ℤ) → pos 0 <ℤ b → a *ℤ d ≡ c *ℤ b → a *ℤ y ≡ x *ℤ b → c *ℤ y ≡ x *ℤ d
cross_equal a b c d x y bp e f =
    cancel b (c *ℤ y) (x *ℤ d) bp (
    let p : b *ℤ (c *ℤ y) ≡ y *ℤ (c *ℤ b) = simp ring in let q : y *ℤ (a *ℤ d) ≡ d *ℤ (a *ℤ y) = simp ring in
    let r : d *ℤ (x *ℤ b) ≡ b *ℤ (x *ℤ d) = simp ring in
    p ∙ ap (λ t. y *ℤ t) (sym e) ∙ q ∙ ap (λ t. d *ℤ t) f ∙ r)

-- n before b, b not after x: n is not after x
before_then : (n b x : Ratio) → pos 0 <ℤ n.over → pos 0 <ℤ b.over → pos 0 <ℤ x.over → Before n b → NotAfter b x → NotAfter n x
before_then n b x np bp xp s w = elim s [
  | inl less ↦ (let h : (n.side *ℤ x.over) <ℤ (x.side *ℤ n.over) = cross_less n.side n.over b.side b.over x.side x.over np bp xp less w.0 in
      (omega (arith, linear), λ e. absurd (omega (arith, linear))))
  | inr q ↦ (
    (let le : (n.side *ℤ b.over) ≤ℤ (b.side *ℤ n.over) = (let e : n.side *ℤ b.over ≡ b.side *ℤ n.over = q.0 in omega (arith, linear)) in
        cross_trans n.side n.over b.side b.over x.side x.over np bp xp le w.0),
    λ e. (let h : b.column ≤ x.column = w.1 (cross_equal n.side n.over b.side b.over x.side x.over np q.0 e) in let l : n.column < b.column = q.1 in
        omega arith),
  )
]

same_not_after : (a : Ratio) → NotAfter a a
same_not_after a = (omega (arith, linear), λ e. omega arith)

abbrev Others : Program → Listing → (ℕ → ℕ → ℤ) → ℕ → Ratio → ℕ → Type 0
Others p l rows e a k = (IsNoRatio p l rows e k) ⊎ ((b : Ratio) × (IsRatio p l rows e k b) × NotAfter a b)

-- ---- one more place
first_found : (p : Program) (l : Listing) (rows : ℕ → ℕ → ℤ) (e count : ℕ) (next : Option Ratio) → ((k : ℕ) → k < count → IsNoRatio p l rows e k)
    → IsRatioAt p l rows e count next → IsLeastSoFar p l rows e (count + 1) next
first_found p l rows e count None u w = below_more (λ k. IsNoRatio p l rows e k) count u w
first_found p l rows e count (Some a) u w = record {
  here = (count, omega arith, w);
  others = below_more (Others p l rows e a) count (λ k h. inl (u k h)) (inr (a, w, same_not_after a));
}

stays_found : (p : Program) (l : Listing) (rows : ℕ → ℕ → ℤ) (e count : ℕ) (b : Ratio) → IsLeast p l rows e count b → Others p l rows e b count
    → IsLeast p l rows e (count + 1) b
stays_found p l rows e count b u o = record {
  here = (u.here.0, omega (arith, u.here.1), u.here.2);
  others = below_more (Others p l rows e b) count u.others o;
}

new_found : (p : Program) (l : Listing) (rows : ℕ → ℕ → ℤ) (e count : ℕ) (b n : Ratio) → IsLeast p l rows e count b → IsRatio p l rows e count n → Before n b
    → IsLeast p l rows e (count + 1) n
new_found p l rows e count b n u w s = record {
  here = (count, omega arith, w);
  others = below_more (Others p l rows e n) count (λ k h. elim (u.others k h) [
    | inl none ↦ inl none
    | inr x ↦ inr (x.0, x.1, before_then n b x.0 w.rises u.here.2.rises x.1.rises s x.2)
  ]) (inr (n, w, same_not_after n));
}

pub one_more : (p : Program) (l : Listing) (rows : ℕ → ℕ → ℤ) (e count : ℕ) (best next found : Option Ratio) → IsLeastSoFar p l rows e count best
    → IsRatioAt p l rows e count next → IsBetter best next found → IsLeastSoFar p l rows e (count + 1) found
one_more p l rows e count None next found u w v = let P : Option Ratio → Type 0 = λ x. IsLeastSoFar p l rows e (count + 1) x in
    subst P (sym v) (first_found p l rows e count next u w)
one_more p l rows e count (Some b) None found u w v = let P : Option Ratio → Type 0 = λ x. IsLeastSoFar p l rows e (count + 1) x in
    subst P (sym v) (stays_found p l rows e count b u (inl w))
one_more p l rows e count (Some b) (Some n) found u w v =
    let P : Option Ratio → Type 0 = λ x. IsLeastSoFar p l rows e (count + 1) x in
    elim v [
      | inl s ↦ subst P (sym s.0) (new_found p l rows e count b n u w s.1)
      | inr s ↦ subst P (sym s.0) (stays_found p l rows e count b u (inr (n, w, s.1)))
    ]

-- ---- what is found among all places
same_pair : (l : Listing) (k i j r c : ℕ) (h : IsListed l i j) → h.0 ≡ k → slice_index_or l k (0, 0) ≡ (r + 1, c + 1) → (r ≡ i) × (c ≡ j)
same_pair l k i j r c h s e =
    let q : (r + 1, c + 1) ≡ (i + 1, j + 1) = sym e ∙ ap (λ x. slice_index_or l x (0, 0)) (sym s) ∙ place_of l i j h in
    (less_one r i (ap (λ (w : ℕ × ℕ). w.0) q), less_one c j (ap (λ (w : ℕ × ℕ). w.1) q))

pub none_leaves_from : (p : Program) (l : Listing) (rows : ℕ → ℕ → ℤ) (e : ℕ) → ((k : ℕ) → k < length l → IsNoRatio p l rows e k) → NoneLeaves p l rows e
none_leaves_from p l rows e u i j h free =
    let n = (u h.0 h.1).pair in
    let s = same_pair l h.0 i j n.0 n.1 h refl n.2 in
    elim n.3 [
      | inl f ↦ absurd (free (let P : ℕ → Type 0 = λ x. IsFree p x in subst P s.1 f))
      | inr le ↦ (let P : ℕ → Type 0 = λ x. rows x e ≤ℤ pos 0 in subst P s.0 le)
    ]

pub leaves_from : (p : Program) (l : Listing) (rows : ℕ → ℕ → ℤ) (e : ℕ) (a : Ratio) → IsLeast p l rows e (length l) a → IsLeaving p l rows e (Some a.place)
leaves_from p l rows e a u =
    let k = u.here.0 in let w = u.here.2 in let pr = w.pair in let r = pr.0 in let c = pr.1 in
    let over : a.over ≡ rows r e = pr.5 in let side : a.side ≡ rows r p.cols = pr.6 in
    let found : (i j : ℕ) → IsListed l i j → (IsFree p j → ⊥) → pos 0 <ℤ rows i e
    → (b : Ratio) × (b.over ≡ rows i e) × (b.side ≡ rows i p.cols) × (b.column ≡ j) × NotAfter a b = λ i j h free up. elim (u.others h.0 h.1) [
      | inl none ↦ (let n = none.pair in let s = same_pair l h.0 i j n.0 n.1 h refl n.2 in elim n.3 [
        | inl f ↦ absurd (free (let P : ℕ → Type 0 = λ x. IsFree p x in subst P s.1 f))
        | inr le ↦ absurd (let P : ℕ → Type 0 = λ x. rows x e ≤ℤ pos 0 in let q : rows i e ≤ℤ pos 0 = subst P s.0 le in omega (arith, linear))
      ])
      | inr x ↦ (let n = x.1.pair in let s = same_pair l h.0 i j n.0 n.1 h refl n.2 in
          (x.0, n.5 ∙ ap (λ t. rows t e) s.0, n.6 ∙ ap (λ t. rows t p.cols) s.0, n.3 ∙ s.1, x.2))
    ] in (
      r,
      c,
      (let P : ℕ → Type 0 = λ x. x < length l in subst P (sym w.place) u.here.1),
      ap (λ x. slice_index_or l x (0, 0)) w.place ∙ pr.2,
      record {
        listed = listed_at l k r c u.here.1 pr.2;
        not_free = pr.4;
        pivot = (let P : ℤ → Type 0 = λ t. pos 0 <ℤ t in subst P over w.rises);
        ratio = λ i j h free up. (let b = found i j h free up in
            let le : (a.side *ℤ b.0.over) ≤ℤ (b.0.side *ℤ a.over) = b.4.0 in
            let P : ℤ → ℤ → ℤ → ℤ → Type 0 = λ x y z t. (x *ℤ y) ≤ℤ (z *ℤ t) in
            let P1 : ℤ → Type 0 = λ t. P t b.0.over b.0.side a.over in let P2 : ℤ → Type 0 = λ t. P (rows r p.cols) t b.0.side a.over in
            let P3 : ℤ → Type 0 = λ t. P (rows r p.cols) (rows i e) t a.over in let P4 : ℤ → Type 0 = λ t. P (rows r p.cols) (rows i e) (rows i p.cols) t in
            subst P4 over (subst P3 b.2 (subst P2 b.1 (subst P1 side le))));
        tie = λ i j h free up same. (let b = found i j h free up in
            let e : a.side *ℤ b.0.over ≡ b.0.side *ℤ a.over = ap (λ t. t *ℤ b.0.over) side ∙ ap (λ t. rows r p.cols *ℤ t) b.1 ∙ same
            ∙ ap (λ t. t *ℤ rows r e) (sym b.2) ∙ ap (λ t. b.0.side *ℤ t) (sym over) in
            let le : a.column ≤ b.0.column = b.4.1 e in omega (arith, pr.3, b.3));
      },
    )
