-- Rows that are a primitive row times a number above 0: signs, ratios and zeros are those of the primitive row.
use Rattle.std.proofs.Common.{◌≡◌, ℕ, ◌+◌, ◌<◌, ◌≤◌, ◌^◌, ◌⊎◌, inl, inr, ℤ, pos, negsuc, ◌-ℤ◌, ◌*ℤ◌, neg_ℤ, ◌≤ℤ◌, ◌<ℤ◌, unsigned_abs, refl, sym, ap, ◌∙◌, arith}
use Rattle.std.proofs.lemmas.Int.{ints}
use Rattle.gs_simplex.specs.{Rows.{IsPrimitive}, Numbers.{IsMultiple}}
use Rattle.gs_simplex.proofs.Ring.{ring, linear, times_zero, times_neg, times_times, times_left, one_times, times_pos, cancel, cancel_zero, cancel_pos}
use Rattle.gs_simplex.proofs.{Ring.{cancel_nonneg}, Pivot.{primitive_same}, Primitive.{primitive_exists}, Guesses.{quotient_narrow}}

-- a row that is a primitive row but for factors is a multiple of it
pub multiple_of_same : (n : ℕ) (g h : ℤ) → pos 0 <ℤ g → pos 0 <ℤ h → (N Q : ℕ → ℤ) → ((j : ℕ) → j ≤ n → g *ℤ N j ≡ h *ℤ Q j) → IsPrimitive n Q
    → IsMultiple (n + 1) N Q
multiple_of_same n g h gp hp N Q e prim =
    let w = primitive_exists n N in
    let same : (j : ℕ) → j ≤ n → w.1 j ≡ Q j = primitive_same (g *ℤ w.0) h (times_pos g w.0 gp w.2) hp
    (λ j jn. times_times g w.0 (w.1 j) ∙ ap (λ t. g *ℤ t) (sym (w.3 j jn)) ∙ e j jn) w.4 prim in
    record { by = (w.0, w.2, λ j h. w.3 j (omega arith) ∙ ap (λ t. w.0 *ℤ t) (same j (omega arith))) }

pub multiple_of_equal : (width : ℕ) (old new : ℕ → ℤ) → ((j : ℕ) → j < width → old j ≡ new j) → IsMultiple width old new
multiple_of_equal width old new e = record { by = (pos 1, omega (arith, ints), λ j h. e j h ∙ sym (one_times (new j))) }

-- what a row and its multiple give with the same lead
pub mixed_along : (lc xj xc lj k rj rc g nj h qj : ℤ) → lc *ℤ xj -ℤ xc *ℤ lj ≡ g *ℤ nj → xj ≡ k *ℤ rj → xc ≡ k *ℤ rc → lc *ℤ rj -ℤ rc *ℤ lj ≡ h *ℤ qj
    → g *ℤ nj ≡ (k *ℤ h) *ℤ qj
mixed_along lc xj xc lj k rj rc g nj h qj e a b f =
    let s : lc *ℤ (k *ℤ rj) -ℤ (k *ℤ rc) *ℤ lj ≡ k *ℤ (lc *ℤ rj -ℤ rc *ℤ lj) = simp ring (omega (arith, linear)) in
    sym e ∙ ap (λ t. lc *ℤ t -ℤ xc *ℤ lj) a ∙ ap (λ t. lc *ℤ (k *ℤ rj) -ℤ t *ℤ lj) b ∙ s ∙ ap (λ t. k *ℤ t) f ∙ sym (times_times k h qj)

-- ---- x is q times k
pub down_narrow : (k x q : ℤ) → pos 0 <ℤ k → x ≡ k *ℤ q → unsigned_abs x < 2 ^ 62 → unsigned_abs q < 2 ^ 62
down_narrow (pos k) x q p e h = quotient_narrow k x (pos k) q refl (omega (arith, ints, p)) h e
down_narrow (negsuc k) x q p e h = absurd (omega (arith, ints, p))

pub down_pos : (k x q : ℤ) → pos 0 <ℤ k → x ≡ k *ℤ q → pos 0 <ℤ x → pos 0 <ℤ q
down_pos k x q p e h = cancel_pos k q p (omega (arith, linear))

pub down_nonneg : (k x q : ℤ) → pos 0 <ℤ k → x ≡ k *ℤ q → pos 0 ≤ℤ x → pos 0 ≤ℤ q
down_nonneg k x q p e h = cancel_nonneg k q p (omega (arith, linear))

pub down_nonpos : (k x q : ℤ) → pos 0 <ℤ k → x ≡ k *ℤ q → x ≤ℤ pos 0 → q ≤ℤ pos 0
down_nonpos k x q p e h =
    let z : pos 0 ≤ℤ neg_ℤ q = cancel_nonneg k (neg_ℤ q) p (omega (arith, linear, times_neg k q)) in omega (arith, linear)

pub up_pos : (k x q : ℤ) → pos 0 <ℤ k → x ≡ k *ℤ q → pos 0 <ℤ q → pos 0 <ℤ x
up_pos k x q p e h = let m : pos 0 <ℤ (k *ℤ q) = times_pos k q p h in omega (arith, linear)

pub down_zero : (k x q : ℤ) → pos 0 <ℤ k → x ≡ k *ℤ q → x ≡ pos 0 → q ≡ pos 0
down_zero k x q p e z = cancel_zero k q p (sym e ∙ z)

pub up_zero : (k x q : ℤ) → x ≡ k *ℤ q → q ≡ pos 0 → x ≡ pos 0
up_zero k x q e z = e ∙ ap (λ t. k *ℤ t) z ∙ times_zero k

-- an equation of fractions
pub down_fraction : (k num den x y a b : ℤ) → pos 0 <ℤ k → x ≡ k *ℤ a → y ≡ k *ℤ b → num *ℤ x ≡ y *ℤ den → num *ℤ a ≡ b *ℤ den
down_fraction k num den x y a b p ea eb h =
    cancel k (num *ℤ a) (b *ℤ den) p (times_left k num a ∙ ap (λ t. num *ℤ t) (sym ea) ∙ h ∙ ap (λ t. t *ℤ den) eb ∙ times_times k b den)

-- ratios of two rows
cross : (k m rs ie : ℤ) → (k *ℤ rs) *ℤ (m *ℤ ie) ≡ (k *ℤ m) *ℤ (rs *ℤ ie)
cross k m rs ie = simp ring

cross_other : (k m is re : ℤ) → (m *ℤ is) *ℤ (k *ℤ re) ≡ (k *ℤ m) *ℤ (is *ℤ re)
cross_other k m is re = simp ring

pub down_ratio : (k m rs re is ie : ℤ) → pos 0 <ℤ k → pos 0 <ℤ m → ((k *ℤ rs) *ℤ (m *ℤ ie)) ≤ℤ ((m *ℤ is) *ℤ (k *ℤ re)) → (rs *ℤ ie) ≤ℤ (is *ℤ re)
down_ratio k m rs re is ie kp mp h =
    let s : (k *ℤ m) *ℤ (is *ℤ re -ℤ rs *ℤ ie) ≡ (k *ℤ m) *ℤ (is *ℤ re) -ℤ (k *ℤ m) *ℤ (rs *ℤ ie) = simp ring (omega (arith, linear)) in
    let d : pos 0 ≤ℤ (is *ℤ re -ℤ rs *ℤ ie) = cancel_nonneg (k *ℤ m) (is *ℤ re -ℤ rs *ℤ ie) (times_pos k m kp mp)
    (omega (arith, linear, cross k m rs ie, cross_other k m is re)) in
    omega (arith, linear)

pub up_tie : (k m rs re is ie : ℤ) → rs *ℤ ie ≡ is *ℤ re → (k *ℤ rs) *ℤ (m *ℤ ie) ≡ (m *ℤ is) *ℤ (k *ℤ re)
up_tie k m rs re is ie e = cross k m rs ie ∙ ap (λ t. (k *ℤ m) *ℤ t) e ∙ sym (cross_other k m is re)

-- ---- a row X that is k times R or, turned, d times L: what follows of R has L's sign
pub same_turn : (k d : ℤ) → pos 0 <ℤ k → pos 0 <ℤ d → (n c : ℕ) → c ≤ n → (R Q X L : ℕ → ℤ) → ((j : ℕ) → j ≤ n → X j ≡ k *ℤ R j) → pos 0 <ℤ Q c → pos 0 <ℤ L c
    → ((j : ℕ) → j ≤ n → Q j ≡ R j) ⊎ ((j : ℕ) → j ≤ n → Q j ≡ neg_ℤ (R j))
    → ((j : ℕ) → j ≤ n → X j ≡ d *ℤ L j) ⊎ ((j : ℕ) → j ≤ n → X j ≡ neg_ℤ (d *ℤ L j)) → (j : ℕ) → j ≤ n → d *ℤ L j ≡ k *ℤ Q j
same_turn k d kp dp n c cn R Q X L x qp lp s t =
    let xc = x c cn in let kq : pos 0 <ℤ (k *ℤ Q c) = times_pos k (Q c) kp qp in let dl : pos 0 <ℤ (d *ℤ L c) = times_pos d (L c) dp lp in
    elim s [
      | inl q ↦ elim t [
        | inl l ↦ λ j jn. sym (l j jn) ∙ x j jn ∙ ap (λ t. k *ℤ t) (sym (q j jn))
        | inr l ↦ (let a : k *ℤ Q c ≡ k *ℤ R c = ap (λ t. k *ℤ t) (q c cn) in let b = l c cn in absurd (omega (arith, linear)))
      ]
      | inr q ↦
          (let turn : (j : ℕ) → j ≤ n → k *ℤ Q j ≡ neg_ℤ (k *ℤ R j) = λ j jn. ap (λ t. k *ℤ t) (q j jn) ∙ times_neg k (R j) in
          elim t [
            | inl l ↦ (let a = turn c cn in let b = l c cn in absurd (omega (arith, linear)))
            | inr l ↦ λ j jn. (let a = turn j jn in let b = l j jn in let e = x j jn in omega (arith, linear))
          ])
    ]
