-- The order of marks tells all apart, and so do the tests of leaves and children, and the marks of leaves.
use Rattle.std.proofs.Common.{◌≡◌, ◌<◌, ◌+◌, ◌*◌, Bool, ℕ, suc, ℤ, pos, negsuc, refl, sym, ap, ◌∙◌, false, true≢false, arith, le-ltb}
use Rattle.std.proofs.{lemmas.Bool.Decides.{Decides-and, Decides-eqb, Decides-int_eq, Decides-like}, lemmas.Cmp.{nat_cmp_total, ranked}}
use Rattle.std.proofs.lemmas.List.MinMax.{ranks_by}
use Rattle.std.specs.{Prelude.{◌==◌, ◌&&◌, if◌then◌else◌, int_lt, unsigned_abs}, Bool.{Decides}, Cmp.{IsStrictWeakOrder}}
use Rattle.std.specs.Ordering.{int_eq, is_lt, nat_cmp, ordering_reverse}
use Rattle.std.specs.{declared.cmp.Ordering.{Ordering}, declared.cmp.Ordering.TheVariants.{Less, Equal, Greater}}
use Rattle.gs_model.specs.Signatures.{IsExactOrder}
use Rattle.gs_iso.specs.Orders.{leaf_mark, mark_lt}

-- whether two leaves are the same
abbrev pub leaf_eq : ℕ × ℤ → ℕ × ℤ → Bool
leaf_eq x y = (x.0 == y.0) && int_eq x.1 y.1

-- whether two children are the same
abbrev pub child_eq : ℕ × ℕ → ℕ × ℕ → Bool
child_eq x y = (x.0 == y.0) && (x.1 == y.1)

-- two pairs with equal parts
pub pairs : {Y : Type 0} (p q : ℕ × Y) → p.0 ≡ q.0 → p.1 ≡ q.1 → p ≡ q
pairs {Y} p q e f = let g : ℕ → ℕ × Y = λ m. (m, p.1) in let h : Y → ℕ × Y = λ m. (q.0, m) in ap g e ∙ ap h f

pub leaf_exact : (x y : ℕ × ℤ) → Decides (leaf_eq x y) (x ≡ y)
leaf_exact x y =
    Decides-like (leaf_eq x y) (λ p. pairs x y p.0 p.1) (λ e. (ap (λ (p : ℕ × ℤ). p.0) e, ap (λ (p : ℕ × ℤ). p.1) e))
    (Decides-and _ _ (Decides-eqb x.0 y.0) (Decides-int_eq x.1 y.1))

pub child_exact : (x y : ℕ × ℕ) → Decides (child_eq x y) (x ≡ y)
child_exact x y =
    Decides-like (child_eq x y) (λ p. pairs x y p.0 p.1) (λ e. (ap (λ (p : ℕ × ℕ). p.0) e, ap (λ (p : ℕ × ℕ). p.1) e))
    (Decides-and _ _ (Decides-eqb x.0 y.0) (Decides-eqb x.1 y.1))

pub mark_ranks : IsStrictWeakOrder mark_lt
mark_ranks = ranks_by nat_cmp_total (λ (n : ℕ). n)

-- where neither comes first the two tie
tied : (r s : Ordering) → r ≡ ordering_reverse s → is_lt r ≡ false → is_lt s ≡ false → r ≡ Equal
tied Less s e a b = absurd (true≢false a)
tied Equal s e a b = refl
tied Greater Less e a b = absurd (true≢false b)
tied Greater Equal e a b = absurd (cc)
tied Greater Greater e a b = absurd (cc)

nat_tied : (x y : ℕ) → nat_cmp x y ≡ Equal → x ≡ y
nat_tied x y e = ranked x y Equal (sym e)

pub mark_order : IsExactOrder mark_lt
mark_order = record { exact = λ x y a b. nat_tied x y (tied (nat_cmp x y) (nat_cmp y x) (nat_cmp_total.antisymm x y) a b) }

not_lost : (m : ℕ) → int_lt (pos m) (pos 0) ≡ false
not_lost m = le-ltb m 0 (omega arith)

mark_won : (a m : ℕ) → leaf_mark (a, pos m) ≡ a * 512 + m
mark_won a m = ap (λ (b : Bool). a * 512 + (if b then 256 else 0) + m) (not_lost m) ∙ omega arith

mark_lost : (a n : ℕ) → leaf_mark (a, negsuc n) ≡ a * 512 + 256 + suc n
mark_lost a n = refl

parts_told : (a b : ℕ) (x y : ℤ) → unsigned_abs x < 256 → unsigned_abs y < 256 → leaf_mark (a, x) ≡ leaf_mark (b, y) → (a ≡ b) × (x ≡ y)
parts_told a b (pos m) (pos n) lm ln e =
    let sm : m < 256 = lm in
    let sn : n < 256 = ln in
    let is : a * 512 + m ≡ b * 512 + n = sym (mark_won a m) ∙ e ∙ mark_won b n in
    let same : m ≡ n = omega (arith, sm, sn, is) in
    (omega (arith, sm, sn, is), ap pos same)
parts_told a b (pos m) (negsuc n) lm ln e =
    let sm : m < 256 = lm in
    let sn : suc n < 256 = ln in
    let is : a * 512 + m ≡ b * 512 + 256 + suc n = sym (mark_won a m) ∙ e ∙ mark_lost b n in
    absurd (omega (arith, sm, sn, is))
parts_told a b (negsuc m) (pos n) lm ln e =
    let sm : suc m < 256 = lm in
    let sn : n < 256 = ln in
    let is : a * 512 + 256 + suc m ≡ b * 512 + n = sym (mark_lost a m) ∙ e ∙ mark_won b n in
    absurd (omega (arith, sm, sn, is))
parts_told a b (negsuc m) (negsuc n) lm ln e =
    let sm : suc m < 256 = lm in
    let sn : suc n < 256 = ln in
    let is : a * 512 + 256 + suc m ≡ b * 512 + 256 + suc n = sym (mark_lost a m) ∙ e ∙ mark_lost b n in
    let same : m ≡ n = omega (arith, sm, sn, is) in
    (omega (arith, sm, sn, is), ap negsuc same)

-- leaves of equal marks are equal
pub leaf_told : (x y : ℕ × ℤ) → unsigned_abs x.1 < 256 → unsigned_abs y.1 < 256 → leaf_mark x ≡ leaf_mark y → x ≡ y
leaf_told x y lx ly e = let told = parts_told x.0 y.0 x.1 y.1 lx ly e in pairs x y told.0 told.1
