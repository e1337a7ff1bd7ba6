-- The verdict on two plans is one: its reduced fractions are determined.
use Rattle.std.proofs.{Common.{◌≡◌, ℕ, ◌*◌, ◌<◌, ℤ, pos, ◌+ℤ◌, ◌-ℤ◌, ◌*ℤ◌, ◌≤ℤ◌, ◌<ℤ◌, sym, ap, ◌∙◌, subst, arith}, lemmas.Int.{ints}}
use Rattle.std.specs.Prelude.{unsigned_abs}
use Rattle.gs_frac.proofs.OneForm.{lower_of, one_form}
use Rattle.gs_model.proofs.Basics.{product_positive}
use Rattle.gs_model.specs.{Frame.{Frame, total_weight}, Payoff.{IsHandValue, hand_payoff, hand_weight, raw_payoff}, Plans.{Plan}}
use Rattle.gs_model.specs.Verdict.{IsFirstGap, IsSecondGap, IsValue, IsVerdict}
use Rattle.gs_simplex.proofs.Ring.{cancel, cancel_nonneg, linear, ring, times_nonneg, times_pos}
use Rattle.gs_strategy.specs.{Confirmed.{over}, Values.{AreFractions, FractionParts, IsFractionOf, Numbers}}

-- ---- crosswise

value_cross : (n n' d d' w p : ℤ) → pos 0 <ℤ w → n *ℤ w ≡ d *ℤ p → n' *ℤ w ≡ d' *ℤ p → n *ℤ d' ≡ n' *ℤ d
value_cross n n' d d' w p some one two =
    let a = simp ring at (ap (λ v. d' *ℤ v) one) in
    let b = simp ring at (ap (λ v. d *ℤ v) two) in
    cancel w (n *ℤ d') (n' *ℤ d) some (simp ring (omega (arith, linear, a, b)))

cross : (d d' z w n n' x : ℤ) → pos 0 <ℤ d' → pos 0 <ℤ z → pos 0 <ℤ w → pos 0 ≤ℤ x → d' *ℤ x ≡ (z *ℤ w) *ℤ (n *ℤ d' -ℤ n' *ℤ d)
    → (n' *ℤ d) ≤ℤ (n *ℤ d')
cross d d' z w n n' x some sz sw left is =
    let low : pos 0 ≤ℤ d' = omega (arith, linear) in
    let times = times_nonneg d' x low left in
    let gap = cancel_nonneg (z *ℤ w) (n *ℤ d' -ℤ n' *ℤ d) (times_pos z w sz sw) (subst (λ v. pos 0 ≤ℤ v) is times) in
    omega (arith, linear)

first_cross : (d d' t z w n n' r p : ℤ) → pos 0 <ℤ d' → pos 0 <ℤ z → pos 0 <ℤ w → ((d *ℤ t) *ℤ r) ≤ℤ (z *ℤ (d *ℤ p +ℤ n *ℤ w))
    → (d' *ℤ t) *ℤ r ≡ z *ℤ (d' *ℤ p +ℤ n' *ℤ w) → (n' *ℤ d) ≤ℤ (n *ℤ d')
first_cross d d' t z w n n' r p some sz sw most reached =
    let x = z *ℤ (d *ℤ p +ℤ n *ℤ w) -ℤ (d *ℤ t) *ℤ r in
    let same = simp ring at (ap (λ v. d *ℤ v) reached) in
    cross d d' z w n n' x some sz sw (omega (arith, linear)) (simp ring (omega (arith, linear, same)))

second_cross : (d d' t z w n n' r p : ℤ) → pos 0 <ℤ d' → pos 0 <ℤ z → pos 0 <ℤ w → (z *ℤ (d *ℤ p -ℤ n *ℤ w)) ≤ℤ ((d *ℤ t) *ℤ r)
    → (d' *ℤ t) *ℤ r ≡ z *ℤ (d' *ℤ p -ℤ n' *ℤ w) → (n' *ℤ d) ≤ℤ (n *ℤ d')
second_cross d d' t z w n n' r p some sz sw least reached =
    let x = (d *ℤ t) *ℤ r -ℤ z *ℤ (d *ℤ p -ℤ n *ℤ w) in
    let same = simp ring at (ap (λ v. d *ℤ v) reached) in
    cross d d' z w n n' x some sz sw (omega (arith, linear)) (simp ring (omega (arith, linear, same)))

above : (n : ℕ) → 0 < n → pos 0 <ℤ pos n
above n l = omega (arith, ints)

both_ways : (a b : ℤ) → a ≤ℤ b → b ≤ℤ a → a ≡ b
both_ways a b l h = omega (arith, linear)

-- ---- one value, one gap

value_crosses : (n n' : ℤ) (d d' w : ℕ) (p : ℤ) → 0 < w → n *ℤ pos w ≡ pos d *ℤ p → n' *ℤ pos w ≡ pos d' *ℤ p → n *ℤ pos d' ≡ n' *ℤ pos d
value_crosses n n' d d' w p some one two = value_cross n n' (pos d) (pos d') (pos w) p (above w some) one two

first_low : (f : Frame) (x y : Plan) (n n' : ℤ) (d d' : ℕ) → 0 < total_weight f * x.total * y.total → IsFirstGap f x y n d → IsFirstGap f x y n' d'
    → (n' *ℤ pos d) ≤ℤ (n *ℤ pos d')
first_low f x y n n' d d' some one two =
    let (z, plan, reached) = two.some_reaches in
    first_cross (pos d) (pos d') (pos x.total) (pos z.total) (pos (total_weight f * x.total * y.total)) n n' (raw_payoff f z y) (raw_payoff f x y)
    (above d' two.positive) (above z.total plan.some) (above (total_weight f * x.total * y.total) some) (one.none_more z plan) reached

second_low : (f : Frame) (x y : Plan) (n n' : ℤ) (d d' : ℕ) → 0 < total_weight f * x.total * y.total → IsSecondGap f x y n d → IsSecondGap f x y n' d'
    → (n' *ℤ pos d) ≤ℤ (n *ℤ pos d')
second_low f x y n n' d d' some one two =
    let (z, plan, reached) = two.some_reaches in
    second_cross (pos d) (pos d') (pos y.total) (pos z.total) (pos (total_weight f * x.total * y.total)) n n' (raw_payoff f x z) (raw_payoff f x y)
    (above d' two.positive) (above z.total plan.some) (above (total_weight f * x.total * y.total) some) (one.none_less z plan) reached

pub first_gap_one : (f : Frame) (x y : Plan) (n n' : ℤ) (d d' : ℕ) → 0 < total_weight f * x.total * y.total → IsFirstGap f x y n d → IsFirstGap f x y n' d'
    → n *ℤ pos d' ≡ n' *ℤ pos d
first_gap_one f x y n n' d d' some one two =
    both_ways (n *ℤ pos d') (n' *ℤ pos d) (first_low f x y n' n d' d some two one) (first_low f x y n n' d d' some one two)

pub second_gap_one : (f : Frame) (x y : Plan) (n n' : ℤ) (d d' : ℕ) → 0 < total_weight f * x.total * y.total → IsSecondGap f x y n d
    → IsSecondGap f x y n' d' → n *ℤ pos d' ≡ n' *ℤ pos d
second_gap_one f x y n n' d d' some one two =
    both_ways (n *ℤ pos d') (n' *ℤ pos d) (second_low f x y n' n d' d some two one) (second_low f x y n n' d d' some one two)

-- ---- reduced fractions

same_parts : (p q : FractionParts) → p.0 ≡ q.0 → p.1 ≡ q.1 → p ≡ q
same_parts (n, d) (n', d') a b = cc

abbrev made : FractionParts → FractionParts → FractionParts → Numbers
made a b c = record { value = a; gap1 = b; gap2 = c }

same_numbers : (n m : Numbers) → n.value ≡ m.value → n.gap1 ≡ m.gap1 → n.gap2 ≡ m.gap2 → n ≡ m
same_numbers n m a b c =
    ap (λ (v : FractionParts). made v n.gap1 n.gap2) a ∙ ap (λ (v : FractionParts). made m.value v n.gap2) b
    ∙ ap (λ (v : FractionParts). made m.value m.gap1 v) c

-- two reduced fractions that are equal crosswise are one
pub one_fraction : (p q : FractionParts) → IsFractionOf p → IsFractionOf q → (over p).0 *ℤ pos (over q).1 ≡ (over q).0 *ℤ pos (over p).1 → p ≡ q
one_fraction (n, d) (n', d') h k cross =
    let a = lower_of n d h in
    let b = lower_of n' d' k in
    let e : pos (unsigned_abs d) ≡ d = ap (λ (z : ℤ). pos (unsigned_abs z)) a.is ∙ sym a.is in
    let e' : pos (unsigned_abs d') ≡ d' = ap (λ (z : ℤ). pos (unsigned_abs z)) b.is ∙ sym b.is in
    let same : n *ℤ d' ≡ n' *ℤ d = ap (λ (z : ℤ). n *ℤ z) (sym e') ∙ cross ∙ ap (λ (z : ℤ). n' *ℤ z) e in
    let both = one_form n d n' d' h k same in
    same_parts (n, d) (n', d') both.0 both.1

pub value_one : (f : Frame) (x y : Plan) (p q : FractionParts) → 0 < total_weight f * x.total * y.total → IsFractionOf p → IsFractionOf q
    → IsValue f x y (over p).0 (over p).1 → IsValue f x y (over q).0 (over q).1 → p ≡ q
value_one f x y p q some h k one two =
    one_fraction p q h k (value_crosses (over p).0 (over q).0 (over p).1 (over q).1 (total_weight f * x.total * y.total) (raw_payoff f x y) some
    one.value_is two.value_is)

pub hand_one : (f : Frame) (x y : Plan) (s : ℕ) (p q : FractionParts) → 0 < hand_weight f s * x.total * y.total → IsFractionOf p → IsFractionOf q
    → IsHandValue f x y s (over p).0 (over p).1 → IsHandValue f x y s (over q).0 (over q).1 → p ≡ q
hand_one f x y s p q some h k one two =
    one_fraction p q h k (value_crosses (over p).0 (over q).0 (over p).1 (over q).1 (hand_weight f s * x.total * y.total) (hand_payoff f x y s) some
    one.value_is two.value_is)

pub verdicts_one : (f : Frame) (x y : Plan) (n m : Numbers) → 0 < total_weight f * x.total * y.total → AreFractions n → AreFractions m
    → IsVerdict f x y (over n.value) (over n.gap1) (over n.gap2) → IsVerdict f x y (over m.value) (over m.gap1) (over m.gap2) → n ≡ m
verdicts_one f x y n m some h k one two =
    let a = value_one f x y n.value m.value some h.value k.value one.value_is two.value_is in
    let b = one_fraction n.gap1 m.gap1 h.gap1 k.gap1 (first_gap_one f x y _ _ _ _ some one.first_gap two.first_gap) in
    let c = one_fraction n.gap2 m.gap2 h.gap2 k.gap2 (second_gap_one f x y _ _ _ _ some one.second_gap two.second_gap) in
    same_numbers n m a b c

pub scale_some : (w x y : ℕ) → 0 < w → 0 < x → 0 < y → 0 < w * x * y
scale_some w x y a b c = product_positive (w * x) y (product_positive w x a b) c
