-- Where no raw plan gains anything, each fraction that is the gap is 0, and a reduced one is 0 over 1.
use Rattle.std.proofs.{Common.{◌≡◌, ℕ, ◌*◌, ◌<◌, false, ℤ, pos, ◌+ℤ◌, ◌-ℤ◌, ◌*ℤ◌, neg_ℤ, ◌≤ℤ◌, ◌<ℤ◌, refl, sym, ap, ◌∙◌, subst, arith}, lemmas.Int.{ints}}
use Rattle.std.specs.Prelude.{IsTrue}
use borrow.Author.Differences.{product_is}
use Rattle.gs_frac.specs.{Gcd.{gcd_of}, Texts.{is_fraction}}
use Rattle.gs_frac.proofs.{Made.{fraction_is}, OneForm.{one_form}}
use Rattle.gs_model.specs.{Frame.{Frame, total_weight}, Payoff.{raw_payoff}, Plans.{Plan}, Verdict.{IsFirstGap, IsSecondGap}}
use Rattle.gs_model.proofs.Basics.{product_positive}
use Rattle.gs_simplex.proofs.Ring.{cancel_nonneg, linear, ring, times_nonneg, times_pos, zero_times}

-- a number above 0 as a whole number
positive : (n : ℕ) → 0 < n → pos 0 <ℤ pos n
positive n some = omega (arith, ints)

-- a plan z that gains num over den, where none gains anything
not_above : (D X Z W p q num : ℤ) → pos 0 <ℤ D → pos 0 <ℤ Z → pos 0 <ℤ W → (D *ℤ X) *ℤ q ≡ Z *ℤ (D *ℤ p +ℤ num *ℤ W) → (X *ℤ q) ≤ℤ (Z *ℤ p)
    → pos 0 ≤ℤ neg_ℤ num
not_above D X Z W p q num some_d some_z some_w reach none =
    let gap : pos 0 ≤ℤ (D *ℤ (Z *ℤ p -ℤ X *ℤ q)) = times_nonneg D (Z *ℤ p -ℤ X *ℤ q) (omega (arith, linear)) (omega (arith, linear)) in
    let e : D *ℤ (Z *ℤ p -ℤ X *ℤ q) ≡ (Z *ℤ W) *ℤ neg_ℤ num = shift D X Z W p q num reach in
    cancel_nonneg (Z *ℤ W) (neg_ℤ num) (times_pos Z W some_z some_w) (subst (λ v. pos 0 ≤ℤ v) e gap)
  where
    shift : (D X Z W p q num : ℤ) → (D *ℤ X) *ℤ q ≡ Z *ℤ (D *ℤ p +ℤ num *ℤ W) → D *ℤ (Z *ℤ p -ℤ X *ℤ q) ≡ (Z *ℤ W) *ℤ neg_ℤ num
    shift D X Z W p q num reach =
        let left : D *ℤ (Z *ℤ p -ℤ X *ℤ q) ≡ Z *ℤ (D *ℤ p) -ℤ (D *ℤ X) *ℤ q = simp ring (omega (arith, linear)) in
        let right : Z *ℤ (D *ℤ p) -ℤ Z *ℤ (D *ℤ p +ℤ num *ℤ W) ≡ (Z *ℤ W) *ℤ neg_ℤ num = simp ring (omega (arith, linear)) in
        left ∙ ap (λ v. Z *ℤ (D *ℤ p) -ℤ v) reach ∙ right

-- a plan that gains nothing, where none gains more than num over den
not_below : (D X Z W p q num : ℤ) → pos 0 <ℤ Z → pos 0 <ℤ W → X *ℤ q ≡ Z *ℤ p → ((D *ℤ X) *ℤ q) ≤ℤ (Z *ℤ (D *ℤ p +ℤ num *ℤ W)) → pos 0 ≤ℤ num
not_below D X Z W p q num some_z some_w reach none =
    let e : Z *ℤ (D *ℤ p +ℤ num *ℤ W) -ℤ (D *ℤ X) *ℤ q ≡ (Z *ℤ W) *ℤ num = shift D X Z W p q num reach in
    let gap : pos 0 ≤ℤ (Z *ℤ (D *ℤ p +ℤ num *ℤ W) -ℤ (D *ℤ X) *ℤ q) = omega (arith, linear) in
    cancel_nonneg (Z *ℤ W) num (times_pos Z W some_z some_w) (subst (λ v. pos 0 ≤ℤ v) e gap)
  where
    shift : (D X Z W p q num : ℤ) → X *ℤ q ≡ Z *ℤ p → Z *ℤ (D *ℤ p +ℤ num *ℤ W) -ℤ (D *ℤ X) *ℤ q ≡ (Z *ℤ W) *ℤ num
    shift D X Z W p q num reach =
        let left : Z *ℤ (D *ℤ p +ℤ num *ℤ W) -ℤ (D *ℤ X) *ℤ q ≡ Z *ℤ (D *ℤ p +ℤ num *ℤ W) -ℤ D *ℤ (X *ℤ q) = simp ring (omega (arith, linear)) in
        let right : Z *ℤ (D *ℤ p +ℤ num *ℤ W) -ℤ D *ℤ (Z *ℤ p) ≡ (Z *ℤ W) *ℤ num = simp ring (omega (arith, linear)) in
        left ∙ ap (λ v. Z *ℤ (D *ℤ p +ℤ num *ℤ W) -ℤ D *ℤ v) reach ∙ right

product : (m n : ℕ) → pos (m * n) ≡ pos m *ℤ pos n
product m n = omega (arith, ints, product_is (pos m) (pos n))

-- a bound without the parts that are 0 and 1
plain_bound : (X Z W : ℕ) (p q : ℤ) → (pos (1 * X) *ℤ q) ≤ℤ (pos Z *ℤ (pos 1 *ℤ p +ℤ pos 0 *ℤ pos W)) → (pos X *ℤ q) ≤ℤ (pos Z *ℤ p)
plain_bound X Z W p q h =
    let left : pos (1 * X) ≡ pos X = ap {B = ℤ} (λ (n : ℕ). pos n) (one_less X) in
    let right : pos 1 *ℤ p +ℤ pos 0 *ℤ pos W ≡ p = simp ring in
    subst (λ v. (pos X *ℤ q) ≤ℤ (pos Z *ℤ v)) right (subst (λ v. (v *ℤ q) ≤ℤ (pos Z *ℤ (pos 1 *ℤ p +ℤ pos 0 *ℤ pos W))) left h)
  where
    one_less : (n : ℕ) → 1 * n ≡ n
    one_less n = omega arith

plain_reach : (X Z W : ℕ) (p q : ℤ) → pos (1 * X) *ℤ q ≡ pos Z *ℤ (pos 1 *ℤ p +ℤ pos 0 *ℤ pos W) → pos X *ℤ q ≡ pos Z *ℤ p
plain_reach X Z W p q h =
    let left : pos X ≡ pos (1 * X) = ap {B = ℤ} (λ (n : ℕ). pos n) (one_more X) in
    let right : pos 1 *ℤ p +ℤ pos 0 *ℤ pos W ≡ p = simp ring in
    ap (λ v. v *ℤ q) left ∙ h ∙ ap (λ v. pos Z *ℤ v) right
  where
    one_more : (n : ℕ) → n ≡ 1 * n
    one_more n = omega arith

-- a number that is neither above nor below 0
none : (num : ℤ) → pos 0 ≤ℤ neg_ℤ num → pos 0 ≤ℤ num → num ≡ pos 0
none num low high = omega (arith, linear)

-- the first gap in plain numbers: two plans of the other totals Z and U, one that reaches num over den and one that reaches 0
plain_gap : (den X Z U W : ℕ) (p q r num : ℤ) → 0 < den → 0 < Z → 0 < U → 0 < W
    → pos (den * X) *ℤ q ≡ pos Z *ℤ (pos den *ℤ p +ℤ num *ℤ pos W) → (pos (1 * X) *ℤ q) ≤ℤ (pos Z *ℤ (pos 1 *ℤ p +ℤ pos 0 *ℤ pos W))
    → pos (1 * X) *ℤ r ≡ pos U *ℤ (pos 1 *ℤ p +ℤ pos 0 *ℤ pos W) → (pos (den * X) *ℤ r) ≤ℤ (pos U *ℤ (pos den *ℤ p +ℤ num *ℤ pos W))
    → num ≡ pos 0
plain_gap den X Z U W p q r num some_den some_z some_u some_w reach bound still within =
    let split = product den X in
    none num
    (not_above (pos den) (pos X) (pos Z) (pos W) p q num (positive den some_den) (positive Z some_z) (positive W some_w)
    (subst (λ v. v *ℤ q ≡ pos Z *ℤ (pos den *ℤ p +ℤ num *ℤ pos W)) split reach) (plain_bound X Z W p q bound))
    (not_below (pos den) (pos X) (pos U) (pos W) p r num (positive U some_u) (positive W some_w) (plain_reach X U W p r still)
    (subst (λ v. (v *ℤ r) ≤ℤ (pos U *ℤ (pos den *ℤ p +ℤ num *ℤ pos W))) split within))

-- from player 2's side all payoffs are turned
turned : (D Z W p num : ℤ) → neg_ℤ (Z *ℤ (D *ℤ p -ℤ num *ℤ W)) ≡ Z *ℤ (D *ℤ neg_ℤ p +ℤ num *ℤ W)
turned D Z W p num = simp ring (omega (arith, linear))

turned_side : (T q : ℤ) → neg_ℤ (T *ℤ q) ≡ T *ℤ neg_ℤ q
turned_side T q = simp ring

turned_bound : (a b c d : ℤ) → neg_ℤ a ≡ c → neg_ℤ b ≡ d → a ≤ℤ b → d ≤ℤ c
turned_bound a b c d ea eb h = omega (arith, linear)

module _ (f : Frame) (x y : Plan) (num : ℤ) (den : ℕ) (deals : 0 < total_weight f) (one : 0 < x.total) (two : 0 < y.total) where
  some_scale : 0 < total_weight f * x.total * y.total
  some_scale = product_positive (total_weight f * x.total) y.total (product_positive (total_weight f) x.total deals one) two

  -- where player 1 gains nothing, his gap is 0
  pub no_first_gap : IsFirstGap f x y num den → IsFirstGap f x y (pos 0) 1 → num ≡ pos 0
  no_first_gap g h =
      let z = g.some_reaches in let u = h.some_reaches in
      plain_gap den x.total z.0.total u.0.total (total_weight f * x.total * y.total) (raw_payoff f x y) (raw_payoff f z.0 y)
      (raw_payoff f u.0 y) num g.positive z.1.some u.1.some some_scale
      z.2 (h.none_more z.0 z.1) u.2 (g.none_more u.0 u.1)

  -- where player 2 gains nothing, his gap is 0
  pub no_second_gap : IsSecondGap f x y num den → IsSecondGap f x y (pos 0) 1 → num ≡ pos 0
  no_second_gap g h =
      let z = g.some_reaches in let u = h.some_reaches in
      let W : ℕ = total_weight f * x.total * y.total in
      let p = raw_payoff f x y in
      let q = raw_payoff f x z.0 in
      let r = raw_payoff f x u.0 in
      plain_gap den y.total z.0.total u.0.total W (neg_ℤ p) (neg_ℤ q) (neg_ℤ r) num g.positive z.1.some u.1.some some_scale
      (sym (turned_side (pos (den * y.total)) q) ∙ ap neg_ℤ z.2 ∙ turned (pos den) (pos z.0.total) (pos W) p num)
      (turned_bound _ _ _ _ (turned (pos 1) (pos z.0.total) (pos W) p (pos 0)) (turned_side (pos (1 * y.total)) q) (h.none_less z.0 z.1))
      (sym (turned_side (pos (1 * y.total)) r) ∙ ap neg_ℤ u.2 ∙ turned (pos 1) (pos u.0.total) (pos W) p (pos 0))
      (turned_bound _ _ _ _ (turned (pos den) (pos u.0.total) (pos W) p num) (turned_side (pos (den * y.total)) r) (g.none_less u.0 u.1))

-- a reduced fraction that is 0 is 0 over 1
pub zero_over_one : (num den : ℤ) → IsTrue (is_fraction num den) → num ≡ pos 0 → ◌≡◌ {A = ℤ × ℤ} (num, den) (pos 0, pos 1)
unfolding gcd_of
zero_over_one num den reduced e =
    let same : num *ℤ pos 1 ≡ pos 0 *ℤ den = ap (λ v. v *ℤ pos 1) e ∙ sym (zero_times den) in
    let h = one_form num den (pos 0) (pos 1) reduced (fraction_is false 0 1 (omega arith) (omega arith) (omega arith) refl) same in
    ap {B = ℤ × ℤ} (λ (v : ℤ). (v, den)) h.0 ∙ ap {B = ℤ × ℤ} (λ (v : ℤ). (pos 0, v)) h.1
