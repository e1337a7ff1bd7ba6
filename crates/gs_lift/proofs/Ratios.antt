-- A reduced fraction by what it is crosswise.
use Rattle.std.proofs.Common.{◌≡◌, ℕ, ◌*◌, ◌<◌, ℤ, pos, negsuc, ◌*ℤ◌, ltb, eqb, cond, sum_by, ◌&&◌, arith, refl, sym, ap, subst, ◌∙◌}
use Rattle.std.proofs.{Math.Nat.{dvd-mul_left, eq-one_of_dvd-one}, lemmas.Nat.Gcd.{dvd_refl}, lemmas.Bool.{and_parts, ltb-true, eqb-true, false≢true}}
use Rattle.std.specs.{Prelude.{IsTrue}, Int.{IsGcd, ◌∣◌}, Int.RustNames.{unsigned_abs}}
use Rattle.gs_frac.specs.{Gcd.{gcd_of}, Texts.{limit, is_fraction}, declared.value.Fraction.{Fraction}}
use Rattle.gs_frac.proofs.{GcdLaws.{gcd_of_is}, OneForm.{not_negative}}
use Rattle.gs_model.specs.{Frame.{Frame, choices_at}, Plans.{Plan}}
use Rattle.gs_lift.specs.Mixtures.{IsShareOf}

-- a fraction of numbers without a sign, which is w over t crosswise
pub record IsRatio (num den : ℤ) (w t : ℕ) : Type 0 where
  pub above : ℕ
  pub below : ℕ
  pub num_is : num ≡ pos above
  pub den_is : den ≡ pos below
  pub positive : 0 < below
  pub reduced : IsGcd above below 1
  pub cross : above * t ≡ w * below

pub ratio : (num den : ℤ) (w t : ℕ) → IsTrue (is_fraction num den) → 0 < t → num *ℤ pos t ≡ pos w *ℤ den → IsRatio num den w t
ratio (pos n) (pos d) w t h some same =
    let p = and_parts (ltb 0 d && ltb d limit) _ h in
    let q = and_parts (ltb 0 d) (ltb d limit) p.0 in
    let r = and_parts (ltb n limit) (eqb (gcd_of n d) 1) p.1 in
    record {
      above = n;
      below = d;
      num_is = refl;
      den_is = refl;
      positive = ltb-true _ _ q.0;
      reduced = subst (IsGcd n d) (eqb-true _ _ r.1) (gcd_of_is n d);
      cross = ap unsigned_abs same;
    }
ratio (negsuc k) (pos d) w t h some same = absurd (not_negative (w * d) k t some (sym same))
ratio num (negsuc d) w t h some same = absurd (false≢true h)

-- over 1 it is that number over 1
pub whole : (num den : ℤ) (w : ℕ) → (r : IsRatio num den w 1) → (r.above ≡ w) × (r.below ≡ 1)
whole num den w r =
    let e : r.above ≡ w * r.below = omega (arith, r.cross) in
    let one : r.below ≡ 1 = eq-one_of_dvd-one (r.reduced.2 r.below (subst (λ k. r.below ∣ k) (sym e) (dvd-mul_left r.below w)) (dvd_refl r.below)) in
    (e ∙ ap (λ k. w * k) one ∙ times_one w, one)
  where
    times_one : (n : ℕ) → n * 1 ≡ n
    times_one n = omega arith

-- ---- shares

-- a weight in what all weights add up to, where that is some
pub share_of : (f : Frame) (x : Plan) (q s m w t : ℕ) (r : Fraction) → w ≡ x.number q s m → t ≡ sum_by (λ c. x.number q s c) (choices_at f q) → 0 < t
    → r.num *ℤ pos t ≡ pos w *ℤ r.den → IsShareOf f x q s m r
share_of f x q s m w t r is all some same =
    let k = ratio r.num r.den w t r.reduced some same in
    record {
      above = k.above;
      below = k.below;
      num = k.num_is;
      den = k.den_is;
      is = record {
        positive = k.positive;
        reduced = k.reduced;
        some = λ _. ap (λ n. k.above * n) (sym all) ∙ k.cross ∙ ap (λ n. n * k.below) is;
        none = λ e. absurd (omega (arith, all, e));
      };
    }

-- where they add up to 0: the whole for the first move, nothing for the others
pub share_none : (f : Frame) (x : Plan) (q s m w : ℕ) (r : Fraction) → w ≡ cond (eqb m 0) 1 0 → sum_by (λ c. x.number q s c) (choices_at f q) ≡ 0
    → r.num *ℤ pos 1 ≡ pos w *ℤ r.den → IsShareOf f x q s m r
share_none f x q s m w r is all same =
    let k = ratio r.num r.den w 1 r.reduced (omega arith) same in
    let e = whole r.num r.den w k in
    record {
      above = k.above;
      below = k.below;
      num = k.num_is;
      den = k.den_is;
      is = record { positive = k.positive; reduced = k.reduced; some = λ more. absurd (omega (arith, all, more)); none = λ _. (e.0 ∙ is, e.1) };
    }
