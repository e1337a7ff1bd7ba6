-- How long a line stays below another one that it overtakes in the end.
use Rattle.std.proofs.{Common.{◌≡◌, ℕ, ◌+◌, ◌-◌, ◌*◌, ◌/◌, ◌<◌, ◌≤◌, Bool, true, false, refl, ap, ◌∙◌, subst, arith}, Math.IntN.{pos-*ℤ-pos}, lemmas.Int.{ints}}
use Rattle.std.specs.Prelude.{ℤ, pos, ◌+ℤ◌, ◌-ℤ◌, ◌*ℤ◌, ◌≤ℤ◌, ◌<ℤ◌, if◌then◌else◌, unsigned_abs}
use Rattle.std.proofs.{Math.Nat.{div-mul-le_self, lt-div-mul-add, mul-le-mul_right}, lemmas.Bool.{false≢true}}
use borrow.Author.Differences.{abs_is}
use Rattle.gs_model.proofs.Total.{mul-add_right, mul-le}
use Rattle.gs_play.specs.{Jumps.{line}, Lasting.{IsBehind, IsNotAhead, IsWithinGap}}

-- ---- quotients

-- the greatest number of turns in which a gain does not close a gap, as a quotient
abbrev pub turns_within : Bool → ℕ → ℕ → ℕ
turns_within before gap gain = if before then ((gap + gain - 1) / gain) else (gap / gain + 1)

-- it does not so far
pub within_quotient : (before : Bool) (gap gain most times : ℕ) → 0 < gain → most ≡ turns_within before gap gain → times ≤ most
    → IsWithinGap before gap gain times
within_quotient true gap gain most times some e t k l =
    let few : k + 1 ≤ (gap + gain - 1) / gain = omega arith in
    omega (arith, mul-le-mul_right gain few, div-mul-le_self (gap + gain - 1) gain, some)
within_quotient false gap gain most times some e t k l =
    let few : k ≤ gap / gain = omega arith in
    omega (arith, mul-le-mul_right gain few, div-mul-le_self gap gain)

-- and does in one turn more
pub past_quotient : (before : Bool) (gap gain most : ℕ) → 0 < gain → most ≡ turns_within before gap gain → IsWithinGap before gap gain (most + 1) → ⊥
past_quotient true gap gain most some e h =
    let last : (gap + gain - 1) / gain * gain < gap = subst (λ n. n * gain < gap) e (h most (omega arith)) in
    omega (arith, last, some, lt-div-mul-add {a = gap + gain - 1} {b = gain} some)
past_quotient false gap gain most some e h =
    let last : (gap / gain + 1) * gain < gap + 1 = subst (λ n. n * gain < gap + 1) e (h most (omega arith)) in
    omega (arith, last, lt-div-mul-add {a = gap} {b = gain} some)

-- ---- lines

-- a line behind another that rises no faster stays behind
pub slower_stays : (before : Bool) (value worth slope rise : ℤ) (times : ℕ) → rise ≤ℤ slope → IsNotAhead before value worth
    → IsBehind before value worth slope rise times
slower_stays before value worth slope rise times m here k soon =
    let more = mul-le k rise slope m in
    record {
      most = omega (arith, ints, here.most, more);
      less = λ t. let l = here.less t in omega (arith, ints, l, more);
    }

-- a worth that stands behind a value by a gap and gains on it each turn
module _ (value worth slope rise : ℤ) (gap gain : ℕ) (gap_is : gap ≡ unsigned_abs (value -ℤ worth)) (gain_is : gain ≡ unsigned_abs (rise -ℤ slope))
    (under : worth ≤ℤ value) (fast : slope <ℤ rise) where
  apart : (k : ℕ) → line worth rise k +ℤ pos gap ≡ line value slope k +ℤ pos (k * gain)
  apart k =
      let e : value ≡ worth +ℤ pos gap = omega (arith, ints, abs_is (value -ℤ worth), gap_is, under) in
      let g : rise ≡ slope +ℤ pos gain = omega (arith, ints, abs_is (rise -ℤ slope), gain_is, fast) in
      let product : pos k *ℤ rise ≡ pos k *ℤ slope +ℤ pos (k * gain) = ap (λ x. pos k *ℤ x) g ∙ mul-add_right (pos k) slope (pos gain)
      ∙ ap (λ x. pos k *ℤ slope +ℤ x) (pos-*ℤ-pos k gain) in
      omega (arith, ints, e, product)

  -- stays behind while the gap lasts
  pub behind_by : (before : Bool) (times : ℕ) → IsWithinGap before gap gain times → IsBehind before value worth slope rise times
  behind_by true times h k soon = record {
    most = (let l = h k soon in omega (arith, ints, apart k, l));
    less = λ t. let l = h k soon in omega (arith, ints, apart k, l);
  }
  behind_by false times h k soon = record {
    most = (let l = h k soon in omega (arith, ints, apart k, l));
    less = λ t. absurd (false≢true t);
  }

  -- and no longer
  pub within_by : (before : Bool) (times : ℕ) → IsBehind before value worth slope rise times → IsWithinGap before gap gain times
  within_by true times h k soon = let l = (h k soon).less refl in omega (arith, ints, apart k, l)
  within_by false times h k soon = let l = (h k soon).most in omega (arith, ints, apart k, l)
