-- Verdicts as fractions.
use Rattle.std.specs.Prelude.{ℕ, ◌<◌, ◌≡◌, ℤ, pos, ◌+ℤ◌, ◌-ℤ◌, ◌*ℤ◌, unsigned_abs}
use Rattle.gs_frac.specs.{declared.value.Fraction.{Fraction}, declared.value.Verdict.{Verdict}}

-- the numerator with its sign, and the size of the denominator
abbrev pub parts : Fraction → ℤ × ℕ
parts x = (x.num, unsigned_abs x.den)

-- the fraction equals num over den, and its denominator is not 0
pub record IsOver (num den : ℤ) (x : Fraction) : Type 0 where
  pub positive : 0 < (parts x).1
  pub value : (parts x).0 *ℤ den ≡ pos (parts x).1 *ℤ num

-- the verdict on two plans, each number over `scale`. The value is what the plans pay player 1.
-- A gap is the plan's total times what the best answer gains, less what the plan gains
pub record IsJudged (scale : ℕ) (totals : ℕ × ℕ) (best : ℤ × ℤ) (paid : ℤ) (v : Verdict) : Type 0 where
  pub value : IsOver paid (pos scale) v.value
  pub first : IsOver (pos totals.0 *ℤ best.0 -ℤ paid) (pos scale) v.gap1
  pub second : IsOver (pos totals.1 *ℤ best.1 +ℤ paid) (pos scale) v.gap2
