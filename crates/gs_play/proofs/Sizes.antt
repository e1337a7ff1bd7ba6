-- What lines of 64 bits come to in a turn is small.
use Rattle.std.proofs.{Common.{ℕ, ◌*◌, ◌^◌, ◌<◌, ◌≤◌, arith}, Math.Nat.{mul-le-mul_left}, lemmas.Int.{ints, unsigned_abs-mul}}
use Rattle.std.specs.{Prelude.{ℤ, pos, ◌-ℤ◌, ◌*ℤ◌, unsigned_abs}, Int.RustNames.{FitsSigned}}
use borrow.Author.Differences.{abs_is}
use mir.Syntax.{w64}
use Rattle.gs_play.specs.{Lines.{value_in}, declared.line.Line.{Line}}

-- both numbers of a line fit 64 bits
pub record Fits (l : Line) : Type 0 where
  pub at : FitsSigned w64 l.at
  pub slope : FitsSigned w64 l.slope

pub fits_abs : (z : ℤ) → FitsSigned w64 z → unsigned_abs z ≤ 2 ^ 63
fits_abs z h = omega (arith, ints, abs_is z)

pub risen_small : (slope : ℤ) (t : ℕ) → unsigned_abs slope ≤ 2 ^ 63 → t ≤ 2 ^ 20 → unsigned_abs (pos t *ℤ slope) ≤ 2 ^ 83
risen_small slope t s few =
    let n : t * unsigned_abs slope ≤ t * 2 ^ 63 = mul-le-mul_left t s in
    omega (arith, ints, unsigned_abs-mul (pos t) slope, abs_is (pos t), n, few)

pub value_small : (l : Line) (t : ℕ) → Fits l → t ≤ 2 ^ 20 → unsigned_abs (value_in l t) < 2 ^ 84
value_small l t s few =
    let a = fits_abs l.at s.at in
    let r = risen_small l.slope t (fits_abs l.slope s.slope) few in
    omega (arith, ints, abs_is l.at, abs_is (pos t *ℤ l.slope), abs_is (value_in l t), a, r)

pub gap_small : (l m : Line) (t : ℕ) → Fits l → Fits m → t ≤ 2 ^ 20 → unsigned_abs (value_in l t -ℤ value_in m t) < 2 ^ 120
gap_small l m t s r few =
    let a = value_small l t s few in
    let b = value_small m t r few in
    omega (arith, ints, abs_is (value_in l t), abs_is (value_in m t), abs_is (value_in l t -ℤ value_in m t), a, b)
