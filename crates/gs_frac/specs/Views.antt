-- What a result says.
use Rattle.std.specs.Prelude.{◌≡◌, ℤ, Result, Ok, Err}
use Rattle.gs_frac.specs.{declared.value.Fraction.{Fraction}, declared.fault.FracFault.{FracFault}}

-- the result is the fraction with these parts, or this fault
abbrev pub Gives : Result Fraction FracFault → Result (ℤ × ℤ) FracFault → Type 0
Gives (Ok f) read = read ≡ Ok (f.num, f.den)
Gives (Err e) read = read ≡ Err e
