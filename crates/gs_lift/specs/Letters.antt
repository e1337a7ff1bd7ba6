-- The letters of the moves of a mixture.
use Rattle.std.specs.{Prelude.{ℕ, ◌<◌, List}, List.{All}}
use Rattle.gs_frac.specs.declared.value.Fraction.{Fraction}

-- each letter is an ASCII byte
abbrev pub AreAsciiLetters : List (ℕ × Fraction) → Type 0
AreAsciiLetters pairs = All (λ (p : ℕ × Fraction). p.0 < 128) pairs
