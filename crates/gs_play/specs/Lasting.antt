-- For how many turns a number that rises stays behind another.
use Rattle.std.specs.Prelude.{ℕ, ◌+◌, ◌*◌, ◌<◌, Bool, IsTrue, ℤ, ◌≤ℤ◌, ◌<ℤ◌, if◌then◌else◌}
use Rattle.gs_play.specs.Jumps.{line}

-- After fewer than `times` turns a gain each turn has not closed a gap. A move before the chosen one closes it as soon as it is as great, and a later move
-- when it is greater.
abbrev pub IsWithinGap : Bool → ℕ → ℕ → ℕ → Type 0
IsWithinGap before gap gain times = (k : ℕ) → k < times → k * gain < (if before then gap else (gap + 1))

-- a worth is at most the value, and below the value if its move is before the chosen one
pub record IsNotAhead (before : Bool) (value worth : ℤ) : Type 0 where
  pub most : worth ≤ℤ value
  pub less : IsTrue before → worth <ℤ value

-- after fewer than `times` turns a rising worth has not overtaken a rising value
abbrev pub IsBehind : Bool → ℤ → ℤ → ℤ → ℤ → ℕ → Type 0
IsBehind before value worth slope rise times = (k : ℕ) → k < times → IsNotAhead before (line value slope k) (line worth rise k)
