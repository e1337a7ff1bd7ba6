-- Numbers that move on straight lines from turn to turn.
use Rattle.std.specs.Prelude.{ℕ, ℤ, pos, ◌+ℤ◌, ◌*ℤ◌}

-- a number after some turns, by what it is now and what each turn adds
abbrev pub line : ℤ → ℤ → ℕ → ℤ
line now rise k = now +ℤ pos k *ℤ rise
