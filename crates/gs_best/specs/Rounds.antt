-- Sizes of rounds.
use Rattle.std.specs.Prelude.{ℕ}
use Rattle.gs_best.specs.declared.work.RoundSize.{RoundSize}

-- a round's size: how many points and how many classes
abbrev pub size_of : RoundSize → ℕ × ℕ
size_of s = (s.points, s.classes)
