-- Two files one after the other, the first of them one line.
use Rattle.std.specs.Prelude.{ℕ, ◌==◌, List, [], ◌∷◌, if◌then◌else◌}

-- the bytes up to and with the first line feed, and the bytes after it; without a line feed all bytes and none
abbrev pub first_line : List ℕ → List ℕ × List ℕ
first_line [] = ([], [])
first_line (b ∷ bytes) = if b == 10 then (b ∷ [], bytes) else (b ∷ (first_line bytes).0, (first_line bytes).1)
