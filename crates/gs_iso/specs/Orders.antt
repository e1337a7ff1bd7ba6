-- Leaves and children as parts of signatures, and the order of their marks.
use Rattle.std.specs.{Prelude.{ℕ, ℤ, pos, ◌+◌, ◌*◌, ◌/◌, Bool, if◌then◌else◌, int_lt, unsigned_abs}, Ordering.{is_lt, nat_cmp}}
use Rattle.gs_model.specs.Deals.{Deal}

-- whether a mark is smaller than another
abbrev pub mark_lt : ℕ → ℕ → Bool
mark_lt x y = is_lt (nat_cmp x y)

-- a deal as a leaf under player 1's signal: the deal's weight divided by `path`, the number of ways to that signal, and the outcome
abbrev pub leaf_of : ℕ → Deal → ℕ × ℤ
leaf_of path d = (d.weight / path, d.outcome)

-- a leaf as one number: its ways times 512, plus 256 if the outcome is a loss, plus the size of the outcome
abbrev pub leaf_mark : ℕ × ℤ → ℕ
leaf_mark l = l.0 * 512 + (if int_lt l.1 (pos 0) then 256 else 0) + unsigned_abs l.1
