-- Positions as the last ones of a game, for inductions backwards.
use Rattle.std.proofs.Common.{ℕ, suc, ◌+◌, ◌≤◌, arith}
use Rattle.gs_model.specs.{Frame.{Frame, point_count}, FrameFacts.{IsFrom}, Positions.{Target, at_end, at_point}}

-- a position is an end, or one of the last n points
abbrev pub IsLast : Frame → ℕ → Target → Type 0
IsLast f n (at_point q) = point_count f ≤ q + n
IsLast f n (at_end z) = Unit {0}

pub next_last : (f : Frame) (n q : ℕ) (g : Target) → point_count f ≤ q + suc n → IsFrom (q + 1) g → IsLast f n g
next_last f n q (at_point p) l from = omega arith
next_last f n q (at_end z) l from = tt

pub all_last : (f : Frame) (g : Target) → IsLast f (point_count f) g
all_last f (at_point q) = omega arith
all_last f (at_end z) = tt
