-- Rows with a number for each class of a later round, and what the classes of an earlier round gather of them.
use Rattle.std.specs.Prelude.{ℕ, ◌+◌, ◌-◌, ◌^◌, ◌<◌, ◌≤◌, ◌≡◌, ◌++◌, List, get_or, length, replicate, ℤ, pos, unsigned_abs}
use Rattle.gs_model.specs.{BestAnswers.{Values}, Classes.{ClassLists, IsClass, class_count}, FrameFacts.{IsFrom, IsInside}}
use Rattle.gs_model.specs.{Frame.{Frame, last_round, point_count, round_of}, Positions.{Target, at_point}}
use Rattle.gs_best.specs.{ClassTotals.{gathered_below}, Rows.{AreModestClasses}, Sides.{totals_at}, Tables.{AreStarts, start_of}}
use Rattle.gs_best.specs.{declared.class_row.ClassRow.{ClassRow}, declared.side.Side.{Side}}

-- a list from place `start` on, as a row by class
abbrev pub row_from : List ℤ → ℕ → ℕ → ℤ
row_from values start c = get_or values (start + (c - 1)) (pos 0)

-- `sums` has for each class of round `to` the sum of a row of round `from` over the classes below
abbrev pub AreGathered : Frame → ClassLists → ℕ → ℕ → List ℤ → ℕ → List ℤ → Type 0
AreGathered f lists from to values start sums = (c : ℕ) → IsClass lists to c
    → get_or sums (c - 1) (pos 0) ≡ gathered_below f lists from to (row_from values start) c

-- class totals of which a list has those of points from the place `from` of a table on; before that place they are 0
abbrev pub later_totals : Side → ℕ → List ℤ → Values
later_totals s from totals = totals_at s (replicate from (pos 0) ++ totals)

-- `starts` has for each point the place of its first total, and `totals` has all totals from the place `from` on
pub record AreLaidFrom (f : Frame) (lists : ClassLists) (starts : List ℕ) (from : ℕ) (totals : List ℤ) : Type 0 where
  pub long : point_count f ≤ length starts
  pub places : AreStarts f lists starts
  pub room : start_of f lists (point_count f) ≤ from + length totals

-- the totals of a position, if it is a point, stand at the place `from` or behind
abbrev pub IsLaidBehind : Frame → ClassLists → ℕ → Target → Type 0
IsLaidBehind f lists from t = (q : ℕ) → t ≡ at_point q → from ≤ start_of f lists q

-- class totals at positions from a point on are below 2^90 in size
abbrev pub AreModestFrom : Frame → ClassLists → Values → ℕ → Type 0
AreModestFrom f lists v from = (g : Target) (c : ℕ) → IsInside f g → IsFrom from g → IsClass lists (round_of f g) c → unsigned_abs (v g c) < 2 ^ 90

-- a row of round `to` or a later one lies inside its list, and its numbers are modest
pub record IsLaterRow (f : Frame) (lists : ClassLists) (to : ℕ) (r : ClassRow) : Type 0 where
  pub later : to ≤ r.round
  pub top : r.round ≤ last_round f
  pub room : r.start + class_count lists r.round ≤ length r.values.now
  pub modest : AreModestClasses r.values.now r.start (class_count lists r.round)

-- the row has what a table holds at a position
pub record IsRowOf (f : Frame) (lists : ClassLists) (v : Values) (t : Target) (r : ClassRow) : Type 0 where
  pub round_is : r.round ≡ round_of f t
  pub values_are : (c : ℕ) → IsClass lists (round_of f t) c → row_from r.values.now r.start c ≡ v t c
