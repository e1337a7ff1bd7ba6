-- Room for class totals.
use Rattle.std.specs.Prelude.{ℕ, ◌-◌, ◌<◌, ◌≤◌, length}
use Rattle.gs_model.specs.{Classes.{ClassLists, class_count}, Frame.{Frame, last_round, point_count}}
use Rattle.gs_best.specs.{Tables.{AreStarts, start_of}, declared.tables.Scratch.{Scratch}, declared.tables.Table.{Table}}

-- none of the first `rounds` rounds has more than `wide` classes
abbrev pub IsWideTo : ℕ → ClassLists → ℕ → Type 0
IsWideTo rounds lists wide = (round : ℕ) → 0 < round → round ≤ rounds → class_count lists round ≤ wide

-- no round has more than `wide` classes
abbrev pub IsWide : Frame → ClassLists → ℕ → Type 0
IsWide f = IsWideTo (last_round f)

-- no round before the last has more than `wide` classes
abbrev pub IsWideEarlier : Frame → ClassLists → ℕ → Type 0
IsWideEarlier f = IsWideTo (last_round f - 1)

-- the length of each scratch row meets the test, and that of `worths` the other one
pub record AreOfLength (is_long is_long_earlier : ℕ → Type 0) (s : Scratch) : Type 0 where
  pub numbers : is_long (length s.numbers.items)
  pub ends : is_long (length s.ends.items)
  pub worths : is_long_earlier (length s.worths.items)

-- each scratch row has an entry for each class of any round; that of worths, of any round before the last
abbrev pub HasRows : Frame → ClassLists → Scratch → Type 0
HasRows f lists = AreOfLength (IsWide f lists) (IsWideEarlier f lists)

-- the table has room for `points` points and `entries` totals
pub record HoldsEntries (points entries : ℕ) (t : Table) : Type 0 where
  pub starts : points ≤ length t.starts.items
  pub totals : entries ≤ length t.totals.items
  pub picks : entries ≤ length t.picks.items

-- the table has room for each point's start, and for a total and a move at each point and class
abbrev pub HoldsAll : Frame → ClassLists → Table → Type 0
HoldsAll f lists = HoldsEntries (point_count f) (start_of f lists (point_count f))

-- the table has room for all totals, and it has the place where each point's totals start
pub record IsLaid (f : Frame) (lists : ClassLists) (t : Table) : Type 0 where
  pub holds : HoldsAll f lists t
  pub places : AreStarts f lists t.starts.items
