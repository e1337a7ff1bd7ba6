-- Class totals of a player that move with the turns, and worths that are kept with them.
use Rattle.std.specs.Prelude.{ℕ, ◌+◌, ◌-◌, ◌*◌, ◌^◌, ◌<◌, ◌≤◌, ◌≡◌, ◌≢◌, ◌==◌, if◌then◌else◌, true, false, List, length, get_or, set, take, drop}
use Rattle.std.specs.{Prelude.{slice_index, ℤ, pos, ◌+ℤ◌, ◌-ℤ◌, ◌*ℤ◌, unsigned_abs}, Int.{div_ceil}, List.{range_with_len}}
use Rattle.gs_model.specs.{BestAnswers.{Values}, Classes.{ClassLists, IsClass}, Frame.{Frame, end_count, move_count, point_count, round_of}, Sums.{sum_z}}
use Rattle.gs_model.specs.{FrameFacts.{IsFrom, IsInside}, Positions.{Target, at_end, at_point}}
use Rattle.gs_best.specs.{Tables.{moves_of, start_of}, ClassTotals.{earlier_class, total_worth}, Places.{IsFollowedFrom}}
use Rattle.gs_play.specs.{DueTurns.{IsDues}, Lines.{StaysFirst, flat, line_at, wrapped}, Plots.{cell_place, worth_place, worth_start}, Tables.{AreSettledUntil}}
use Rattle.gs_play.specs.{declared.line.Line.{Line}, declared.plot.PointRow.{PointRow}, declared.plot.Way.{Way}, declared.tally.Tally.{Tally}}

-- the number of a line in turn 0
abbrev pub at_part : Line → ℤ
at_part l = l.at

-- what each turn adds to a line
abbrev pub slope_part : Line → ℤ
slope_part l = l.slope

-- a part of some lines, as a table: at points what the list has, at ends what is given
abbrev pub part_table : Frame → ClassLists → (Line → ℤ) → (ℕ → ℕ → ℤ) → List Line → Values
part_table f lists part ends lines (at_point q) c = part (line_at lines (cell_place f lists q c))
part_table f lists part ends lines (at_end z) c = ends z c

-- what each turn adds to class totals, where it adds `rise` at ends
abbrev pub slopes_of : Frame → ClassLists → (ℕ → ℕ → ℤ) → List Line → Values
slopes_of f lists rise totals = part_table f lists slope_part rise totals

-- what class totals are in turn 0, by their lines, where the ends pay `pays` in the turn `now`
abbrev pub zeros_of : Frame → ClassLists → (ℕ → ℕ → ℤ) → (ℕ → ℕ → ℤ) → ℕ → List Line → Values
zeros_of f lists pays rise now totals = part_table f lists at_part (λ z c. pays z c -ℤ pos now *ℤ rise z c) totals

-- some lines have, in this part, what each move of each point is worth to each class by a table. The numbers wrap around
abbrev pub HasWorths : Frame → ClassLists → (Line → ℤ) → Values → List Line → Type 0
HasWorths f lists part v worths =
    (q c m : ℕ) → q < point_count f → IsClass lists (round_of f (at_point q)) c → m < move_count f q
    → part (line_at worths (worth_place f lists q c m)) ≡ wrapped (total_worth f lists v q m c)

-- there is room for a player's class totals
pub record HasTallyRoom (f : Frame) (lists : ClassLists) (t : Tally) : Type 0 where
  pub worths : length t.worths.items ≡ worth_start f lists (point_count f)
  pub totals : length t.totals.items ≡ start_of f lists (point_count f)
  pub picks : length t.picks.items ≡ start_of f lists (point_count f)
  pub turns : length t.dues.turns.items ≡ start_of f lists (point_count f)
  pub dues : IsDues t.dues
  pub blocks : length t.dues.soonest.items ≡ div_ceil (start_of f lists (point_count f)) 64
  pub moved : length t.moved.items ≡ point_count f

-- there is room for a player's class totals, and no choice is another one than before, nor said to be
pub record KeepsChoices (f : Frame) (lists : ClassLists) (old new : Tally) : Type 0 where
  pub room : HasTallyRoom f lists new
  pub moved : new.moved ≡ old.moved
  pub picks : new.picks ≡ old.picks

-- The class totals of a player in the turn `now`: the ends pay `pays` then, and each turn adds `rise`. The worths are those of the totals, and what is due
-- later is settled until then
pub record IsTally (f : Frame) (lists : ClassLists) (player : ℕ) (pays rise : ℕ → ℕ → ℤ) (now : ℕ) (t : Tally) : Type 0 where
  pub zeros : HasWorths f lists at_part (zeros_of f lists pays rise now t.totals.items) t.worths.items
  pub slopes : HasWorths f lists slope_part (slopes_of f lists rise t.totals.items) t.worths.items
  pub settled : AreSettledUntil f lists player (zeros_of f lists pays rise now t.totals.items) (slopes_of f lists rise t.totals.items)
      (moves_of f lists t.picks.items) (moves_of f lists t.dues.turns.items) now

-- the choice of a class of a point, and whether a choice at a point has changed since the answer was made
abbrev pub HasMoved : Tally → ℕ → Type 0
HasMoved t q = get_or t.moved.items q false ≡ true

-- where no choice of a point is said to have changed, none has, and none was said to before
abbrev pub TellsMoves : Frame → ClassLists → Tally → Tally → Type 0
TellsMoves f lists old new = (q : ℕ) → q < point_count f → (HasMoved new q → ⊥)
    → (HasMoved old q → ⊥) × ((c : ℕ) → IsClass lists (round_of f (at_point q)) c → moves_of f lists new.picks.items q c ≡ moves_of f lists old.picks.items q c)

-- by each table that has these numbers at ends and follows moves from a point on, totals from there on are at most `most` in size, and so is what the moves of
-- the point before are worth
pub record AreSmallAt (f : Frame) (lists : ClassLists) (player : ℕ) (ends : ℕ → ℕ → ℤ) (most : ℕ) : Type 0 where
  pub totals : (v : Values) (move : ℕ → ℕ → ℕ) (from : ℕ)
      → ((z c : ℕ) → z < end_count f → IsClass lists (round_of f (at_end z)) c → v (at_end z) c ≡ ends z c) → IsFollowedFrom f lists player v move from
      → (g : Target) (c : ℕ) → IsInside f g → IsFrom from g → IsClass lists (round_of f g) c → unsigned_abs (v g c) ≤ most
  pub worths : (v : Values) (move : ℕ → ℕ → ℕ) (from : ℕ)
      → ((z c : ℕ) → z < end_count f → IsClass lists (round_of f (at_end z)) c → v (at_end z) c ≡ ends z c) → IsFollowedFrom f lists player v move from
      → (q m c : ℕ) → q < point_count f → from ≤ q + 1 → m < move_count f q → IsClass lists (round_of f (at_point q)) c
      → unsigned_abs (total_worth f lists v q m c) ≤ most

-- class totals are so small that no line wraps around: the ends pay `pays` now, and each turn adds `rise`
pub record AreSmallAtEnds (f : Frame) (lists : ClassLists) (player : ℕ) (pays rise : ℕ → ℕ → ℤ) : Type 0 where
  pub values : AreSmallAt f lists player pays (2 ^ 58)
  pub slopes : AreSmallAt f lists player rise (2 ^ 38)

-- class totals are found again: what is kept of the player is right in the turn `now`, and points where a choice changes are noted
pub record IsSwept (f : Frame) (lists : ClassLists) (player now : ℕ) (old new : Tally) : Type 0 where
  pub room : HasTallyRoom f lists new
  pub tells : TellsMoves f lists old new
  pub kept : (pays rise : ℕ → ℕ → ℤ) → AreSmallAtEnds f lists player pays rise → IsTally f lists player pays rise now old
      → IsTally f lists player pays rise now new

-- ---- of private functions

-- class totals and worths are 0 in all turns, all cells are due, and each choice is the first move
pub record IsBlank (t : Tally) : Type 0 where
  pub worths : (k : ℕ) → line_at t.worths.items k ≡ flat
  pub totals : (k : ℕ) → line_at t.totals.items k ≡ flat
  pub due : (k : ℕ) → slice_index t.dues.turns.items k ≡ 0
  pub picks : (k : ℕ) → slice_index t.picks.items k ≡ 0
  pub still : (q : ℕ) → HasMoved t q → ⊥

-- a choice is written at a cell of a point, and where it is another one than before this is noted for the point
pub record IsPicked (point cell best : ℕ) (old new : Tally) : Type 0 where
  pub picks : new.picks.items ≡ set old.picks.items cell best
  pub long : length new.moved.items ≡ length old.moved.items
  pub here : (HasMoved new point → ⊥) → (HasMoved old point → ⊥) × (slice_index old.picks.items cell ≡ best)
  pub others : (q : ℕ) → q ≢ point → get_or new.moved.items q false ≡ get_or old.moved.items q false

-- a cell of a point has the first greatest of some lines and the place of it, up to the turn in which it is due
pub record IsChosen (lines : List Line) (point cell now last : ℕ) (old new : Tally) : Type 0 where
  pub inside : slice_index new.picks.items cell < length lines
  pub stays : StaysFirst lines (slice_index new.picks.items cell) now (slice_index new.dues.turns.items cell)
  pub later : now < slice_index new.dues.turns.items cell
  pub totals : new.totals.items ≡ set old.totals.items cell (line_at lines (slice_index new.picks.items cell))
  pub picked : IsPicked point cell (slice_index new.picks.items cell) old new
  pub dues : new.dues.turns.items ≡ set old.dues.turns.items cell (slice_index new.dues.turns.items cell)

-- a cell has the sum of some lines, and is due in the last turn
pub record IsAddedUp (lines : List Line) (cell last : ℕ) (old new : Tally) : Type 0 where
  pub total : Line
  pub at_is : total.at ≡ wrapped (sum_z (λ m. (line_at lines m).at) (range_with_len 0 (length lines)))
  pub slope_is : total.slope ≡ wrapped (sum_z (λ m. (line_at lines m).slope) (range_with_len 0 (length lines)))
  pub totals : new.totals.items ≡ set old.totals.items cell total
  pub picks : new.picks ≡ old.picks
  pub dues : new.dues.turns.items ≡ set old.dues.turns.items cell last

-- a line is added to a worth, and the cell of the worth is due
pub record IsFed (place cell : ℕ) (more : Line) (old new : Tally) : Type 0 where
  pub worth : Line
  pub at_is : worth.at ≡ wrapped ((line_at old.worths.items place).at +ℤ more.at)
  pub slope_is : worth.slope ≡ wrapped ((line_at old.worths.items place).slope +ℤ more.slope)
  pub worths : new.worths.items ≡ set old.worths.items place worth
  pub dues : new.dues.turns.items ≡ set old.dues.turns.items cell 0
  pub totals : new.totals ≡ old.totals
  pub picks : new.picks ≡ old.picks

-- the lines of what the moves of a cell of a row are worth
abbrev pub lines_at : PointRow → ℕ → Tally → List Line
lines_at r cell t = take r.moves (drop (r.worth + (cell - r.cell) * r.moves) t.worths.items)

-- the class total of a cell of a row is found again from the worths of its moves
pub record IsLineFound (player : ℕ) (r : PointRow) (cell now last : ℕ) (old new : Tally) : Type 0 where
  pub own : r.player ≡ player → IsChosen (lines_at r cell old) r.point cell now last old new
  pub others : r.player ≢ player → IsAddedUp (lines_at r cell old) cell last old new
  pub worths : new.worths ≡ old.worths

-- the class above a class of the round to which a way leads
abbrev pub up_of : Frame → ClassLists → Way → ℕ → ℕ
up_of f lists w e = earlier_class f lists w.round w.row.round e

-- a line is added to what the move of a way is worth to the class above a class of the round to which it leads
abbrev pub FeedsAbove : Frame → ClassLists → Way → ℕ → Line → Tally → Tally → Type 0
FeedsAbove f lists w e more old new =
    IsFed (worth_place f lists w.row.point (up_of f lists w e) w.choice) (cell_place f lists w.row.point (up_of f lists w e)) more old new

-- numbers at ends, with more at the classes of one end
abbrev pub risen_at : (ℕ → ℕ → ℤ) → ℕ → (ℕ → ℤ) → ℕ → ℕ → ℤ
risen_at rise z more y c = rise y c +ℤ (if y == z then more c else pos 0)

-- numbers at ends, with more at one class of one end
abbrev pub risen : (ℕ → ℕ → ℤ) → ℕ → ℕ → ℤ → ℕ → ℕ → ℤ
risen rise z k more = risen_at rise z (λ c. if k == c then more else pos 0)

-- each turn adds more to what an end pays the classes of a player
abbrev pub HasRisen : Frame → ClassLists → ℕ → ℕ → (ℕ → ℤ) → ℕ → Tally → Tally → Type 0
HasRisen f lists player end more now old new =
    (pays rise : ℕ → ℕ → ℤ) → IsTally f lists player pays rise now old → IsTally f lists player pays (risen_at rise end more) now new
