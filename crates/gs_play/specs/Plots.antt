-- Where the numbers of a game stand, and what counts for what.
use Rattle.std.specs.Prelude.{ℕ, ◌+◌, ◌-◌, ◌*◌, ◌<◌, ◌≤◌, ◌≡◌, ◌≢◌, List, length, get_or, option_map, set, slice_index, sum_by, Option, Some, None}
use Rattle.std.specs.List.{range_with_len}
use Rattle.gs_game.specs.{Seen.{step_of}, declared.positions.Step.{Step as StoredStep}}
use Rattle.gs_model.specs.{Classes.{ClassLists, IsClass}, Frame.{Frame, end_count, last_step, leads_to, move_count, player_at, point_count, round_of}}
use Rattle.gs_model.specs.Positions.{Step, Target, at_end, at_point}
use Rattle.gs_best.specs.{ClassTotals.{earlier_class}, Tables.{classes_at, start_of}}
use Rattle.gs_play.specs.{declared.plot.Plot.{Plot}, declared.plot.PointRow.{PointRow}, declared.plot.Span.{Span}, declared.plot.Way.{Way}}

-- the place of a point's first worth
abbrev pub worth_start : Frame → ClassLists → ℕ → ℕ
worth_start f lists q = sum_by (λ p. classes_at f lists p * move_count f p) (range_with_len 0 q)

-- the place of what a move is worth to a class
abbrev pub worth_place : Frame → ClassLists → ℕ → ℕ → ℕ → ℕ
worth_place f lists q c m = worth_start f lists q + ((c - 1) * move_count f q + m)

-- the place of a class total: its cell
abbrev pub cell_place : Frame → ClassLists → ℕ → ℕ → ℕ
cell_place f lists q c = start_of f lists q + (c - 1)

-- a cell is one of a point's
pub record IsCellOf (f : Frame) (lists : ClassLists) (q cell : ℕ) : Type 0 where
  pub inside : q < point_count f
  pub from : start_of f lists q ≤ cell
  pub below : cell < start_of f lists q + classes_at f lists q

-- a row is that of its point
pub record IsRowIn (f : Frame) (lists : ClassLists) (r : PointRow) : Type 0 where
  pub inside : r.point < point_count f
  pub player : r.player ≡ player_at f r.point
  pub round : r.round ≡ round_of f (at_point r.point)
  pub moves : r.moves ≡ move_count f r.point
  pub cell : r.cell ≡ start_of f lists r.point
  pub worth : r.worth ≡ worth_start f lists r.point

-- the row at a place of a list
abbrev pub row_in : List PointRow → ℕ → PointRow
row_in rows q = get_or rows q (record { point = 0; player = 0; round = 0; moves = 0; cell = 0; worth = 0 })

-- the rows of all points before one
abbrev pub AreRowsBefore : Frame → ClassLists → ℕ → List PointRow → Type 0
AreRowsBefore f lists count rows = (q : ℕ) → q < count → ((row_in rows q).point ≡ q) × IsRowIn f lists (row_in rows q)

-- a way is a move of the game, with the row of its point and the round to which it leads
pub record IsWayIn (f : Frame) (lists : ClassLists) (w : Way) : Type 0 where
  pub row : IsRowIn f lists w.row
  pub choice : w.choice < move_count f w.row.point
  pub round : w.round ≡ round_of f (leads_to f w.row.point w.choice)

-- a way leads to a position
pub record LeadsTo (f : Frame) (lists : ClassLists) (t : Target) (w : Way) : Type 0 where
  pub way : IsWayIn f lists w
  pub leads : leads_to f w.row.point w.choice ≡ t

-- a move leads to a position
pub record IsMoveTo (f : Frame) (t : Target) (u : Step) : Type 0 where
  pub inside : u.point < point_count f
  pub choice : u.choice < move_count f u.point
  pub leads : leads_to f u.point u.choice ≡ t

-- no move leads to a position
abbrev pub HasNoWay : Frame → Target → Type 0
HasNoWay f t = (q m : ℕ) → q < point_count f → m < move_count f q → leads_to f q m ≡ t → ⊥

-- the move that leads to a position; `None` if no move does
pub record MatchMove (f : Frame) (t : Target) (o : Option StoredStep) : Type 0 where
  pub some : (s : StoredStep) → o ≡ Some s → IsMoveTo f t (step_of s)
  pub none : o ≡ None → HasNoWay f t

-- each cell of a list has its point
abbrev pub AreCells : Frame → ClassLists → List ℕ → Type 0
AreCells f lists points = (cell : ℕ) → cell < length points → IsCellOf f lists (slice_index points cell) cell

-- the span at a place of a list
abbrev pub span_in : List Span → ℕ → Span
span_in spans q = get_or spans q (record { first = 0; stop = 0 })

-- an end is in the span of the point where a player chose last before it
abbrev pub HasEnd : Frame → ℕ → ℕ → List Span → Type 0
HasEnd f player z spans = (u : Step) → last_step f player (at_end z) ≡ Some u → ((span_in spans u.point).first ≤ z) × (z < (span_in spans u.point).stop)

-- each span has become at most wider
abbrev pub AreWider : List Span → List Span → Type 0
AreWider old new = (q : ℕ) → ((span_in new q).first ≤ (span_in old q).first) × ((span_in old q).stop ≤ (span_in new q).stop)

-- the spans of points have each end before another one, and none that the game has not
pub record AreSpans (f : Frame) (count : ℕ) (spans : List Span) : Type 0 where
  pub long : length spans ≡ point_count f
  pub within : (q : ℕ) → q < point_count f → (span_in spans q).stop ≤ end_count f
  pub all : (z player : ℕ) → z < count → 0 < player → player ≤ 2 → HasEnd f player z spans

-- what is kept of the last step before a point of the player who chooses there
abbrev pub IsGate : Frame → ℕ → Option StoredStep → Type 0
IsGate f q gate = option_map step_of gate ≡ last_step f (player_at f q) (at_point q)

-- the cell above a class of a point, at another point
abbrev pub cell_above : Frame → ClassLists → ℕ → ℕ → ℕ → ℕ
cell_above f lists q c p = cell_place f lists p (earlier_class f lists (round_of f (at_point q)) (round_of f (at_point p)) c)

-- the cell above a class of a point in which a step was made; any cell if there is no step
abbrev pub IsAbove : Frame → ClassLists → Option Step → ℕ → ℕ → ℕ → Type 0
IsAbove f lists step q c cell = (u : Step) → step ≡ Some u → cell ≡ cell_above f lists q c u.point

-- for each cell that a list has, it has the cell above it in which a step was made, by the steps that stand for points
abbrev pub AreAbove : Frame → ClassLists → (ℕ → Option Step) → List ℕ → Type 0
AreAbove f lists steps cells = (q c : ℕ) → q < point_count f → IsClass lists (round_of f (at_point q)) c → cell_place f lists q c < length cells
    → IsAbove f lists (steps q) q c (slice_index cells (cell_place f lists q c))

-- a list has all cells
pub record HasAbove (f : Frame) (lists : ClassLists) (steps : ℕ → Option Step) (cells : List ℕ) : Type 0 where
  pub long : length cells ≡ start_of f lists (point_count f)
  pub above : AreAbove f lists steps cells

-- the plot of a game
pub record IsPlot (f : Frame) (lists : ClassLists) (p : Plot) : Type 0 where
  pub many : length p.rows.items ≡ point_count f
  pub rows : AreRowsBefore f lists (point_count f) p.rows.items
  pub worths : p.worths ≡ worth_start f lists (point_count f)
  pub long : length p.points.items ≡ start_of f lists (point_count f)
  pub points : AreCells f lists p.points.items
  pub many_to_points : length p.to_points.items ≡ point_count f
  pub many_to_ends : length p.to_ends.items ≡ end_count f
  pub to_points : (q : ℕ) → q < point_count f → MatchMove f (at_point q) (get_or p.to_points.items q None)
  pub to_ends : (z : ℕ) → z < end_count f → MatchMove f (at_end z) (get_or p.to_ends.items z None)
  pub spans : AreSpans f (end_count f) p.spans.items
  pub gates : HasAbove f lists (λ q. last_step f (player_at f q) (at_point q)) p.gates.items

-- ---- of private functions

-- what two lists say of a position
abbrev pub way_to : List (Option StoredStep) → List (Option StoredStep) → Target → Option StoredStep
way_to to_points to_ends (at_point q) = get_or to_points q None
way_to to_points to_ends (at_end z) = get_or to_ends z None

-- a move is noted at the position to which it leads
abbrev pub IsMoveNoted : StoredStep → Target → List (Option StoredStep) → List (Option StoredStep) → List (Option StoredStep)
    → List (Option StoredStep) → Type 0
IsMoveNoted s (at_point q) to_points to_ends new_points new_ends = (new_points ≡ set to_points q (Some s)) × (new_ends ≡ to_ends)
IsMoveNoted s (at_end z) to_points to_ends new_points new_ends = (new_points ≡ to_points) × (new_ends ≡ set to_ends z (Some s))

-- what is noted is a move that leads there, and all moves before one are noted
pub record AreMovesNoted (f : Frame) (point choice : ℕ) (to_points to_ends : List (Option StoredStep)) : Type 0 where
  pub leads : (t : Target) (s : StoredStep) → way_to to_points to_ends t ≡ Some s → IsMoveTo f t (step_of s)
  pub before : (q m : ℕ) → q < point → m < move_count f q → way_to to_points to_ends (leads_to f q m) ≢ None
  pub here : (m : ℕ) → m < choice → way_to to_points to_ends (leads_to f point m) ≢ None

-- a step, if there is one, was made at a point of the game, in the round of another one or before it
abbrev pub IsStepBefore : Frame → Option Step → ℕ → Type 0
IsStepBefore f step q = (u : Step) → step ≡ Some u → (u.point < point_count f) × (round_of f (at_point u.point) ≤ round_of f (at_point q))
