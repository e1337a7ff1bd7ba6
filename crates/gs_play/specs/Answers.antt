-- A player's answer: the moves that it takes, and the weights so far.
use Rattle.std.specs.Prelude.{ℕ, ⊤, ◌+◌, ◌-◌, ◌<◌, ◌≤◌, ◌≡◌, ◌≢◌, ◌==◌, ◌&&◌, Bool, List, Option, Some, None, ℤ, false, length}
use Rattle.std.specs.Prelude.{get_or, slice_index, if◌then◌else◌}
use Rattle.gs_model.specs.{Classes.{ClassLists, IsClass}, Frame.{Frame, last_step, move_count, other_player, player_at, point_count, round_of}, Plans.{Plan}}
use Rattle.gs_model.specs.Positions.{Step, at_point}
use Rattle.gs_seq.specs.{Payoffs.{end_sum}, Slots.{slot_count, slot_of}}
use Rattle.gs_best.specs.{Tables.{AreInMoves, moves_of, start_of}, ClassTotals.{earlier_class}}
use Rattle.gs_play.specs.{PlanSums.{ArePlansAlike}, Tallies.{HasTallyRoom, IsTally, KeepsChoices}}
use Rattle.gs_play.specs.{declared.answers.Answer.{Answer}, declared.tally.Tally.{Tally}}

-- the answer takes its player's last step before a point, at the class above a class of the point; it comes there, too, if there is no such step
abbrev pub IsReached : Frame → ClassLists → (ℕ → ℕ → ℕ) → Option Step → ℕ → ℕ → Type 0
IsReached f lists taken None round c = ⊤
IsReached f lists taken (Some u) round c = taken u.point (earlier_class f lists round (round_of f (at_point u.point)) c) ≡ u.choice

-- a move is right at a class of a point behind its player's last step: the chosen move where the answer comes there, else the mark 255
pub record IsRightMove (f : Frame) (lists : ClassLists) (taken move : ℕ → ℕ → ℕ) (step : Option Step) (q c new : ℕ) : Type 0 where
  pub on : IsReached f lists taken step (round_of f (at_point q)) c → new ≡ move q c
  pub off : (IsReached f lists taken step (round_of f (at_point q)) c → ⊥) → new ≡ 255

-- what is taken at a class is right
abbrev pub IsRight : Frame → ClassLists → (ℕ → ℕ → ℕ) → (ℕ → ℕ → ℕ) → ℕ → ℕ → Type 0
IsRight f lists taken move q c = IsRightMove f lists taken move (last_step f (player_at f q) (at_point q)) q c (taken q c)

-- the plan of total 1 that takes a move at each class, or none where what is said is no move of the point
abbrev pub taken_plan : (ℕ → ℕ → ℕ) → Plan
taken_plan taken = record { total = 1; number = λ q c m. if m == taken q c then 1 else 0 }

-- at each class of a player's points what is taken is right
abbrev pub AreRight : Frame → ClassLists → ℕ → (ℕ → ℕ → ℕ) → (ℕ → ℕ → ℕ) → Type 0
AreRight f lists player taken move =
    (q c : ℕ) → q < point_count f → player_at f q ≡ player → IsClass lists (round_of f (at_point q)) c → IsRight f lists taken move q c

-- the plan that an answer takes in each turn
abbrev pub answer_plan : Frame → ClassLists → Answer → Plan
answer_plan f lists a = taken_plan (moves_of f lists a.taken.items)

-- the plan so far in the turn `now`: the weights, and at the moves that are taken the turns since then
abbrev pub plan_after : Frame → ClassLists → Answer → ℕ → Plan
plan_after f lists a now = record {
  total = now;
  number = λ q c m. slice_index a.weights.items (slot_of f lists q c m)
      + (if m == moves_of f lists a.taken.items q c then now - moves_of f lists a.since.items q c else 0);
}

-- there is room for an answer. It takes moves of the game, or the mark 255 where it takes none, each since the turn `now` or before. A weight has at most
-- the turns before the move at its class began to be taken
pub record HasAnswer (f : Frame) (lists : ClassLists) (player now : ℕ) (a : Answer) : Type 0 where
  pub weights : length a.weights.items ≡ slot_count f lists player
  pub taken : length a.taken.items ≡ start_of f lists (point_count f)
  pub since : length a.since.items ≡ start_of f lists (point_count f)
  pub turned : length a.turned.items ≡ point_count f
  pub moves : (q c : ℕ) → q < point_count f → player_at f q ≡ player → IsClass lists (round_of f (at_point q)) c
      → moves_of f lists a.taken.items q c < 255 → moves_of f lists a.taken.items q c < move_count f q
  pub begun : (k : ℕ) → slice_index a.since.items k ≤ now
  pub few : (q c m : ℕ) → q < point_count f → player_at f q ≡ player → IsClass lists (round_of f (at_point q)) c → m < move_count f q
      → slice_index a.weights.items (slot_of f lists q c m) ≤ moves_of f lists a.since.items q c

-- the class totals of a player, kept against a plan that takes moves in each turn, are kept against the plan that takes others instead
abbrev pub IsPassedOn : Frame → ClassLists → ℕ → ℕ → (ℕ → ℕ → ℕ) → (ℕ → ℕ → ℕ) → Tally → Tally → Type 0
IsPassedOn f lists player now from to old new =
    (pays : ℕ → ℕ → ℤ) → IsTally f lists player pays (end_sum f lists player (taken_plan from)) now old
    → IsTally f lists player pays (end_sum f lists player (taken_plan to)) now new

-- a player's answer can be found again from these choices, and the other player's class totals told
pub record IsRenewable (f : Frame) (lists : ClassLists) (player now : ℕ) (picks : List ℕ) (a : Answer) (t : Tally) : Type 0 where
  pub answer : HasAnswer f lists player now a
  pub long : length picks ≡ start_of f lists (point_count f)
  pub moves : AreInMoves f lists player (moves_of f lists picks)
  pub room : HasTallyRoom f lists t

-- an answer has been found again, here or there: the plan so far stays, and the other player's class totals are told. `start` and `before` are the
-- answer and the class totals as they were
pub record IsRenewed (f : Frame) (lists : ClassLists) (player now : ℕ) (start a : Answer) (before t : Tally) : Type 0 where
  pub answer : HasAnswer f lists player now a
  pub plan : ArePlansAlike f lists player (plan_after f lists a now) (plan_after f lists start now)
  pub kept : KeepsChoices f lists before t
  pub passed_on : IsPassedOn f lists (other_player player) now (moves_of f lists start.taken.items) (moves_of f lists a.taken.items) before t

-- two tallies have the same lines, dues and choices
pub record IsSameTally (old new : Tally) : Type 0 where
  pub worths : new.worths ≡ old.worths
  pub totals : new.totals ≡ old.totals
  pub dues : new.dues ≡ old.dues
  pub picks : new.picks ≡ old.picks

-- what is taken at each class of a point is right
abbrev pub IsRightAt : Frame → ClassLists → List ℕ → List ℕ → ℕ → Type 0
IsRightAt f lists taken picks q =
    (c : ℕ) → IsClass lists (round_of f (at_point q)) c → IsRight f lists (moves_of f lists taken) (moves_of f lists picks) q c

-- ---- of private functions

-- what is taken has changed at no class but one
abbrev pub AreTakenBut : Frame → ClassLists → ℕ → ℕ → (ℕ → ℕ → ℕ) → (ℕ → ℕ → ℕ) → Type 0
AreTakenBut f lists q c from to =
    (p e : ℕ) → p < point_count f → IsClass lists (round_of f (at_point p)) e → (p ≡ q → e ≡ c → ⊥) → to p e ≡ from p e

-- an answer has changed at no class but this one
pub record IsElsewhere (f : Frame) (lists : ClassLists) (q c : ℕ) (old new : Answer) : Type 0 where
  pub taken : AreTakenBut f lists q c (moves_of f lists old.taken.items) (moves_of f lists new.taken.items)
  pub turned : (p : ℕ) → p ≢ q → get_or new.turned.items p false ≡ get_or old.turned.items p false

-- a player takes another move at a class of a point than before, and elsewhere the same
pub record IsOtherMove (f : Frame) (lists : ClassLists) (q c old new : ℕ) (from to : ℕ → ℕ → ℕ) : Type 0 where
  pub before : from q c ≡ old
  pub here : to q c ≡ new
  pub elsewhere : AreTakenBut f lists q c from to

-- what two lists say is taken has changed at no point but one
abbrev pub AreKeptBut : Frame → ClassLists → ℕ → List ℕ → List ℕ → Type 0
AreKeptBut f lists q old new =
    (p e : ℕ) → p < point_count f → IsClass lists (round_of f (at_point p)) e → p ≢ q → moves_of f lists new p e ≡ moves_of f lists old p e

-- an answer has changed at no point but one, and not there either if the point is not said to have been changed
pub record IsTurnedAt (f : Frame) (lists : ClassLists) (q : ℕ) (old new : Answer) : Type 0 where
  pub taken : AreKeptBut f lists q old.taken.items new.taken.items
  pub turned : (p : ℕ) → p ≢ q → get_or new.turned.items p false ≡ get_or old.turned.items p false
  pub still : get_or new.turned.items q false ≡ false → (e : ℕ) → IsClass lists (round_of f (at_point q)) e
      → moves_of f lists new.taken.items q e ≡ moves_of f lists old.taken.items q e

-- no choice at a point has changed, nor what is taken at the point of its player's last step before it
pub record IsStill (f : Frame) (q : ℕ) (moved turned : List Bool) : Type 0 where
  pub own : get_or moved q false ≡ false
  pub gate : (u : Step) → last_step f (player_at f q) (at_point q) ≡ Some u → get_or turned u.point false ≡ false

-- the weight of the move that is taken at a class of a point has the turns since then, and each other weight is what it was
abbrev pub IsPaidOff : Frame → ClassLists → ℕ → ℕ → ℕ → ℕ → ℕ → ℕ → Answer → Answer → Type 0
IsPaidOff f lists point class now q c m old new =
    slice_index new.weights.items (slot_of f lists q c m) ≡ slice_index old.weights.items (slot_of f lists q c m)
    + (if (q == point) && ((c == class) && (m == moves_of f lists old.taken.items point class)) then now - moves_of f lists old.since.items point class else 0)
