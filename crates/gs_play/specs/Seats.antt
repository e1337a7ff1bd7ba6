-- What a player holds from turn to turn: an answer, and class totals against the other player's plan so far.
use Rattle.std.specs.Prelude.{ℕ, pos, ◌+◌, ◌-◌, ◌<◌, ◌≤◌, List, length, slice_index}
use Rattle.gs_model.specs.{Classes.{ClassLists}, Frame.{Frame, other_player, point_count}, Plans.{IsClassPlan, Plan}, Play.{IsFictitiousPlay, IsFirstMoves}}
use Rattle.gs_seq.specs.Payoffs.{end_sum}
use Rattle.gs_best.specs.Tables.{moves_of}
use Rattle.gs_play.specs.{Answers.{AreRight, HasAnswer, answer_plan, plan_after}, Tallies.{HasMoved, HasTallyRoom, IsTally}, declared.seat.Seat.{Seat}}

-- there is room for a player's answer and class totals in the turn `now`; the answer is a plan, and what it takes is right by the player's choices, of
-- which none has changed since
pub record IsSeat (f : Frame) (lists : ClassLists) (player now : ℕ) (s : Seat) : Type 0 where
  pub answer : HasAnswer f lists player now s.answer
  pub room : HasTallyRoom f lists s.tally
  pub plan : IsClassPlan f lists player (answer_plan f lists s.answer)
  pub right : AreRight f lists player (moves_of f lists s.answer.taken.items) (moves_of f lists s.tally.picks.items)
  pub still : (q : ℕ) → q < point_count f → HasMoved s.tally q → ⊥

-- a player's class totals are those against the other's plan in the turn `now`, to which each turn adds the other's answer
abbrev pub Faces : Frame → ClassLists → ℕ → ℕ → Seat → Seat → Type 0
Faces f lists player now s other =
    IsTally f lists player (end_sum f lists player (plan_after f lists other.answer now))
    (end_sum f lists player (answer_plan f lists other.answer)) now s.tally

-- both players hold their plans of the turn `now`, which come from one turn of fictitious play less, with class totals against each other
pub record ArePlaying (f : Frame) (lists : ClassLists) (now : ℕ) (one two : Seat) : Type 0 where
  pub some : 0 < now
  pub seat_one : IsSeat f lists 1 now one
  pub seat_two : IsSeat f lists 2 now two
  pub faces_one : Faces f lists 1 now one two
  pub faces_two : Faces f lists 2 now two one
  pub played : IsFictitiousPlay f lists (now - 1) (plan_after f lists one.answer now) (plan_after f lists two.answer now)

-- what a player holds at the start: the answer is the first plan, which takes the first move everywhere, and class totals are 0 in turn 0; each turn adds
-- those against the other's first plan
pub record IsAtStart (f : Frame) (lists : ClassLists) (player : ℕ) (s : Seat) : Type 0 where
  pub seat : IsSeat f lists player 0 s
  pub first : IsFirstMoves f lists player (answer_plan f lists s.answer)
  pub faces : (other : Plan) → IsFirstMoves f lists (other_player player) other
      → IsTally f lists player (λ z c. pos 0) (end_sum f lists player other) 0 s.tally

-- a turn comes after `now`, and unless it follows at once no place is due before it
abbrev pub IsNextDue : List ℕ → ℕ → ℕ → Type 0
IsNextDue turns now next = now + 1 < next → (k : ℕ) → k < length turns → next ≤ slice_index turns k
