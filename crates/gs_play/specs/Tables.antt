-- Class totals that move on straight lines: a table of numbers in turn 0 and a table of slopes.
use Rattle.std.specs.Prelude.{ℕ, ◌<◌, ◌≤◌, ◌≡◌, ◌≢◌, ◌==◌, ℤ, pos, if◌then◌else◌}
use Rattle.gs_model.specs.{BestAnswers.{Values}, Classes.{ClassLists, IsClass, classes_in}, Pairs.{pair_sum}, Positions.{Step, at_end, at_point}, Sums.{sum_z}}
use Rattle.gs_model.specs.Frame.{Frame, choices_at, move_count, payoff_to, player_at, point_count, round_of}
use Rattle.gs_best.specs.{Rows.{IsFirstGreatest}, ClassTotals.{earlier_class, total_worth}}
use Rattle.gs_play.specs.Jumps.{line}

-- what a move is worth to a class as a whole in a turn
abbrev pub worth_in : Frame → ClassLists → Values → Values → ℕ → ℕ → ℕ → ℕ → ℤ
worth_in f lists at slope q c t m = line (total_worth f lists at q m c) (total_worth f lists slope q m c) t

-- an own class has the line of a move, which is the first greatest one in each turn from one on up to another
pub record IsOwnSettled (f : Frame) (lists : ClassLists) (at slope : Values) (q c place now until : ℕ) : Type 0 where
  pub in_range : place < move_count f q
  pub at_is : at (at_point q) c ≡ total_worth f lists at q place c
  pub slope_is : slope (at_point q) c ≡ total_worth f lists slope q place c
  pub first : (t : ℕ) → now ≤ t → t < until
      → IsFirstGreatest (worth_in f lists at slope q c t) (move_count f q) (worth_in f lists at slope q c t place) place

-- a class of the other's has the sum of the lines of all moves
pub record IsOtherSettled (f : Frame) (lists : ClassLists) (at slope : Values) (q c : ℕ) : Type 0 where
  pub at_is : at (at_point q) c ≡ sum_z (λ m. total_worth f lists at q m c) (choices_at f q)
  pub slope_is : slope (at_point q) c ≡ sum_z (λ m. total_worth f lists slope q m c) (choices_at f q)

-- the line of a point and class is known, and needs no look, in the turns from one on up to another
pub record IsLineSettled (f : Frame) (lists : ClassLists) (player : ℕ) (at slope : Values) (q c place now until : ℕ) : Type 0 where
  pub own : player_at f q ≡ player → IsOwnSettled f lists at slope q c place now until
  pub others : player_at f q ≢ player → IsOtherSettled f lists at slope q c

-- the sum over the other's classes below a class of a step's point of what an end pays in the deals of both classes: what one more at the step adds
abbrev pub raise_sum : Frame → ClassLists → ℕ → ℕ → Step → ℕ → ℕ → ℤ
raise_sum f lists player z u e c =
    let round = round_of f (at_end z) in
    sum_z (λ k. if earlier_class f lists round (round_of f (at_point u.point)) k == e then pair_sum f lists lists round (payoff_to f player z) c k else pos 0)
    (classes_in lists round)

-- each point and class that is due after now is settled until then, by the move that is chosen there
abbrev pub AreSettledUntil : Frame → ClassLists → ℕ → Values → Values → (ℕ → ℕ → ℕ) → (ℕ → ℕ → ℕ) → ℕ → Type 0
AreSettledUntil f lists player at slope pick due now =
    (q c : ℕ) → q < point_count f → IsClass lists (round_of f (at_point q)) c → now < due q c
    → IsLineSettled f lists player at slope q c (pick q c) now (due q c)
