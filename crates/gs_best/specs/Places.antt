-- Class totals kept in a list: a row for each point, one after the other. A row has a number for each class.
use Rattle.std.specs.Prelude.{ℕ, ◌+◌, ◌-◌, ◌<◌, ◌≤◌, ◌≡◌, ◌≢◌, List, get_or, ℤ, pos, ◌≤ℤ◌, ◌<ℤ◌}
use Rattle.gs_model.specs.{BestAnswers.{Values}, Classes.{ClassLists, IsClass}, Plans.{Plan}, Positions.{at_end, at_point}, Sums.{sum_z}}
use Rattle.gs_model.specs.Frame.{Frame, choices_at, move_count, player_at, point_count, round_of}
use Rattle.gs_seq.specs.Payoffs.{end_sum}
use Rattle.gs_best.specs.{ClassTotals.{total_worth}, Tables.{start_of}}

-- class totals: at points those of a list, at ends what the end pays
abbrev pub totals_of : Frame → ClassLists → ℕ → Plan → List ℤ → Values
totals_of f lists player y values (at_point q) c = get_or values (start_of f lists q + (c - 1)) (pos 0)
totals_of f lists player y values (at_end z) c = end_sum f lists player y z c

-- at the player's points from `from` on, `move` names a move of the point for each class, and the class total is that move's worth.
-- At the other player's points from `from` on, the class total is the sum of the worths of all moves
pub record IsFollowedFrom (f : Frame) (lists : ClassLists) (player : ℕ) (v : Values) (move : ℕ → ℕ → ℕ) (from : ℕ) : Type 0 where
  pub in_range : (q c : ℕ) → from ≤ q → q < point_count f → player_at f q ≡ player → IsClass lists (round_of f (at_point q)) c → move q c < move_count f q
  pub reached : (q c : ℕ) → from ≤ q → q < point_count f → player_at f q ≡ player → IsClass lists (round_of f (at_point q)) c
      → v (at_point q) c ≡ total_worth f lists v q (move q c) c
  pub at_others : (q c : ℕ) → from ≤ q → q < point_count f → player_at f q ≢ player → IsClass lists (round_of f (at_point q)) c
      → v (at_point q) c ≡ sum_z (λ m. total_worth f lists v q m c) (choices_at f q)

-- at the player's points from `from` on, no move is worth more than the class total, and every move before `move` is worth less
pub record AreFirstFrom (f : Frame) (lists : ClassLists) (player : ℕ) (v : Values) (move : ℕ → ℕ → ℕ) (from : ℕ) : Type 0 where
  pub none_more : (q m c : ℕ) → from ≤ q → q < point_count f → player_at f q ≡ player → m < move_count f q → IsClass lists (round_of f (at_point q)) c
      → total_worth f lists v q m c ≤ℤ v (at_point q) c
  pub none_before : (q m c : ℕ) → from ≤ q → q < point_count f → player_at f q ≡ player → IsClass lists (round_of f (at_point q)) c → m < move q c
      → total_worth f lists v q m c <ℤ v (at_point q) c

-- from point `from` on, v has the best class totals and `move` the first best moves
pub record AreBestFrom (f : Frame) (lists : ClassLists) (player : ℕ) (v : Values) (move : ℕ → ℕ → ℕ) (from : ℕ) : Type 0 where
  pub followed : IsFollowedFrom f lists player v move from
  pub greatest : AreFirstFrom f lists player v move from
