-- Class totals: what all members of a class gain together. A class total is the class's size times the value of its first member, so totals order the
-- moves as values do. At ends they are sums over pairs of classes; in an earlier round they are sums over the classes below.
use Rattle.std.specs.Prelude.{ℕ, ◌<◌, ◌≡◌, ◌≢◌, ◌==◌, ℤ, pos, ◌≤ℤ◌, ◌<ℤ◌, if◌then◌else◌}
use Rattle.gs_model.specs.{BestAnswers.{IsBestValues, Values, spread, start_sum}, Classes.{ClassLists, IsClass, class_of, classes_in, first_member}}
use Rattle.gs_model.specs.Frame.{Frame, ancestor, choices_at, end_count, leads_to, move_count, player_at, point_count, round_of}
use Rattle.gs_model.specs.{Plans.{Plan}, Positions.{at_end, at_point}, Sums.{sum_z}}
use Rattle.gs_seq.specs.Payoffs.{end_sum}

-- the class in an earlier round that a class descends from
abbrev pub earlier_class : Frame → ClassLists → ℕ → ℕ → ℕ → ℕ
earlier_class f lists from to c = class_of lists to (ancestor f from to (first_member lists from c))

-- the sum of a table v over the classes of round `from` that are below class c of round `to`
abbrev pub gathered_below : Frame → ClassLists → ℕ → ℕ → (ℕ → ℤ) → ℕ → ℤ
gathered_below f lists from to v c = sum_z (λ k. if earlier_class f lists from to k == c then v k else pos 0) (classes_in lists from)

-- what a move is worth to all members of a class together, by a table of class totals
abbrev pub total_worth : Frame → ClassLists → Values → ℕ → ℕ → ℕ → ℤ
total_worth f lists v q m c = gathered_below f lists (round_of f (leads_to f q m)) (round_of f (at_point q)) (v (leads_to f q m)) c

-- v has the class totals against a plan y over classes of the other player, when the player follows `move` at each own point and class
pub record IsFollowed (f : Frame) (lists : ClassLists) (player : ℕ) (y : Plan) (v : Values) (move : ℕ → ℕ → ℕ) : Type 0 where
  pub at_ends : (z c : ℕ) → z < end_count f → IsClass lists (round_of f (at_end z)) c → v (at_end z) c ≡ end_sum f lists player y z c
  pub in_range : (q c : ℕ) → q < point_count f → player_at f q ≡ player → IsClass lists (round_of f (at_point q)) c → move q c < move_count f q
  pub reached : (q c : ℕ) → q < point_count f → player_at f q ≡ player → IsClass lists (round_of f (at_point q)) c
      → v (at_point q) c ≡ total_worth f lists v q (move q c) c
  pub at_others : (q c : ℕ) → q < point_count f → player_at f q ≢ player → IsClass lists (round_of f (at_point q)) c
      → v (at_point q) c ≡ sum_z (λ m. total_worth f lists v q m c) (choices_at f q)

-- at each own point and class the followed move is the first of greatest worth
pub record AreFirstGreatest (f : Frame) (lists : ClassLists) (player : ℕ) (v : Values) (move : ℕ → ℕ → ℕ) : Type 0 where
  pub none_more : (q m c : ℕ) → q < point_count f → player_at f q ≡ player → m < move_count f q → IsClass lists (round_of f (at_point q)) c
      → total_worth f lists v q m c ≤ℤ v (at_point q) c
  pub none_before : (q m c : ℕ) → q < point_count f → player_at f q ≡ player → IsClass lists (round_of f (at_point q)) c → m < move q c
      → total_worth f lists v q m c <ℤ v (at_point q) c

-- v has the best class totals, and `move` the first best moves
pub record AreBestTotals (f : Frame) (lists : ClassLists) (player : ℕ) (y : Plan) (v : Values) (move : ℕ → ℕ → ℕ) : Type 0 where
  pub followed : IsFollowed f lists player y v move
  pub greatest : AreFirstGreatest f lists player v move

-- what a player's best raw plan of total 1 gains against the other's raw plan y
pub record IsBestTotal (f : Frame) (lists : ClassLists) (player : ℕ) (y : Plan) (total : ℤ) : Type 0 where
  pub values : Values
  pub move : ℕ → ℕ → ℕ
  pub best : IsBestValues f lists player y values move
  pub total_is : total ≡ start_sum f (spread f lists values)
