-- A walk under way: what the program has so far against the walk of the definitions.
use Rattle.std.specs.Prelude.{ℕ, ◌+◌, ◌^◌, ◌≡◌, ◌≤◌, ◌<◌, true, List, ◌++◌, map, length, option_map}
use Rattle.gs_model.specs.{Betting.{Bet}, Walk.{Place, Walked, root}}
use Rattle.gs_bet.specs.Grammar.{is_sound}
use Rattle.gs_game.specs.{Counts.{points_of, ends_of, points_in, ends_in}, Money.{most_put, most_in}}
use Rattle.gs_game.specs.{Seen.{step_of, target_of, own_point, point_of, end_of}, declared.place.Place.{Place as StoredPlace}}
use Rattle.gs_game.specs.{declared.positions.Point.{Point as StoredPoint}, declared.positions.End.{End as StoredEnd}}
use Rattle.gs_game.specs.declared.positions.Target.{Target as StoredTarget}

-- a place of the program, as the definitions see it; `points` and `ends` say how many are numbered so far
abbrev pub place_of : StoredPlace → ℕ → ℕ → Place
place_of p points ends =
    record {
      point = points;
      end = ends;
      round = p.round;
      put_one = p.put_one;
      put_two = p.put_two;
      one = option_map step_of p.one;
      two = option_map step_of p.two;
      last = p.last;
    }

-- the points and ends so far have grown by what a walk from the place `start` gives, and `to` is its root
pub record Grows (points new_points : List StoredPoint) (ends new_ends : List StoredEnd) (to : StoredTarget) (start : Place) (w : Walked) : Type 0 where
  pub points_are : map point_of new_points ≡ map point_of points ++ map own_point w.points
  pub ends_are : map end_of new_ends ≡ map end_of ends ++ w.ends
  pub root_is : target_of to ≡ root start w.points

-- the numbers stay small in a walk of a tree, and then of some rounds
pub record IsWalkable (rest : List Bet) (t : Bet) (p : Place) : Type 0 where
  pub left : ℕ
  pub sound : is_sound left t ≡ true
  pub rounds : p.round + length rest ≤ 4
  pub put : most_put (most_in rest) p.put_one p.put_two t ≤ 4096
  pub points : p.point + points_of (points_in rest) t < 2 ^ 32
  pub ends : p.end + ends_of (ends_in rest) t < 2 ^ 32

-- the numbers stay small in a walk of the rounds that are left
pub record RoundsWalkable (rounds : List Bet) (p : Place) : Type 0 where
  pub round : p.round + length rounds ≤ 4
  pub put : most_in rounds p.put_one p.put_two ≤ 4096
  pub points : p.point + points_in rounds < 2 ^ 32
  pub ends : p.end + ends_in rounds < 2 ^ 32
