-- What a claim says of each member of a class, and of all its members together. For private functions.
use Rattle.std.specs.Prelude.{ℕ, ◌+◌, ◌-◌, ◌<◌, ◌≤◌, ◌≡◌, List, length, get_or, pos, ◌*ℤ◌}
use Rattle.gs_game.specs.Seen.{target_of}
use Rattle.gs_model.specs.{BestAnswers.{Values}, Classes.{ClassLists, class_size}, Frame.{Frame, leads_to, move_count, round_of}, FrameFacts.{IsInside}}
use Rattle.gs_model.specs.Positions.{Target, at_end, at_point}
use Rattle.gs_seq.specs.{Payoffs.{end_sum}, Plans.{lifted}}
use Rattle.gs_best.specs.{Sides.{frame_at, lists_at, plan_at}, Tables.{start_of, table_of}}
use Rattle.gs_certificate.specs.{declared.claim.Claim.{Claim}, declared.way.Way.{Way}}

-- what each member of a class gains: at a point the number, at an end what the end is worth
abbrev pub claimed : Claim → Values
claimed c = table_of (frame_at c.side) (lists_at c.side) c.side.player (lifted (frame_at c.side) (lists_at c.side) c.side.other.now) c.numbers.now

-- what all members of a class gain together: at a point the number times the size of the class, at an end what the end pays
abbrev pub claimed_totals : Claim → Values
claimed_totals c (at_point q) e = pos (class_size (lists_at c.side) (round_of (frame_at c.side) (at_point q)) e)
    *ℤ get_or c.numbers.now (start_of (frame_at c.side) (lists_at c.side) q + (e - 1)) (pos 0)
claimed_totals c (at_end z) e = end_sum (frame_at c.side) (lists_at c.side) c.side.player (plan_at c.side) z e

-- the place of a point's first number, and 0 for an end
abbrev pub first_place_of : Frame → ClassLists → Target → ℕ
first_place_of f lists (at_point q) = start_of f lists q
first_place_of f lists (at_end z) = 0

-- a point or an end of the game, its round and its place
pub record IsWay (f : Frame) (lists : ClassLists) (w : Way) : Type 0 where
  pub inside : IsInside f (target_of w.to)
  pub round_is : w.round ≡ round_of f (target_of w.to)
  pub place_is : w.place ≡ first_place_of f lists (target_of w.to)

-- where each move of a point leads
pub record AreWays (f : Frame) (lists : ClassLists) (q : ℕ) (ways : List Way) : Type 0 where
  pub long : move_count f q ≤ length ways
  pub each : (m : ℕ) (d : Way) → m < move_count f q → IsWay f lists (get_or ways m d)
  pub leads : (m : ℕ) (d : Way) → m < move_count f q → target_of (get_or ways m d).to ≡ leads_to f q m
