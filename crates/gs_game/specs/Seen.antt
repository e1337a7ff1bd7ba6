-- Steps, points and ends of the program, as the definitions see them.
use Rattle.std.specs.Prelude.{ℕ, List, map, Option, option_map, ◌==◌, if◌then◌else◌}
use Rattle.gs_model.specs.Positions.{Step, Target, at_point, at_end, Arrow, Point, EndKind, End}
use Rattle.gs_model.specs.Positions as model
use Rattle.gs_game.specs.{declared.positions.Step.{Step as StoredStep}, declared.positions.Target.{Target as StoredTarget}}
use Rattle.gs_game.specs.{declared.positions.Arrow.{Arrow as StoredArrow}, declared.positions.Point.{Point as StoredPoint}}
use Rattle.gs_game.specs.{declared.positions.EndKind.{EndKind as StoredKind}, declared.positions.End.{End as StoredEnd}}
use Rattle.gs_game.specs.declared.positions.Target.TheVariants as targets
use Rattle.gs_game.specs.declared.positions.EndKind.TheVariants as kinds

-- a step of the program, as the definitions see it
abbrev pub step_of : StoredStep → Step
step_of s = record { point = s.point; choice = s.choice }

-- where a move of the program leads, as the definitions see it
abbrev pub target_of : StoredTarget → Target
target_of (targets.Point q) = at_point q
target_of (targets.End z) = at_end z

-- a move of the program, as the definitions see it
abbrev pub arrow_of : StoredArrow → Arrow
arrow_of a = record { letter = a.letter; to = target_of a.to }

-- a point with the last step of its own player alone
pub record OwnPoint : Type 0 where
  pub player : ℕ
  pub round : ℕ
  pub own : Option Step
  pub moves : List Arrow

-- a point of the walk, with the last step of its own player alone
abbrev pub own_point : Point → OwnPoint
own_point p = record { player = p.player; round = p.round; own = if p.player == 1 then p.one else p.two; moves = p.moves }

-- a point of the program, as the definitions see it
abbrev pub point_of : StoredPoint → OwnPoint
point_of p = record { player = p.player; round = p.round; own = option_map step_of p.own; moves = map arrow_of p.moves.items }

-- how play ended in the program, as the definitions see it
abbrev pub end_kind_of : StoredKind → EndKind
end_kind_of kinds.Folded1 = model.Folded1
end_kind_of kinds.Folded2 = model.Folded2
end_kind_of kinds.Show = model.Show

-- an end of the program, as the definitions see it
abbrev pub end_of : StoredEnd → End
end_of z = record { round = z.round; kind = end_kind_of z.kind; put = z.put; one = option_map step_of z.one; two = option_map step_of z.two }
