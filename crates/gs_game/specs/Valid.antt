-- What a valid game holds.
use Rattle.std.specs.Prelude.{◌≡◌, List, map}
use Rattle.gs_model.specs.{Frame.{trees_of}, Game.{Game}, Walk.{walk, walk_start, root, Walked}}
use Rattle.gs_game.specs.{Seen.{target_of, own_point, point_of, end_of}, declared.positions.Point.{Point}, declared.positions.End.{End}}
use Rattle.gs_game.specs.declared.positions.Target.{Target as StoredTarget}

-- the walk of a game's betting trees
abbrev pub walk_of : Game → Walked
walk_of g = walk g.ante (trees_of g)

-- points, ends and start are those of the walk of the game
pub record IsWalkOf (g : Game) (points : List Point) (ends : List End) (start : StoredTarget) : Type 0 where
  pub points_are : map point_of points ≡ map own_point (walk_of g).points
  pub ends_are : map end_of ends ≡ (walk_of g).ends
  pub start_is : target_of start ≡ root (walk_start g.ante) (walk_of g).points
