-- Plans that are alike.
use Rattle.std.specs.Prelude.{ℕ, ◌<◌, ◌≡◌}
use Rattle.gs_model.specs.{Classes.{ClassLists, IsClass}, Frame.{Frame, move_count, player_at, point_count, round_of}, Plans.{Plan}, Positions.{at_point}}

-- two plans have the same total, and the same numbers wherever the player chooses
pub record ArePlansAlike (f : Frame) (lists : ClassLists) (player : ℕ) (x y : Plan) : Type 0 where
  pub total : x.total ≡ y.total
  pub numbers : (q c m : ℕ) → q < point_count f → player_at f q ≡ player → IsClass lists (round_of f (at_point q)) c → m < move_count f q
      → x.number q c m ≡ y.number q c m
