-- Turns of play with any best answers: which of several best answers is taken is left open.
use Rattle.std.specs.Prelude.{ℕ, zero, suc, ◌<◌, ◌≡◌, pos, ◌*ℤ◌, ◌≤ℤ◌}
use Rattle.gs_model.specs.{BestAnswers.{PutsAllOn}, Classes.{ClassLists, IsClass}, Frame.{Frame, point_count, player_at, move_count, round_of}}
use Rattle.gs_model.specs.{Payoff.{gain}, Plans.{Plan, IsClassPlan, IsRawPlan, lift}, Play.{IsPlanSum}, Positions.{at_point}}

-- x is a best answer to the other's raw plan y: a plan over classes of total 1 that puts all on one move at each own point and class. No raw plan gains more,
-- each for its own total
pub record IsBestAnswer (f : Frame) (lists : ClassLists) (player : ℕ) (y x : Plan) : Type 0 where
  pub move : ℕ → ℕ → ℕ
  pub one : x.total ≡ 1
  pub in_range : (q c : ℕ) → q < point_count f → player_at f q ≡ player → IsClass lists (round_of f (at_point q)) c → move q c < move_count f q
  pub puts : PutsAllOn f lists player (lift f lists x) move
  pub none_more : (z : Plan) → IsRawPlan f player z → gain f player z y ≤ℤ (pos z.total *ℤ gain f player (lift f lists x) y)

-- x and y are both players' plans after n turns. They start with any plans of total 1; each turn adds to each plan a best answer to the other's plan before
-- the turn
abbrev pub AreBestTurns : Frame → ClassLists → ℕ → Plan → Plan → Type 0
AreBestTurns f lists zero x y = IsClassPlan f lists 1 x × IsClassPlan f lists 2 y × (x.total ≡ 1) × (y.total ≡ 1)
AreBestTurns f lists (suc n) x y =
    (x' y' bx by : Plan) × AreBestTurns f lists n x' y' × IsBestAnswer f lists 1 (lift f lists y') bx × IsBestAnswer f lists 2 (lift f lists x') by
    × IsPlanSum f lists 1 x' bx x × IsPlanSum f lists 2 y' by y
