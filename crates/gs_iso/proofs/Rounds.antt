-- The rounds that follow a round.
use Rattle.std.proofs.Common.{◌≡◌, [], ap}
use Rattle.gs_model.specs.{Game.{Game, round_count}, Isomorphism.{Isomorphic, IsomorphicFor}, Signals.{Signal}}
use Rattle.gs_model.proofs.Basics.{drop-all}

-- in the last round isomorphism is that of leaves
pub isomorphic_last : (g : Game) (s t : Signal) → Isomorphic g (round_count g) s t ≡ IsomorphicFor g [] s t
isomorphic_last g s t = ap (λ rs. IsomorphicFor g rs s t) (drop-all g.rounds)
