-- A valid game has deals: all of them together weigh something.
use Rattle.std.proofs.Common.{◌≡◌, ◌-◌, ◌<◌, sum, ap, arith}
use Rattle.gs_game.specs.{Games.{game_of}, Sequences.{deal_sizes, draws}, declared.valid.ValidGame.{ValidGame}}
use Rattle.gs_game.proofs.{Sequencing.{weight_drawn}, SomeWays.{some_ways}}
use Rattle.gs_model.specs.Frame.{total_weight}
use Rattle.gs_seq.specs.Games.{frame_in}

-- the deals are the ways to go on before the first round
pub some_deal : (g : ValidGame) → 0 < total_weight (frame_in g)
some_deal g =
    let r = game_of g.game in
    let all : sum r.copies - 0 - 0 ≡ sum r.copies = omega arith in
    omega (arith, weight_drawn r, ap (λ n. draws n (deal_sizes r.rounds)) all, some_ways r 0 g.accepted)
