use Rattle.std.proofs.Common.{ap}
use Rattle.gs_file.specs.Views.{betting_view, play_view}
use Rattle.gs_file.proofs.{Loop.{handed_on}, RoundSteps.{typed_stop_bet, typed_stop_cap, typed_stop_tree}}
use Rattle.gs_file.proofs.rounds.betting_of.Goals as goal

pub returns-in_err-text-in-Tree : goal.returns-in_err-text-in-Tree
returns-in_err-text-in-Tree c =
    handed_on play_view _ _ _ _ c.from_residual.ensures.1 c.in_err-text-in-Tree.ensures
    (typed_stop_tree c.args.round (ap betting_view c.in-Tree.is) c.within_round.ensures)

pub returns-in_err-bet-in-Limit : goal.returns-in_err-bet-in-Limit
returns-in_err-bet-in-Limit c =
    handed_on play_view _ _ _ _ c.from_residual-in_err-bet-in-Limit.ensures.1 c.in_err-bet-in-Limit.ensures
    (typed_stop_bet c.args.round (ap betting_view c.in-Limit.is) c.within_round-in-Limit.ensures)

pub returns-in_err-cap-in-Limit : goal.returns-in_err-cap-in-Limit
returns-in_err-cap-in-Limit c =
    handed_on play_view _ _ _ _ c.from_residual-in_err-cap-in-Limit.ensures.1 c.in_err-cap-in-Limit.ensures
    (typed_stop_cap c.args.round (ap betting_view c.in-Limit.is) c.within_round-in-Limit.ensures c.in_ok-bet-in-Limit.ensures
    c.within_round-in-Limit-2.ensures)
