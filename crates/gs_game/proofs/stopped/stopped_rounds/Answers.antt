use Rattle.std.proofs.{lemmas.Grind.{common_steps}, Common.{arith, ◌++◌, ◌∷◌, [], List, map, take_all, ap, ◌∙◌}}
use Rattle.gs_model.specs.Game.{Round}
use Rattle.gs_game.specs.{Games.{round_rules}, GoingOn.{unbet}}
use Rattle.gs_game.proofs.stopped.stopped_rounds.Goals as goal

pub loop-round-preserved : goal.loop-round-preserved
loop-round-preserved c = grind (arith, common_steps)

pub returns-clause-sizes : goal.returns-clause-sizes
returns-clause-sizes c = grind (arith, common_steps)

pub push_round-requires-clause-public : goal.push_round-requires-clause-public
push_round-requires-clause-public c = grind arith

pub push_round-requires-clause-private : goal.push_round-requires-clause-private
push_round-requires-clause-private c = grind arith

pub push_round-requires-clause-few : goal.push_round-requires-clause-few
push_round-requires-clause-few c = grind arith

pub loop-round-init : goal.loop-round-init
loop-round-init c = grind arith

pub returns-clause-few : goal.returns-clause-few
returns-clause-few c = grind arith

pub returns-clause-rounds : goal.returns-clause-rounds
returns-clause-rounds c =
    let all = take_all c.loop-round.round-index c.args.rounds.now c.loop-round-test.false in
    let plain = λ (rs : List Round). map (λ (r : Round). unbet r.private r.public) rs in
    c.in_ok-push_round-2.ensures.rounds
    ∙ ap (λ (x : List Round). x ++ unbet 0 0 ∷ []) (c.loop-round.invariant.rounds ∙ ap (λ rs. plain (map round_rules rs)) all)
