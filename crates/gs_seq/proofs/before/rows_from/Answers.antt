use Rattle.std.proofs.Common.{Option, sym, subst, arith}
use Rattle.std.specs.Prelude.{IfSome}
use Rattle.gs_game.specs.{Games.{game_of}, GoingOn.{StopsAfter}, declared.valid.ValidGame.{ValidGame}}
use Rattle.gs_tree.specs.Trees.{rules_of}
use Rattle.gs_seq.proofs.before.rows_from.Goals as goal

pub invariant_of-stopped : goal.invariant_of-stopped
invariant_of-stopped c = record { sound = c.in_ok-stopped.stopped.sound }

-- the game that is looked at stops after the round
pub rows_over-requires-clause-stops : goal.rows_over-requires-clause-stops
rows_over-requires-clause-stops c =
    let made = subst (λ (o : Option ValidGame). IfSome o (λ (v : ValidGame). StopsAfter (game_of c.game.result.now.game) c.args.round (game_of v.game)))
    c.in-Some.is c.in_ok-game.ensures.stops in
    subst (λ (v : ValidGame). StopsAfter (game_of v.game) c.args.round (rules_of c.in_ok-stopped.stopped)) c.game.ensures
    (subst (λ (v : ValidGame). StopsAfter (game_of c.game.result.now.game) c.args.round (game_of v.game)) (sym c.in_ok-stopped.ensures) made)

pub rows_over-requires-clause-before_last : goal.rows_over-requires-clause-before_last
rows_over-requires-clause-before_last c = omega arith

pub returns : goal.returns
returns c = c.rows_over.ensures

pub stopped-requires : goal.stopped-requires
stopped-requires c = grind arith
