use Rattle.std.proofs.lemmas.List.Elements.{All-append, All-from_recursion}
use Rattle.std.proofs.{Common.{arith, [], ◌∷◌, sym, subst}, lemmas.Grind.{common_steps}}
use Rattle.std.specs.Prelude.{All}
use Rattle.gs_game.specs.declared.game.Round.{Round}
use Rattle.gs_game.specs.Games.{HasFewCards}
use Rattle.gs_game.proofs.stopped.push_round.Goals as goal

pub returns-clause-sizes : goal.returns-clause-sizes
returns-clause-sizes c = grind (arith, common_steps)

pub returns-clause-rounds : goal.returns-clause-rounds
returns-clause-rounds c = grind (arith, common_steps)

pub returns-clause-few : goal.returns-clause-few
returns-clause-few c =
    let one : Round = record { private = c.args.private; public = c.args.public; tree = c.in_ok-tree.tree } in
    let few : All HasFewCards (one ∷ []) =
    All-from_recursion HasFewCards (one ∷ []) (record { private = c.requires.private; public = c.requires.public }, tt) in
    subst (All HasFewCards) (sym c.in_ok-push.ensures.items) (All-append HasFewCards c.args.rounds.now.items (one ∷ []) c.requires.few few)
