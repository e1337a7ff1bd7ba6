use Rattle.gs_game.specs.Games.{game_of}
use Rattle.gs_model.specs.{Game.{round_count}}
use Rattle.gs_tree.proofs.Readers.{rows_all}
use Rattle.gs_tree.proofs.signals.parents_of.Goals as goal

pub returns : goal.returns
returns c =
    let tables = c.in_ok-of.field-0 in
    let rules = game_of c.args.game.now.game in
    rows_all rules tables.parents.items tables.layers.items (round_count rules) c.in_ok-of.ensures.tables c.in_ok-of.ensures.all
