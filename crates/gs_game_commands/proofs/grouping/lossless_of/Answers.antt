use Rattle.std.proofs.Common.{arith}
use Rattle.std.proofs.lemmas.Result.{IfErr-weaker}
use Rattle.gs_file.specs.Views.{valid_view}
use Rattle.gs_reply.proofs.Refused.{stops_more}
use Rattle.gs_reply.specs.Troubles.{SaysUnlike}
use Rattle.gs_tree.specs.Trees.{rules_of}
use Rattle.gs_game_commands.specs.Checking.{SaysNotLossless}
use Rattle.gs_game_commands.proofs.Checked.{always_lossless, unlike_so}
use Rattle.gs_game_commands.proofs.grouping.lossless_of.Goals as goal

pub returns-in-Isomorphism-clause-unlike : goal.returns-in-Isomorphism-clause-unlike
returns-in-Isomorphism-clause-unlike c =
    let v = valid_view c.args.signals.now.game.now in
    let lists = c.args.classes.now.lists in
    IfErr-weaker c.lossless_classes.result _ _ (λ e h. stops_more (SaysUnlike v lists) (SaysNotLossless c.args.grouping v)
    (unlike_so c.args.grouping v lists c.requires.grouping) e h) c.lossless_classes.ensures.unlike

pub known-requires-clause-lossless : goal.known-requires-clause-lossless
known-requires-clause-lossless c = always_lossless c.args.grouping (rules_of c.args.signals.now) c.args.classes.now.lists c.in-Coarsest.is c.requires.grouping

pub returns-in-Coarsest : goal.returns-in-Coarsest
returns-in-Coarsest c = grind arith
