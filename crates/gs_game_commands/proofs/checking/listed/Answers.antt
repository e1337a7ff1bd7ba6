use Rattle.gs_file.specs.Views.{valid_view}
use Rattle.gs_reply.proofs.Refused.{exits, stops_more}
use Rattle.gs_tree.specs.Trees.{rules_of}
use Rattle.gs_game_commands.specs.Checking.{ChecksGame, SaysNotLossless}
use Rattle.gs_game_commands.proofs.Checked.{check_refuses, lists_of}
use Rattle.gs_game_commands.proofs.checking.listed.Goals as goal

pub returns-in_err-lossless_of : goal.returns-in_err-lossless_of
returns-in_err-lossless_of c =
    let g = valid_view c.args.signals.now.game.now in
    let says = ChecksGame c.args.grouping c.args.summary g in
    exits says _ _ c.from_residual.ensures.1
    (stops_more (SaysNotLossless c.args.grouping g) says (check_refuses c.args.grouping c.args.summary g) _ c.in_err-lossless_of.ensures.unlike)

pub told-requires : goal.told-requires
told-requires c = lists_of (rules_of c.args.signals.now) c.args.classes.now.parents c.args.classes.now.lists c.requires.parents c.args.classes.now.classes

pub returns : goal.returns
returns c = record {
  classes = c.args.classes.now.lists;
  are = c.requires.grouping;
  lossless = c.in_ok-lossless_of.ensures.lossless;
  printed = c.in_ok-told.ensures;
}
