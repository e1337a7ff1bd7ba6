use Rattle.std.proofs.Common.{arith}
use Rattle.std.proofs.{Common.{sym, ap, ◌∙◌, subst}, lemmas.Result.{IfErr-weaker}}
use Rattle.gs_file.specs.Views.{valid_view}
use Rattle.gs_game.specs.declared.valid.ValidGame.{ValidGame}
use Rattle.gs_reply.specs.{Replies.{StopsFor}, Troubles.{SaysUnlike}}
use Rattle.gs_seq.specs.Games.{frame_in}
use Rattle.gs_strategy_commands.proofs.checks.lossless_of.Goals as goal

pub lossless_classes-requires : goal.lossless_classes-requires
lossless_classes-requires c = c.args.stored.now.parents ∙ ap (λ (v : ValidGame). (frame_in v).parents) (sym c.requires)

pub returns-clause-unlike : goal.returns-clause-unlike
returns-clause-unlike c =
    let lists = c.args.stored.now.classes.lists in
    IfErr-weaker c.lossless_classes.result _ _ (λ e h. subst (λ (w : ValidGame). StopsFor (SaysUnlike (valid_view w) lists) e) c.requires h)
    c.lossless_classes.ensures.unlike

pub returns-clause-lossless : goal.returns-clause-lossless
returns-clause-lossless c = grind arith
