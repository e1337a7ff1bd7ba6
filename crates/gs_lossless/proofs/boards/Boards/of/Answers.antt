use Rattle.std.proofs.Common.{◌≡◌, ◌∙◌, ap}
use Rattle.gs_model.specs.Game.{Game}
use Rattle.gs_game.specs.{declared.game.Game.{Game as Described}, declared.valid.ValidGame.{ValidGame}}
use Rattle.gs_tree.specs.Trees.{rules_of}
use Rattle.gs_lossless.proofs.Ranks.{once_is}
use Rattle.gs_lossless.proofs.boards.Boards.of.Goals as goal

pub boards_of-requires-clause-once : goal.boards_of-requires-clause-once
boards_of-requires-clause-once c = λ t.
    let g : Game = rules_of c.args.signals.now in
    let read : c.deref.result.now ≡ g.bonus = c.deref.ensures.value
    ∙ ap (λ (x : Described). x.bonus.items) (c.game-2.ensures ∙ ap (λ (x : ValidGame). x.game) c.game.ensures) in
    once_is g c.deref.result.now c.args.signals.now.strengths.items read (c.are_ones-by_rank.ensures t) c.args.signals.now.game.now.dealable.bonuses
    c.args.signals.now.sound.strong c.args.signals.now.sound.ranked
