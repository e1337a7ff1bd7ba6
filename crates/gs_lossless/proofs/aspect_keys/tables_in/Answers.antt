use Rattle.std.proofs.Common.{◌≡◌, ◌∙◌, ap, arith}
use Rattle.std.proofs.lemmas.Grind.{common_steps}
use Rattle.gs_model.specs.Game.{Game}
use Rattle.gs_game.specs.{declared.game.Game.{Game as Described}, declared.valid.ValidGame.{ValidGame}}
use Rattle.gs_tree.specs.Trees.{rules_of}
use Rattle.gs_lossless.proofs.Ranks.{once_is}
use Rattle.gs_lossless.proofs.aspect_keys.tables_in.Goals as goal

pub tables_of-requires-clause-once : goal.tables_of-requires-clause-once
tables_of-requires-clause-once c =
    let g : Game = rules_of c.args.signals.now in
    let read : c.deref.result.now ≡ g.bonus = c.deref.ensures.value
    ∙ ap (λ (x : Described). x.bonus.items) (c.game-then-is_plain.ensures ∙ ap (λ (x : ValidGame). x.game) c.game.ensures) in
    once_is g c.deref.result.now c.args.signals.now.strengths.items read (c.are_ones.ensures c.if-are_ones.true)
    c.args.signals.now.game.now.dealable.bonuses c.args.signals.now.sound.strong c.args.signals.now.sound.ranked

pub tables_of-requires-clause-keys : goal.tables_of-requires-clause-keys
tables_of-requires-clause-keys c = grind (arith, common_steps)

pub returns-then-are_ones-clause-last : goal.returns-then-are_ones-clause-last
returns-then-are_ones-clause-last c = grind (arith, common_steps)
