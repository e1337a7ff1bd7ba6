use Rattle.std.proofs.lemmas.Grind.{common_steps}
use Rattle.std.proofs.Common.{◌≤◌, ◌∙◌, length, sym, ap, arith}
use Rattle.gs_game.specs.declared.valid.ValidGame.{ValidGame}
use Rattle.gs_model.specs.{Classes.{IsClass}, Frame.{player_at, round_of}, Positions.{at_point}}
use Rattle.gs_seq.specs.{Firsts.{IsComing}, Games.{frame_in}, Slots.{AreOffsets, slots_before}}
use Rattle.gs_seq.proofs.Forms.{carried}
use Rattle.gs_seq.proofs.form.Abstract.coming.Goals as goal

pub coming-requires-clause-source : goal.coming-requires-clause-source
coming-requires-clause-source c =
    c.point_source-source.ensures c.classes.result.now.lists
    (carried (λ f ls. AreOffsets f ls c.offsets.result.now) (sym (ap frame_in c.game-game.ensures)) (sym c.classes.ensures.lists) c.offsets.ensures)

pub coming-requires-clause-long : goal.coming-requires-clause-long
coming-requires-clause-long c =
    carried (λ f ls. slots_before f ls (player_at f c.args.point) c.args.point ≤ length c.args.weights.now) (sym (ap frame_in c.game-game.ensures))
    (sym c.classes.ensures.lists) c.requires.long

pub returns : goal.returns
returns c = carried (λ f ls. IsComing f ls c.args.total c.args.weights.now c.args.point c.args.class c.coming.result)
    (ap frame_in c.game-game.ensures) c.classes.ensures.lists c.coming.ensures

pub point_source-source-requires : goal.point_source-source-requires
point_source-source-requires c = grind (arith, common_steps)

pub coming-requires-clause-in_range : goal.coming-requires-clause-in_range
coming-requires-clause-in_range c = grind arith

pub coming-requires-clause-class : goal.coming-requires-clause-class
coming-requires-clause-class c =
    carried (λ f ls. IsClass ls (round_of f (at_point c.args.point)) c.args.class) (sym (ap frame_in c.game-game.ensures)) (sym c.classes.ensures.lists)
    c.requires.class

pub coming-requires-clause-parents : goal.coming-requires-clause-parents
coming-requires-clause-parents c = c.classes.ensures.parents ∙ ap (λ (g : ValidGame). (frame_in g).parents) (sym c.game-game.ensures)
