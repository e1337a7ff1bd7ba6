use Rattle.std.proofs.lemmas.Grind.{common_steps}
use Rattle.std.proofs.Common.{◌<◌, ap, sym, ◌∙◌, subst, arith}
use Rattle.gs_game.specs.declared.valid.ValidGame.{ValidGame}
use Rattle.gs_model.specs.Frame.{end_count}
use Rattle.gs_seq.specs.{Games.{frame_in}, Plans.{IsPlanOf}, Slots.{AreOffsets}}
use Rattle.gs_seq.proofs.Forms.{carried}
use Rattle.gs_seq.proofs.form.Abstract.plan_at.Goals as goal

pub invariant_of-result : goal.invariant_of-result
invariant_of-result c =
    let p = c.args.plan.now in
    let same = sym (ap frame_in c.game-game.ensures) in
    let lists = sym c.classes-classes.ensures.lists in
    record {
      parents = c.classes-classes.ensures.parents ∙ ap (λ (g : ValidGame). (frame_in g).parents) (sym c.game-game.ensures);
      some = c.requires.some;
      two = c.requires.two;
      plan_is = carried (λ f ls. IsPlanOf f ls p.player p) same lists c.requires.plan;
      within = subst (λ f. c.args.end < end_count f) same c.requires.end;
    }

pub returns-clause-form : goal.returns-clause-form
returns-clause-form c = record {
  game_is = c.game-game.ensures;
  lists_are = c.classes-classes.ensures.lists;
  made = c.end_source-source.ensures c.classes-classes.result.now.lists
      (carried (λ f ls. AreOffsets f ls c.offsets.result.now) (sym (ap frame_in c.game-game.ensures)) (sym c.classes-classes.ensures.lists) c.offsets.ensures);
}

pub end_source-source-requires : goal.end_source-source-requires
end_source-source-requires c = grind (arith, common_steps)
