use Rattle.std.proofs.Common.{◌≡◌, Ok, ap, inl, inr, refl, subst, sym, ◌∙◌}
use Rattle.gs_filter.specs.{Faults.{IsFaultOf}, Filter.{AreParents}}
use Rattle.gs_model.specs.{Classes.{ClassLists}, Rows.{rows}}
use Rattle.gs_lossless.proofs.Descent.{valid_parents}
use Rattle.gs_seq.specs.Games.{frame_in}
use Rattle.gs_strategy.proofs.{Refused.{same_classes}, reading.classes_from.Goals.{After-deref}}
use Rattle.gs_strategy.proofs.reading.classes_from.Goals as goal

-- the parents of the signals are those of the game
parents : (c : After-deref) → rows c.deref.result.now ≡ (frame_in c.args.game.now).parents
parents c = ap rows c.deref.ensures.value ∙ c.in_ok-parents.ensures

pub new-requires : goal.new-requires
new-requires c = subst AreParents (sym (parents (goal.at.new-requires c).After-deref)) (valid_parents c.args.game.now)

pub returns-in-Ok-clause-parents : goal.returns-in-Ok-clause-parents
returns-in-Ok-clause-parents c = c.in-Ok.ensures.parents ∙ parents (goal.at.returns-in-Ok-clause-parents c).After-deref

pub returns-in-Ok-clause-checked : goal.returns-in-Ok-clause-checked
returns-in-Ok-clause-checked c =
    let k = c.in-Ok.classes in
    let same = c.in-Ok.ensures.parents ∙ parents (goal.at.returns-in-Ok-clause-checked c).After-deref in
    inl (
      same_classes k.parents (frame_in c.args.game.now).parents k.lists (rows c.args.lists.items) same c.in-Ok.ensures.lists c.in-Ok.ensures.classes,
      ap (λ (l : ClassLists). Ok l) c.in-Ok.ensures.lists,
    )

pub returns-clause-checked : goal.returns-clause-checked
returns-clause-checked c =
    let lists = rows c.args.lists.items in
    let why = c.in-Err-Fault.fault in
    let broken = subst (λ p. IsFaultOf p lists why) (parents (goal.at.returns-clause-checked c).After-deref)
    (rw c.in-Err-Fault.field-0-is at c.in-Err-Fault.ensures.refused) in
    inr (why, broken, refl)
