use Rattle.std.proofs.Common.{◌≡◌, ◌∙◌, refl, arith, ap, sym}
use Rattle.gs_game.specs.declared.valid.ValidGame.{ValidGame}
use Rattle.gs_model.specs.{Frame.{point_count}, Plans.{IsClassPlan}}
use Rattle.gs_seq.specs.{Abstracts.{abstract_frame, lists_of}, Firsts.{AreFirstBefore}, Games.{frame_in}, Slots.{AreOffsets, plan_of, slot_count}}
use Rattle.gs_seq.proofs.{Firsts.{first_plan_is}, Forms.{carried}, Choices.{some_move}}
use Rattle.gs_seq.proofs.form.Abstract.first_plan.Goals as goal

pub returns-clause-plan : goal.returns-clause-plan
returns-clause-plan c =
    let p = c.args.player in
    let weights = c.in_ok-weights.weights.items in
    let plan = first_plan_is (frame_in c.game.result.now) c.classes.result.now.lists p weights (some_move c.game.result.now) c.in_ok-weights.ensures.firsts in
    record {
      player_is = refl;
      plan = record {
        long = omega (arith, c.in_ok-weights.ensures.long, c.sequences-count.ensures);
        plan = carried (λ f ls. IsClassPlan f ls p (plan_of f ls 1 weights)) (ap frame_in c.game.ensures) c.classes.ensures.lists plan;
      };
    }

pub returns-clause-first : goal.returns-clause-first
returns-clause-first c =
    let p = c.args.player in
    let weights = c.in_ok-weights.weights.items in
    let firsts = carried (λ f ls. AreFirstBefore f ls p weights (point_count f)) (ap frame_in c.game.ensures) c.classes.ensures.lists
    c.in_ok-weights.ensures.firsts in
    record {
      plan = (returns-clause-plan c).plan.plan;
      one = refl;
      first = λ q k m l own h lo hi. (firsts q k l own h).others m lo hi;
    }

pub first_weights-requires-clause-offsets : goal.first_weights-requires-clause-offsets
first_weights-requires-clause-offsets c =
    carried (λ f ls. AreOffsets f ls c.offsets.result.now) (sym (ap frame_in c.game.ensures)) (sym c.classes.ensures.lists) c.offsets.ensures

pub first_weights-requires-clause-count : goal.first_weights-requires-clause-count
first_weights-requires-clause-count c =
    let a = c.args.self.now in
    let p = c.args.player in
    let same : slot_count (frame_in c.game.result.now) c.classes.result.now.lists p ≡ slot_count (abstract_frame a) (lists_of a) p =
    carried (λ f ls. slot_count f ls p ≡ slot_count (abstract_frame a) (lists_of a) p) (sym (ap frame_in c.game.ensures)) (sym c.classes.ensures.lists) refl in
    omega (arith, same, c.sequences-count.ensures)

pub first_weights-requires-clause-parents : goal.first_weights-requires-clause-parents
first_weights-requires-clause-parents c = c.classes.ensures.parents ∙ ap (λ (g : ValidGame). (frame_in g).parents) (sym c.game.ensures)
