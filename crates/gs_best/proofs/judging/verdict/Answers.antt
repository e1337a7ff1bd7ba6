use Rattle.std.proofs.lemmas.Grind.{common_steps}
use Rattle.std.proofs.{Common.{◌≡◌, ◌*◌, ◌^◌, ◌≤◌, sym, ap, ◌∙◌, subst, arith, to_z, of_z}, lemmas.Int.{to_z-of_z}}
use Rattle.std.specs.Prelude.{ℤ, pos, ◌+ℤ◌, ◌-ℤ◌, ◌*ℤ◌, unsigned_abs}
use mir.Syntax.{w128}
use Rattle.gs_game.specs.Games.{game_of}
use Rattle.gs_model.specs.{BestAnswers.{spread, start_sum}, Frame.{total_weight}, Payoff.{raw_payoff}, Plans.{lift}}
use Rattle.gs_model.proofs.{Exchanged.{exchanged_one}, FirstBest.{verdict_from}}
use Rattle.gs_seq.specs.{Abstracts.{abstract_frame, lists_of, game_in}, Plans.{class_plan}}
use Rattle.gs_seq.proofs.Forms.{form_classes, form_in_range, form_lossless, form_walked}
use Rattle.gs_best.specs.{Judged.{parts}, Sizes.{IsRoomy}}
use Rattle.gs_best.proofs.{Rooms.{has_room, holds_all, roomy}, Totals.{paid_small}, judging.verdict.Goals.{After-plans_pay-paid}}
use Rattle.gs_best.proofs.judging.verdict.Goals as goal

paid_is : (c : After-plans_pay-paid) → let f = abstract_frame c.args.form.now in let lists = lists_of c.args.form.now in
    to_z w128 (of_z w128 c.plans_pay-paid.result) ≡ raw_payoff f (lift f lists (class_plan f lists c.args.one.now))
    (lift f lists (class_plan f lists c.args.two.now))
paid_is c = to_z-of_z w128 c.plans_pay-paid.result (record { sfits = c.plans_pay-paid.type_inv }) ∙ c.plans_pay-paid.ensures.paid

pub lay_out-requires : goal.lay_out-requires
lay_out-requires c =
    let a = c.args.form.now in
    holds_all (abstract_frame a) (lists_of a) (form_walked a 1 (omega arith) (omega arith)) c.work.inside.table c.work.inside.scratch
    (subst (λ l. IsRoomy l c.work.inside.table c.work.inside.scratch) (c.work.view_is ∙ c.requires.room) c.work.invariant)

pub judged-requires-clause-paid : goal.judged-requires-clause-paid
judged-requires-clause-paid c =
    let a = c.args.form.now in
    let paid = paid_is (goal.at.judged-requires-clause-paid c).After-plans_pay-paid in
    let small =
    paid_small (abstract_frame a) (form_in_range a) (lists_of a) (form_classes a) (form_lossless a) (form_walked a 1 (omega arith) (omega arith))
    (form_walked a 2 (omega arith) (omega arith)) (exchanged_one (game_of (game_in a).game))
    (class_plan (abstract_frame a) (lists_of a) c.args.one.now) (class_plan (abstract_frame a) (lists_of a) c.args.two.now) c.requires.one.plan.plan
    c.requires.two.plan.plan c.best_total.result c.best_total-2.result c.best_total.ensures.total c.best_total-2.ensures.total
    c.best_total.ensures.small c.best_total-2.ensures.small in
    omega (arith, ap unsigned_abs paid, small)

pub invariant_of-work : goal.invariant_of-work
invariant_of-work c =
    let a = c.args.form.now in
    let f = abstract_frame a in
    let lists = lists_of a in
    let w1 = form_walked a 1 (omega arith) (omega arith) in
    let t = c.best_total-2.new.table in
    let s = c.plans_pay-paid.new.scratch in
    subst (λ l. IsRoomy l t s) (sym (c.work.view_is ∙ c.requires.room)) (roomy f lists w1 t s c.best_total-2.ensures.laid.holds c.plans_pay-paid.ensures.room)

pub plans_pay-paid-requires : goal.plans_pay-paid-requires
plans_pay-paid-requires c = grind (arith, common_steps)

pub best_total-requires-2 : goal.best_total-requires-2
best_total-requires-2 c = grind (arith, common_steps)

pub invariant_of-second : goal.invariant_of-second
invariant_of-second c = record { some = omega arith; two = omega arith; plan = c.requires.one }

pub judged-requires-clause-first : goal.judged-requires-clause-first
judged-requires-clause-first c = subst (λ z. unsigned_abs z ≤ 2 ^ 74) (sym (to_z-of_z w128 c.best_total.result (record { sfits = c.best_total.type_inv }))) c.best_total.ensures.small

pub judged-requires-clause-second : goal.judged-requires-clause-second
judged-requires-clause-second c = subst (λ z. unsigned_abs z ≤ 2 ^ 74) (sym (to_z-of_z w128 c.best_total-2.result (record { sfits = c.best_total-2.type_inv }))) c.best_total-2.ensures.small

pub best_total-requires : goal.best_total-requires
best_total-requires c = record {
  laid = c.lay_out.ensures;
  rows = has_room (abstract_frame c.args.form.now) (lists_of c.args.form.now) c.work.inside.table c.work.inside.scratch
      (subst (λ l. IsRoomy l c.work.inside.table c.work.inside.scratch) (c.work.view_is ∙ c.requires.room) c.work.invariant);
}

pub invariant_of-first : goal.invariant_of-first
invariant_of-first c = record { some = omega arith; two = omega arith; plan = c.requires.two }

pub returns : goal.returns
returns c = record {
  room = c.work.view_is;
  verdict = let a = c.args.form.now in
      let f = abstract_frame a in
      let lists = lists_of a in
      let w1 = form_walked a 1 (omega arith) (omega arith) in
      let w2 = form_walked a 2 (omega arith) (omega arith) in
      let ranged = form_in_range a in
      let classes = form_classes a in
      let lossless = form_lossless a in
      let ex = exchanged_one (game_of (game_in a).game) in
      let x = class_plan f lists c.args.one.now in
      let y = class_plan f lists c.args.two.now in
      let b1 = c.best_total.result in
      let b2 = c.best_total-2.result in
      let h1 = c.best_total.ensures.total in
      let h2 = c.best_total-2.ensures.total in
      let paid = paid_is (goal.at.returns c).After-plans_pay-paid in
      let value = parts c.judged.result.value in
      let gap1 = parts c.judged.result.gap1 in
      let gap2 = parts c.judged.result.gap2 in
      let j = c.judged.ensures in
      let p = raw_payoff f (lift f lists x) (lift f lists y) in
      let s1 = start_sum f (spread f lists h1.values) in
      let s2 = start_sum f (spread f lists h2.values) in
      let one = to_z-of_z w128 b1 (record { sfits = c.best_total.type_inv }) ∙ h1.total_is in
      let two = to_z-of_z w128 b2 (record { sfits = c.best_total-2.type_inv }) ∙ h2.total_is in
      let weight = c.deal_weight.ensures.value in
      let scale : (n : ℤ) → n *ℤ pos (total_weight f * x.total * y.total) ≡ n *ℤ pos (c.deal_weight.result * x.total * y.total) =
      λ n. ap (λ w. n *ℤ pos (w * x.total * y.total)) (sym weight) in
      verdict_from f lists x y h1.values h2.values h1.move h2.move value gap1 gap2 ranged w1 w2 ex classes lossless h1.best h2.best
      (j.value.positive, j.first.positive, j.second.positive)
      (scale value.0 ∙ j.value.value ∙ ap (λ z. pos value.1 *ℤ z) paid)
      (scale gap1.0 ∙ j.first.value ∙ ap (λ z. pos gap1.1 *ℤ (pos x.total *ℤ z -ℤ to_z w128 (of_z w128 c.plans_pay-paid.result))) one
      ∙ ap (λ z. pos gap1.1 *ℤ (pos x.total *ℤ s1 -ℤ z)) paid)
      (scale gap2.0 ∙ j.second.value ∙ ap (λ z. pos gap2.1 *ℤ (pos y.total *ℤ z +ℤ to_z w128 (of_z w128 c.plans_pay-paid.result))) two
      ∙ ap (λ z. pos gap2.1 *ℤ (pos y.total *ℤ s2 +ℤ z)) paid);
}

pub judged-requires-clause-weight : goal.judged-requires-clause-weight
judged-requires-clause-weight c = grind arith
