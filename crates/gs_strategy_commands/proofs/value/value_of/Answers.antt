use Rattle.std.proofs.{Common.{◌≡◌, ◌*◌, ◌<◌, ◌^◌, refl, sym, ap, ◌∙◌, arith}, lemmas.Int.{to_z-of_z, to_z_pos}}
use Rattle.std.specs.Prelude.{pos, ◌*ℤ◌, unsigned_abs}
use mir.Syntax.{w128}
use Rattle.gs_model.specs.Frame.{end_count, total_weight}
use Rattle.gs_seq.specs.{Abstracts.{abstract_frame, lists_of, game_in}, Plans.{class_plan}}
use Rattle.gs_seq.proofs.{EndTotals.{ends_few, payoff_is}, Forms.{given, form_classes}}
use Rattle.gs_best.specs.Judged.{parts}
use Rattle.gs_strategy_commands.proofs.value.value_of.Goals as goal

pub fraction-requires-clause-fits : goal.fraction-requires-clause-fits
fraction-requires-clause-fits c =
    let a = c.args.form.now in
    let f = abstract_frame a in
    let ls = lists_of a in
    let x = class_plan f ls c.args.one.now in
    let y = class_plan f ls c.args.two.now in
    let g = given (game_in a) f ls refl (form_classes a) in
    let w1 = g.walked 1 (omega arith) (omega arith) in
    let size = ends_few f g.in_range ls g.classes g.modest w1 (g.walked 2 (omega arith) (omega arith)) x y c.requires.one.plan.plan c.requires.two.plan.plan
    (end_count f) (omega arith) in
    let all = payoff_is f ls x y g.in_range w1 g.classes in
    let paid = to_z-of_z w128 c.args.paid c.ranges.paid ∙ c.requires.paid in
    omega (arith, size, ap unsigned_abs (paid ∙ sym all))

pub returns : goal.returns
returns c =
    let a = c.args.form.now in
    let f = abstract_frame a in
    let x = c.args.one.now in
    let y = c.args.two.now in
    let v = parts c.fraction.result in
    let paid = to_z-of_z w128 c.args.paid c.ranges.paid ∙ c.requires.paid in
    let scale = c.scale_of-scale.ensures in
    let all : c.scale_of-scale.result ≡ total_weight f * x.total * y.total = scale.value ∙ ap (λ w. w * x.total * y.total) c.deal_weight.ensures.value in
    let wide : c.scale_of-scale.result < 2 ^ 127 = omega (arith, scale.few) in
    record {
      positive = c.fraction.ensures.positive;
      value_is = ap (λ n. v.0 *ℤ pos n) (sym all) ∙ ap (λ z. v.0 *ℤ z) (sym (to_z_pos w128 c.scale_of-scale.result wide)) ∙ c.fraction.ensures.value
          ∙ ap (λ z. pos v.1 *ℤ z) paid;
    }
