use Rattle.std.specs.Prelude.{unsigned_abs, ◌*ℤ◌}
use Rattle.std.proofs.{Common.{◌<◌, ◌^◌, ℤ, subst, arith, pos, ◌*◌, sym, ap, ◌∙◌}, lemmas.Grind.{common_steps}, lemmas.Int.{to_z-of_z}}
use mir.Syntax.{w128}
use Rattle.gs_best.specs.Judged.{parts}
use Rattle.gs_game.specs.Games.{game_of}
use Rattle.gs_lossless.specs.declared.checking.Lossless.{Lossless}
use Rattle.gs_model.specs.{Frame.{signal_count}, Payoff.{hand_weight}}
use Rattle.gs_model.proofs.Ranges.{deals_weigh}
use Rattle.gs_seq.specs.{Abstracts.{game_in, abstract_frame, lists_of}, Games.{frame_in}, Plans.{lifted}}
use Rattle.gs_tree.specs.declared.signals.Signals.{Signals}
use Rattle.gs_raw.proofs.HandDeals.{no_weight}
use Rattle.gs_raw.proofs.paired.worth.Goals as goal

pub paid_over-requires-clause-nothing : goal.paid_over-requires-clause-nothing
paid_over-requires-clause-nothing c =
    let side = c.args.side.now in
    let a = side.form.now in
    let f = abstract_frame a in
    let lists = lists_of a in
    let held = c.signals-signals.ensures.held ∙ ap (λ (l : Lossless). l.signals.now) c.lossless.ensures in
    let weight = c.hand_weight-weight.ensures.value ∙ ap (λ (s : Signals). hand_weight (frame_in s.game.now) c.args.signal) held in
    λ none. to_z-of_z w128 c.all_gain-paid.result (record { sfits = c.all_gain-paid.type_inv }) ∙ c.all_gain-paid.ensures.value
    ∙ no_weight f (lifted f lists side.one.now) (lifted f lists side.two.now) c.args.signal (deals_weigh (game_of (game_in a).game)) (sym weight ∙ none)

pub returns : goal.returns
returns c =
    let side = c.args.side.now in
    let t1 = side.one.now.total in
    let t2 = side.two.now.total in
    let held = c.signals-signals.ensures.held ∙ ap (λ (l : Lossless). l.signals.now) c.lossless.ensures in
    let weight = c.hand_weight-weight.ensures.value ∙ ap (λ (s : Signals). hand_weight (frame_in s.game.now) c.args.signal) held in
    let v = c.paid_over.ensures in
    let num = to_z-of_z w128 c.all_gain-paid.result (record { sfits = c.all_gain-paid.type_inv }) ∙ c.all_gain-paid.ensures.value in
    record {
      positive = v.positive;
      value_is = ap (λ w. c.paid_over.result.num *ℤ pos (w * t1 * t2)) (sym weight) ∙ v.value_is ∙ ap (λ p. pos (parts c.paid_over.result).1 *ℤ p) num;
    }

pub descendants-run-requires-clause-in_range : goal.descendants-run-requires-clause-in_range
descendants-run-requires-clause-in_range c = grind (arith, common_steps)

pub paid_over-requires-clause-one : goal.paid_over-requires-clause-one
paid_over-requires-clause-one c = grind arith

pub paid_over-requires-clause-two : goal.paid_over-requires-clause-two
paid_over-requires-clause-two c = grind arith

pub paid_over-requires-clause-paid : goal.paid_over-requires-clause-paid
paid_over-requires-clause-paid c = subst (λ (z : ℤ). unsigned_abs z < 2 ^ 127)
    (sym (to_z-of_z w128 c.all_gain-paid.result (record { sfits = c.all_gain-paid.type_inv }))) c.all_gain-paid.ensures.few

pub hand_weight-weight-requires : goal.hand_weight-weight-requires
hand_weight-weight-requires c = record {
  signal = let held = c.signals-signals.ensures.held ∙ ap (λ (l : Lossless). l.signals.now) c.lossless.ensures in
      subst (λ (s : Signals). c.args.signal < signal_count (frame_in s.game.now) 1) (sym held) c.requires;
  run = c.descendants-run.ensures;
}
