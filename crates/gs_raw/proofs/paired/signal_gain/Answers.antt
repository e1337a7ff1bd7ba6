use Rattle.std.proofs.{Common.{◌≡◌, ℤ, pos, ◌+◌, ◌^◌, ap, sym, ◌∙◌, subst, arith, of_z}, lemmas.Int.{to_z-of_z}, Math.Nat.{mul-le-mul_left}}
use Rattle.std.specs.Prelude.{unsigned_abs, ◌*ℤ◌}
use mir.Syntax.{w128}
use mir.Val.{to_z}
use Rattle.gs_seq.specs.{Abstracts.{abstract_frame, lists_of}, Plans.{IsPlanOf, class_plan, lifted}}
use Rattle.gs_best.proofs.Chips.{form_modest}
use Rattle.gs_model.specs.{BestAnswers.{end_worth}, Pairs.{class_number}, Payoff.{number_at_end}}
use Rattle.gs_raw.specs.Hands.{signal_pays}
use Rattle.gs_raw.proofs.{Numbers.{abs_scaled}, SignalPays.{signal_share, signal_weighs_le, single_end, small_of}}
use Rattle.gs_raw.proofs.paired.signal_gain.Goals.{After-end_value}
use Rattle.gs_raw.proofs.paired.signal_gain.Goals as goal

-- the number times what the end pays is what the signal's deals pay
product : (c : After-end_value)
    → pos c.number_at_end-number.result *ℤ to_z w128 (of_z w128 c.end_value.result)
    ≡ signal_pays (abstract_frame c.args.side.now.form.now)
    (lifted (abstract_frame c.args.side.now.form.now) (lists_of c.args.side.now.form.now) c.args.side.now.one.now)
    (lifted (abstract_frame c.args.side.now.form.now) (lists_of c.args.side.now.form.now) c.args.side.now.two.now) c.args.end c.args.signal
product c =
    let side = c.args.side.now in
    let f = abstract_frame side.form.now in
    let lists = lists_of side.form.now in
    let z = c.args.end in
    let s = c.args.signal in
    let x = lifted f lists side.one.now in
    let y = lifted f lists side.two.now in
    let is = (single_end side.form.now side.singles z s c.requires.end c.requires.signal).1 in
    let number : c.number_at_end-number.result ≡ number_at_end f 1 x z s =
    c.number_at_end-number.ensures.value ∙ ap (λ p. class_number f lists p (class_plan f lists side.one.now) z (s + 1)) side.one_plan.player_is
    ∙ ap (number_at_end f 1 x z) is in
    let read : ℤ = to_z w128 (of_z w128 c.end_value.result) in
    let worth : read ≡ end_worth f 1 y z s = to_z-of_z w128 c.end_value.result (record { sfits = c.end_value.type_inv }) ∙ c.end_value.ensures
    ∙ ap (end_worth f 1 y z) is in
    ap (λ n. pos n *ℤ read) number ∙ ap (λ v. pos (number_at_end f 1 x z s) *ℤ v) worth ∙ sym (signal_share f x y z s)

pub overflow_add-signal : goal.overflow_add-signal
overflow_add-signal c = omega (arith, (single_end c.args.side.now.form.now c.args.side.now.singles c.args.end c.args.signal c.requires.end c.requires.signal).2)

pub overflow_add-signal-2 : goal.overflow_add-signal-2
overflow_add-signal-2 c = omega (
  arith,
  (single_end c.args.side.now.form.now c.args.side.now.singles c.args.end c.args.signal c.requires.end
      c.requires.signal).2,
)

pub number_at_end-number-requires-clause-plan : goal.number_at_end-number-requires-clause-plan
number_at_end-number-requires-clause-plan c =
    let side = c.args.side.now in subst (λ p. IsPlanOf (abstract_frame side.form.now) (lists_of side.form.now) p side.one.now)
    (sym side.one_plan.player_is) side.one_plan

pub number_at_end-number-requires-clause-class : goal.number_at_end-number-requires-clause-class
number_at_end-number-requires-clause-class c = (single_end c.args.side.now.form.now c.args.side.now.singles c.args.end c.args.signal c.requires.end
    c.requires.signal).0

pub end_value-requires-clause-class : goal.end_value-requires-clause-class
end_value-requires-clause-class c = (single_end c.args.side.now.form.now c.args.side.now.singles c.args.end c.args.signal c.requires.end c.requires.signal).0

pub scaled-requires : goal.scaled-requires
scaled-requires c =
    let side = c.args.side.now in
    let a = side.form.now in
    let size = abs_scaled c.number_at_end-number.result (to_z w128 (of_z w128 c.end_value.result)) _
    (sym (product (goal.at.scaled-requires c).After-end_value)) in
    let small = small_of a (lists_of a) side.singles side.one.now side.two.now side.one_plan side.two_plan c.args.end c.args.signal c.requires.end in
    let up = mul-le-mul_left (2 ^ 84) (signal_weighs_le (abstract_frame a) c.args.end c.args.signal) in
    omega (arith, size, small, up, mul-le-mul_left (2 ^ 84) (form_modest a).weight)

pub returns : goal.returns
returns c = record {
  value = to_z-of_z w128 c.scaled.result (record { sfits = c.scaled.type_inv }) ∙ c.scaled.ensures
      ∙ product (goal.at.returns c).After-end_value;
  few = let side = c.args.side.now in
      let a = side.form.now in
      let now = to_z-of_z w128 c.scaled.result (record { sfits = c.scaled.type_inv }) ∙ c.scaled.ensures
      ∙ product (goal.at.returns c).After-end_value in
      omega (
        arith,
        ap unsigned_abs now,
        small_of a (lists_of a) side.singles side.one.now side.two.now side.one_plan side.two_plan c.args.end c.args.signal
            c.requires.end,
      );
}

pub invariant_of-facing : goal.invariant_of-facing
invariant_of-facing c = record {
  some = omega arith;
  two = omega arith;
  plan = c.args.side.now.two_plan;
}
