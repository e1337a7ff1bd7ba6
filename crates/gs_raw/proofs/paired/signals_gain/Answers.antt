use Rattle.std.proofs.{Common.{◌≡◌, ◌+◌, ◌-◌, ◌*◌, ◌^◌, ap, ◌∙◌, arith}, Math.Nat.{mul-le-mul_left}}
use mir.Val.{to_z}
use mir.Syntax.{w128}
use Rattle.gs_seq.specs.{Abstracts.{abstract_frame, lists_of}, Plans.{lifted}}
use Rattle.gs_best.proofs.Chips.{form_modest}
use Rattle.gs_raw.specs.Hands.{signal_pays, signal_weighs, signals_pay}
use Rattle.gs_raw.proofs.{Running.{IsAdded, run_added}, SignalPays.{signals_weigh, signals_weigh_le}, paired.signals_gain.Goals.{After-signal_gain}}
use Rattle.gs_raw.proofs.paired.signals_gain.Goals as goal

-- the sum with the signal's part
adding : (c : After-signal_gain)
    → IsAdded (to_z w128 c.loop-signal.sum-bits) c.signal_gain.result
    (signals_pay (abstract_frame c.args.side.now.form.now)
    (lifted (abstract_frame c.args.side.now.form.now) (lists_of c.args.side.now.form.now) c.args.side.now.one.now)
    (lifted (abstract_frame c.args.side.now.form.now) (lists_of c.args.side.now.form.now) c.args.side.now.two.now) c.args.run.first
    (c.loop-signal.signal + 1 - c.args.run.first) c.args.end)
    ((2 ^ 84) * signals_weigh (abstract_frame c.args.side.now.form.now) c.args.run.first (c.loop-signal.signal + 1 - c.args.run.first) c.args.end)
adding c =
    let side = c.args.side.now in
    let f = abstract_frame side.form.now in
    let lists = lists_of side.form.now in
    let first = c.args.run.first in
    let i = c.loop-signal.signal in
    run_added (signal_pays f (lifted f lists side.one.now) (lifted f lists side.two.now) c.args.end) (signal_weighs f c.args.end) first i _ _
    c.signal_gain.result (omega arith) c.loop-signal.invariant.sum_is c.loop-signal.invariant.within
    c.signal_gain.ensures.value c.signal_gain.ensures.few (signals_weigh_le f c.args.end first (i + 1 - first)) (form_modest side.form.now).weight

pub plus-sum-requires : goal.plus-sum-requires
plus-sum-requires c = (adding (goal.at.plus-sum-requires c).After-signal_gain).fits

pub loop-signal-preserved : goal.loop-signal-preserved
loop-signal-preserved c =
    let k = adding (goal.at.loop-signal-preserved c).After-signal_gain in record
    { sum_is = k.is c.plus-sum.result c.plus-sum.ensures; within = k.within c.plus-sum.result c.plus-sum.ensures }

pub returns : goal.returns
returns c = record {
  value = let side = c.args.side.now in
      let f = abstract_frame side.form.now in
      let lists = lists_of side.form.now in
      c.loop-signal.invariant.sum_is ∙ ap (λ k. signals_pay f (lifted f lists side.one.now) (lifted f lists side.two.now) c.args.run.first
      (k - c.args.run.first) c.args.end) (omega arith);
  few = let a = c.args.side.now.form.now in
      let first = c.args.run.first in
      let all = mul-le-mul_left (2 ^ 84) (signals_weigh_le (abstract_frame a) c.args.end first (c.loop-signal.signal - first)) in
      omega (arith, c.loop-signal.invariant.within, all, mul-le-mul_left (2 ^ 84) (form_modest a).weight);
}

pub loop-signal-init : goal.loop-signal-init
loop-signal-init c =
    let side = c.args.side.now in
    let f = abstract_frame side.form.now in
    let lists = lists_of side.form.now in
    let first = c.args.run.first in
    let none : 0 ≡ first - first = omega arith in
    record {
      sum_is = ap (λ n. signals_pay f (lifted f lists side.one.now) (lifted f lists side.two.now) first n c.args.end) none;
      within = omega arith;
    }
