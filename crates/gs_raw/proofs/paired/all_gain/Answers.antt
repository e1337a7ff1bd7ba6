use Rattle.std.proofs.Common.{◌≡◌, ◌+◌, ◌*◌, ◌^◌, ap, ◌∙◌, arith}
use Rattle.std.specs.List.{range_with_len}
use mir.Syntax.{w128}
use mir.Val.{to_z}
use Rattle.gs_seq.specs.{Abstracts.{abstract_frame, lists_of}, Plans.{lifted}}
use Rattle.gs_best.proofs.Chips.{form_modest}
use Rattle.gs_model.specs.{Frame.{end_count}, Sums.{sum_z}}
use Rattle.gs_raw.specs.Hands.{hand_pays_at}
use Rattle.gs_raw.proofs.{HandDeals.{all_ends}, Running.{IsAdded, ends_added}, paired.all_gain.Goals.{After-end_gain}}
use Rattle.gs_raw.proofs.paired.all_gain.Goals as goal

-- the sum with the end's part
adding : (c : After-end_gain)
    → IsAdded (to_z w128 c.loop-end.sum-bits) c.end_gain.result
    (sum_z (hand_pays_at (abstract_frame c.args.side.now.form.now)
    (lifted (abstract_frame c.args.side.now.form.now) (lists_of c.args.side.now.form.now) c.args.side.now.one.now)
    (lifted (abstract_frame c.args.side.now.form.now) (lists_of c.args.side.now.form.now) c.args.side.now.two.now) c.args.signal)
    (range_with_len 0 (c.loop-end.end + 1))) ((c.loop-end.end + 1) * (2 ^ 110))
adding c =
    let side = c.args.side.now in
    let f = abstract_frame side.form.now in
    let lists = lists_of side.form.now in
    ends_added (hand_pays_at f (lifted f lists side.one.now) (lifted f lists side.two.now) c.args.signal) c.loop-end.end _ c.end_gain.result
    (omega (arith, c.loop-end-test.true, c.end_total-end-end.ensures, (form_modest side.form.now).ends)) c.loop-end.invariant.sum_is
    c.loop-end.invariant.within c.end_gain.ensures.value c.end_gain.ensures.few

pub plus-sum-requires : goal.plus-sum-requires
plus-sum-requires c = (adding (goal.at.plus-sum-requires c).After-end_gain).fits

pub loop-end-preserved : goal.loop-end-preserved
loop-end-preserved c =
    let k = adding (goal.at.loop-end-preserved c).After-end_gain in record
    { sum_is = k.is c.plus-sum.result c.plus-sum.ensures; within = k.within c.plus-sum.result c.plus-sum.ensures }

pub returns : goal.returns
returns c =
    let side = c.args.side.now in
    let f = abstract_frame side.form.now in
    let lists = lists_of side.form.now in
    let x = lifted f lists side.one.now in
    let y = lifted f lists side.two.now in
    let all : c.loop-end.end ≡ end_count f = omega (arith, c.end_total-end-end.ensures, c.loop-end-test.false, c.loop-end.auto.end-end) in
    record {
      value = c.loop-end.invariant.sum_is ∙ ap (λ n. sum_z (hand_pays_at f x y c.args.signal) (range_with_len 0 n)) all ∙ all_ends f x y c.args.signal;
      few = omega (arith, c.loop-end.invariant.within, all, (form_modest side.form.now).ends);
    }
