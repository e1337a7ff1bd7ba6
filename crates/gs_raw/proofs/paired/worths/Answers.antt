use Rattle.std.proofs.Common.{sym, subst, arith}
use Rattle.gs_game.specs.Games.{game_of}
use Rattle.gs_model.proofs.Walked.{last_round_of}
use Rattle.gs_seq.specs.Abstracts.{abstract_frame, lists_of}
use Rattle.gs_seq.proofs.Points.{playable}
use Rattle.gs_raw.proofs.SignalPays.{HandsTo, hands_more, hands_none}
use Rattle.gs_raw.proofs.paired.worths.Goals as goal

pub signal_total-count-requires-clause-top : goal.signal_total-count-requires-clause-top
signal_total-count-requires-clause-top c =
    let g = c.args.side.now.form.now.lossless.now.signals.now.game.now in
    let some = (playable g).some in
    omega (arith, last_round_of (game_of g.game), some)

pub loop-signal-init : goal.loop-signal-init
loop-signal-init c =
    let side = c.args.side.now in
    let f = abstract_frame side.form.now in
    let lists = lists_of side.form.now in
    subst (HandsTo f lists side.one.now lists side.two.now 0) (sym c.in_ok-hands.ensures.items) (hands_none f lists side.one.now lists side.two.now)

pub loop-signal-preserved : goal.loop-signal-preserved
loop-signal-preserved c =
    let side = c.args.side.now in
    let f = abstract_frame side.form.now in
    let lists = lists_of side.form.now in
    hands_more f lists side.one.now lists side.two.now c.loop-signal.signal c.loop-signal.hands.items _ c.worth.result c.loop-signal.invariant
    c.in_ok-push.ensures.items c.worth.ensures

pub returns : goal.returns
returns c =
    let h = c.loop-signal.invariant in
    let all = c.signal_total-count.ensures in
    record { long = omega (arith, h.long, all); each = λ s d l. h.each s d (omega (arith, l, all)) }

pub worth-requires : goal.worth-requires
worth-requires c = omega arith
