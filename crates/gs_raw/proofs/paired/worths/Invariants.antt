use Rattle.gs_seq.specs.Abstracts.{abstract_frame, lists_of}
use Rattle.gs_raw.proofs.SignalPays.{HandsTo}
use Rattle.gs_raw.proofs.paired.worths.Given as goal

abbrev pub invariant-loop-signal : goal.invariant-loop-signal
invariant-loop-signal l =
    let side = l.side in
    let f = abstract_frame side.form.now in
    let lists = lists_of side.form.now in
    HandsTo f lists side.one.now lists side.two.now l.signal l.hands.items
