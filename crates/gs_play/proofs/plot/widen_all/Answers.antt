use Rattle.std.proofs.Common.{arith}
use Rattle.gs_seq.specs.Abstracts.{abstract_frame}
use Rattle.gs_play.proofs.PlotLaws.{spans_more}
use Rattle.gs_play.proofs.plot.widen_all.Goals as goal

pub loop-end-preserved : goal.loop-end-preserved
loop-end-preserved c = spans_more (abstract_frame c.args.form.now) c.loop-end.end c.widen-in-loop-end.new.spans c.widen.new.spans
    c.widen-in-loop-end.ensures.spans c.widen.ensures.here c.widen-in-loop-end.ensures.wider c.widen-in-loop-end.ensures.here

pub widen-requires-in-loop-end-clause-spans : goal.widen-requires-in-loop-end-clause-spans
widen-requires-in-loop-end-clause-spans c = grind arith

pub widen-requires-clause-spans : goal.widen-requires-clause-spans
widen-requires-clause-spans c = c.loop-end.invariant

pub returns : goal.returns
returns c = grind arith

pub loop-end-init : goal.loop-end-init
loop-end-init c = grind arith
