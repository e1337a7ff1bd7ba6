use Rattle.std.proofs.Common.{◌∙◌, arith, rules}
use Rattle.gs_io.proofs.Known.{appends_more}
use Rattle.gs_io.proofs.whole.write_all.Goals as goal

pub loop-written-preserved : goal.loop-written-preserved
loop-written-preserved g c =
    let given = g.K.Sink.given in
    record {
      given = appends_more (given c.args.sink.now) (given c.loop-written.sink) (given c.give.new.self) c.loop-written.written c.in-Ok.count c.args.bytes.now
          c.loop-written.invariant.given c.in-Ok.ensures.bytes;
      faults = c.in-Ok.ensures.cause.ok ∙ c.loop-written.invariant.faults;
      within = omega (arith, c.in-Ok.ensures.count.1);
    }

pub returns-in-Err : goal.returns-in-Err
returns-in-Err g c = search rules
