use Rattle.gs_run.proofs.Ends.{tells}
use Rattle.gs_run.proofs.runs.tell.Goals as goal

pub returns : goal.returns
returns g c =
    let given = g.E.Sink.given in
    let faults = g.E.Sink.faults in
    tells c.args.line.now (given c.args.err.now) (given c.write_all.new.sink) (faults c.args.err.now) (faults c.write_all.new.sink) c.write_all.result
    c.write_all.ensures
