use Rattle.gs_reply.proofs.Held.{strategy_refused}
use Rattle.gs_reply.proofs.strategies.stored_strategy.Goals as goal

pub returns-in-Err-Fault-clause-refused : goal.returns-in-Err-Fault-clause-refused
returns-in-Err-Fault-clause-refused c =
    strategy_refused c.args.which c.args.bytes.now c.in-Err-Fault.fault (rw c.in-Err-Fault.field-0-is at c.in-Err-Fault.ensures.exact)
