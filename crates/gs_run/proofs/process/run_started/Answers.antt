use Rattle.std.proofs.Common.{inl}
use Rattle.gs_run.proofs.process.run_started.Goals as goal

pub returns-in-Ok : goal.returns-in-Ok
returns-in-Ok g c = inl (record { words = _; does = c.run.ensures.does; runs = c.run.ensures.runs })
