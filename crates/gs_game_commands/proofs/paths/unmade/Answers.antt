use Rattle.gs_solve.proofs.Solved.{program_fails}
use Rattle.gs_game_commands.proofs.paths.unmade.Goals as goal

pub unended-requires : goal.unended-requires
unended-requires c =
    let at = c.in-Fault-Path in let what = rw at.is at at.field-0-is in
    program_fails _ _ at.fault (rw what at (rw at.is at c.requires))

pub returns-in-Fault-Path : goal.returns-in-Fault-Path
returns-in-Fault-Path c = c.unended.ensures.path
