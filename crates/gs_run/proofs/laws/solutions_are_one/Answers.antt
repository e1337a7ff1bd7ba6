use Rattle.gs_run.proofs.OneEach.{told_solution_one}
use Rattle.gs_run.proofs.laws.solutions_are_one.Goals as goal

pub returns : goal.returns
returns c = told_solution_one
