use Rattle.std.proofs.Common.{rules}
use Rattle.gs_boards.proofs.pays.Pays.worth.Goals as goal

pub returns-in-Showdown-clause-value : goal.returns-in-Showdown-clause-value
returns-in-Showdown-clause-value c = search rules
