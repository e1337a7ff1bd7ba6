use Rattle.std.proofs.Common.{rules}
use Rattle.gs_words.proofs.kind.Kind.rounds.Goals as goal

pub returns-in-Rhode : goal.returns-in-Rhode
returns-in-Rhode c = search rules
