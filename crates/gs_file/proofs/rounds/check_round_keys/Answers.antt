use Rattle.std.proofs.Common.{rules}
use Rattle.gs_file.proofs.rounds.check_round_keys.Goals as goal

pub returns-then-by_tree : goal.returns-then-by_tree
returns-then-by_tree c = search rules
