use Rattle.std.proofs.Common.{◌≡◌, length}
use Rattle.gs_tests_games.proofs.boards.numbers.Given as goal

abbrev pub invariant-loop-signal : goal.invariant-loop-signal
invariant-loop-signal l = length l.all.items ≡ l.signal
