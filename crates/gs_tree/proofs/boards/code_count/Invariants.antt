use Rattle.std.proofs.Common.{◌≡◌, ◌^◌}
use Rattle.gs_tree.proofs.boards.code_count.Given as goal

abbrev pub invariant-loop : goal.invariant-loop
invariant-loop l = l.count ≡ l.kinds ^ l.counter
