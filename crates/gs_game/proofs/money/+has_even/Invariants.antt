use Rattle.std.proofs.Common.{◌≡◌, drop}
use Rattle.gs_bet.specs.TreeView.{plain, plain_moves}
use Rattle.gs_game.specs.Money.{has_even, any_even}
use Rattle.gs_game.proofs.money.+has_even.Given as goal

abbrev pub invariant-loop-next : goal.invariant-loop-next
invariant-loop-next l = has_even (plain l.tree) ≡ any_even (plain_moves (drop l.next-index l.next-items))
