use Rattle.std.proofs.Common.{◌≡◌, max, drop}
use Rattle.gs_model.specs.Numbering.{greatest}
use Rattle.gs_game.proofs.betting.greatest_bonus.Given as goal

abbrev pub invariant-loop-one : goal.invariant-loop-one
invariant-loop-one l = greatest l.bonus ≡ max l.most (greatest (drop l.one-index l.bonus))
