use Rattle.std.proofs.Common.{◌≡◌, false, take}
use Rattle.gs_card.specs.Decks.{repeats}
use Rattle.gs_card.proofs.decks.has_repeat.Given as goal

abbrev pub invariant-loop-i : goal.invariant-loop-i
invariant-loop-i l = repeats (take l.i l.letters) ≡ false
