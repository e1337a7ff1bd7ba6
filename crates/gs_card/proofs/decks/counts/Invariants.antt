use Rattle.std.proofs.Common.{◌≡◌, ◌-◌, map, take}
use Rattle.gs_card.proofs.decks.counts.Given as goal

abbrev pub invariant-loop-digit : goal.invariant-loop-digit
invariant-loop-digit l = l.counts.items ≡ map (λ digit. digit - 48) (take l.digit-index l.copies)
