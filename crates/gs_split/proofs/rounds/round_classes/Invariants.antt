use Rattle.gs_iso.proofs.FirstSeen.{AreSeen}
use Rattle.gs_split.specs.Turns.{turn_key}
use Rattle.gs_split.proofs.Agreed.{key_eq, key_exact}
use Rattle.gs_split.proofs.rounds.round_classes.Given as goal

abbrev pub invariant-loop-at : goal.invariant-loop-at
invariant-loop-at l = AreSeen key_eq key_exact (turn_key l.keys.before.now l.keys.above.now l.keys.parents.now l.keys.numbers.now) l.seen.keys l.classes.items
    l.at
