use Rattle.std.proofs.Common.{◌≡◌, ◌<◌, ◌-◌, ℕ, map, take}
use Rattle.gs_model.specs.{Numbering.{IsNumbered}, Classes.{list_of}, Rows.{rows}}
use Rattle.gs_filter.specs.Tallies.{tallies_of}
use Rattle.gs_filter.proofs.tallies.tally_lists.Given as goal

abbrev pub invariant-loop-round : goal.invariant-loop-round
invariant-loop-round l = record {
  tallied : l.tallies.items ≡ map tallies_of (take (l.round - 1) (rows l.lists));
  numbered : (r : ℕ) → 0 < r → r < l.round → IsNumbered (list_of (rows l.lists) r);
}
