use Rattle.std.proofs.Common.{◌≡◌, ◌-◌, ◌<◌, ℕ, [], get_or, length}
use Rattle.gs_model.specs.{Game.{round_count}, Rows.{rows}}
use Rattle.gs_tree.specs.Trees.{rules_of}
use Rattle.gs_iso.specs.Numbers.{IsNumbering}
use Rattle.gs_iso.proofs.signal_classes.node_numbers.Given as goal

abbrev pub invariant-loop-done : goal.invariant-loop-done
invariant-loop-done l = record {
  long : length l.numbers.items ≡ l.done;
  each : (k : ℕ) → k < length l.numbers.items → IsNumbering (rules_of l.signals) (round_count (rules_of l.signals) - k) (get_or (rows l.numbers.items) k []);
}
