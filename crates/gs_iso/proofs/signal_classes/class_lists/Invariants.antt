use Rattle.std.proofs.Common.{◌≡◌, ◌<◌, ℕ, suc, [], get_or, length}
use Rattle.gs_model.specs.Rows.{rows}
use Rattle.gs_tree.specs.Trees.{rules_of}
use Rattle.gs_iso.proofs.Listed.{AreClassesIn}
use Rattle.gs_iso.proofs.signal_classes.class_lists.Given as goal

abbrev pub invariant-loop-done : goal.invariant-loop-done
invariant-loop-done l = record {
  long : length l.lists.items ≡ l.done;
  each : (k : ℕ) → k < length l.lists.items → AreClassesIn (rules_of l.signals) (suc k) (get_or (rows l.lists.items) k []);
}
