use Rattle.std.proofs.Common.{◌≡◌, length}
use Rattle.gs_model.specs.{Frame.{frame_of}, Rows.{rows}}
use Rattle.gs_tree.specs.Trees.{rules_of}
use Rattle.gs_split.proofs.Turned.{ArePartedTo}
use Rattle.gs_split.proofs.parting.parted_lists.Given as goal

abbrev pub invariant-loop-done : goal.invariant-loop-done
invariant-loop-done l = record {
  long : length (rows l.lists.items) ≡ l.done;
  each : ArePartedTo (frame_of (rules_of l.grouped.signals.now)) l.grouped.classes.now.lists (rows l.numbers) (rows l.lists.items);
}
