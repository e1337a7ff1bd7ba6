use Rattle.std.proofs.Common.{◌≡◌, ◌<◌, ℕ, get_or, length}
use Rattle.gs_model.specs.Classes.{class_count, class_of, first_member}
use Rattle.gs_split.specs.Turns.{IsSettled}
use Rattle.gs_split.proofs.aspects.settled_classes.Given as goal

abbrev pub invariant-loop-signal : goal.invariant-loop-signal
invariant-loop-signal l = record {
  long : length l.settled.items ≡ class_count l.classes.lists l.round;
  first : (s : ℕ) → s < l.signal → IsSettled l.classes.lists l.round l.settled.items s
      → get_or l.firsts s 0 ≡ first_member l.classes.lists l.round (class_of l.classes.lists l.round s);
}
