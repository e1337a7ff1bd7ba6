use Rattle.std.proofs.Common.{◌≡◌, length}
use Rattle.std.specs.Prelude.{min}
use Rattle.gs_model.specs.{Classes.{class_count}, Frame.{frame_of}}
use Rattle.gs_tree.specs.Trees.{rules_of}
use Rattle.gs_lossless.specs.Scans.{AgreeBelow, AreFirstsKept, StandFor}
use Rattle.gs_lossless.proofs.scan.apart_before.Given as goal

abbrev pub invariant-loop-signal : goal.invariant-loop-signal
invariant-loop-signal l = record {
  long : length l.kept.items ≡ min (class_count l.at.classes.now.lists l.at.round) l.end;
  kept : AreFirstsKept (frame_of (rules_of l.at.signals.now)) l.at.classes.now.lists l.at.aspect l.at.round l.kept.items;
  stand : StandFor (frame_of (rules_of l.at.signals.now)) l.at.classes.now.lists l.at.aspect l.at.round l.firsts.items;
  agree : AgreeBelow (frame_of (rules_of l.at.signals.now)) l.at.classes.now.lists l.at.aspect l.at.round l.signal;
}
