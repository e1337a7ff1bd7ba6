use Rattle.std.proofs.Common.{arith}
use Rattle.gs_tree.specs.Trees.{rules_of}
use Rattle.gs_seq.specs.Games.{frame_in}
use Rattle.gs_seq.proofs.SlotLaws.{over}
use Rattle.gs_seq.proofs.before.rows_over.Goals as goal
use Rattle.gs_model.proofs.Walked.{last_round_of}

pub stopped_classes-requires-clause-top : goal.stopped_classes-requires-clause-top
stopped_classes-requires-clause-top c =
    omega (
      arith,
      c.requires.before_last,
      last_round_of (rules_of c.args.lossless.now.signals.now),
      (over (frame_in c.args.lossless.now.signals.now.game.now) c.args.lossless.now.classes.now c.args.lossless.now.parents).rounds,
    )

pub invariant_of-at : goal.invariant_of-at
invariant_of-at c = grind arith
