use Rattle.std.proofs.lemmas.Grind.{common_steps}
use Rattle.std.proofs.{Common.{arith}, lemmas.Result.{IfOk-from_err}}
use Rattle.gs_model.specs.{Frame.{frame_of}, Lossless.{IsLossless}}
use Rattle.gs_tree.specs.Trees.{rules_of}
use Rattle.gs_lossless.proofs.Unlike.{no_pair, nothing_said}
use Rattle.gs_lossless.proofs.checking.check.Goals.{Joined-not-branch, then-not-branch+in_ok-first_unlike, else-not-branch}
use Rattle.gs_lossless.proofs.checking.check.Goals as goal

-- what passed is lossless, by the first check or by the second
passed : (c : Joined-not-branch) → IsLossless (frame_of (rules_of c.args.signals.now)) c.args.classes.now.lists
passed c = elim c.if-not-branch.branch [
  | then-not-branch+in_ok-first_unlike w ↦ w.in_ok-first_unlike.ensures.lossless
  | else-not-branch w ↦ c.in_ok-settles.ensures w.if-not-branch.false
]

pub returns-in_err-first_unlike : goal.returns-in_err-first_unlike
returns-in_err-first_unlike c = grind (arith, common_steps)

pub invariant_of-result : goal.invariant_of-result
invariant_of-result c = record { parents = c.requires; lossless = passed (goal.at.invariant_of-result c).Joined-not-branch }

pub returns-clause-lossless : goal.returns-clause-lossless
returns-clause-lossless c = passed (goal.at.returns-clause-lossless c).Joined-not-branch

pub returns-in_err-settles : goal.returns-in_err-settles
returns-in_err-settles c =
    let failed = c.from_residual.ensures in
    record {
      held_signals = IfOk-from_err _ _ failed.0;
      held_classes = IfOk-from_err _ _ failed.0;
      lossless = IfOk-from_err _ _ failed.0;
      unlike = nothing_said _ _ _ failed.1;
      refuted = no_pair _ _ failed.1;
      single = no_pair _ _ failed.1;
    }
