use Rattle.std.proofs.lemmas.Result.{IfOk-from_err}
use Rattle.std.proofs.{Common.{List, ℕ, sym, subst, arith}, lemmas.Grind.{common_steps}}
use Rattle.gs_filter.specs.{Faults.{IsFaultOf}, Filter.{AreParents}}
use Rattle.gs_model.specs.{Rows.{rows}, Classes.{ClassLists}, Frame.{frame_of}}
use Rattle.gs_filter.proofs.Kept.{classes_kept}
use Rattle.gs_tree.specs.Trees.{rules_of}
use Rattle.gs_lossless.specs.Stopped.{stopped_lists}
use Rattle.gs_lossless.proofs.Descent.{are_parents}
use Rattle.gs_lossless.proofs.stopped.stopped_classes.Goals as goal

pub new-requires : goal.new-requires
new-requires c = subst AreParents (sym c.parents.ensures) (are_parents c.args.stopped.now)

pub returns-in-Err-Fault-clause-whenever : goal.returns-in-Err-Fault-clause-whenever
returns-in-Err-Fault-clause-whenever c = λ classes.
    let parents = (frame_of (rules_of c.args.stopped.now)).parents in
    let lists = stopped_lists c.args.classes.now.lists c.args.round in
    let why = c.in-Err-Fault.field-0-0 in
    let fault = subst (λ (ls : ClassLists). IsFaultOf (rows c.parents.result.now) ls why) c.in_ok-lists.ensures
    (rw c.in-Err-Fault.field-0-is at c.in-Err-Fault.ensures.refused) in
    classes_kept parents lists why classes (subst (λ (ps : List (List ℕ)). IsFaultOf ps lists why) c.parents.ensures fault)

pub returns-in-Ok-clause-same : goal.returns-in-Ok-clause-same
returns-in-Ok-clause-same c = grind (arith, common_steps)

pub returns-in_err-lists : goal.returns-in_err-lists
returns-in_err-lists c = let failed = c.from_residual.ensures.0 in record {
  parents = IfOk-from_err _ _ failed;
  same = IfOk-from_err _ _ failed;
  whenever = IfOk-from_err _ _ failed;
}
