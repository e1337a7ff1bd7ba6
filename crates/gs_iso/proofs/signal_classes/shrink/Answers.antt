use Rattle.std.proofs.Common.{◌≡◌, List, ℕ, subst, sym, arith}
use Rattle.std.proofs.lemmas.Result.{IfOk-from_err, IfOk-weaker}
use Rattle.std.specs.Prelude.{IfOk}
use Rattle.gs_model.specs.{Classes.{IsClasses}, Rows.{rows}, SignalClasses.{IsSignalClasses}}
use Rattle.gs_filter.specs.Filter.{AreParents, Filter}
use Rattle.gs_tree.specs.Trees.{rules_of}
use Rattle.gs_lossless.proofs.Descent.{are_parents}
use Rattle.gs_iso.proofs.Whole.{are_classes}
use Rattle.gs_iso.proofs.signal_classes.shrink.Goals as goal

pub of_filter-requires-clause-parents : goal.of_filter-requires-clause-parents
of_filter-requires-clause-parents c = subst AreParents (sym c.parents.ensures) (are_parents c.args.signals.now)

pub of_filter-requires-clause-classes : goal.of_filter-requires-clause-classes
of_filter-requires-clause-classes c =
    subst (λ (ps : List (List ℕ)). IsClasses ps (rows c.in_ok-lists.lists.items)) (sym c.parents.ensures)
    (are_classes (rules_of c.args.signals.now) (rows c.in_ok-lists.lists.items) c.in_ok-lists.ensures)

pub class_lists-requires : goal.class_lists-requires
class_lists-requires c = grind arith

pub returns : goal.returns
returns c = record {
  classes = let g = rules_of c.args.signals.now in
      IfOk-weaker c.of_filter.result (λ (v : Filter). v.lists ≡ rows c.in_ok-lists.lists.items) (λ (v : Filter). IsSignalClasses g v.lists)
      (λ v e. subst (IsSignalClasses g) (sym e) c.in_ok-lists.ensures) c.of_filter.ensures.lists;
  parents = subst (λ (ps : List (List ℕ)). IfOk c.of_filter.result (λ (v : Filter). v.parents ≡ ps)) c.parents.ensures c.of_filter.ensures.parents;
}

pub returns-in_err-numbers : goal.returns-in_err-numbers
returns-in_err-numbers c = let failed = c.from_residual.ensures.0 in record {
  classes = IfOk-from_err _ _ failed;
  parents = IfOk-from_err _ _ failed;
}

pub returns-in_err-lists : goal.returns-in_err-lists
returns-in_err-lists c = let failed = c.from_residual-in_err-lists.ensures.0 in record {
  classes = IfOk-from_err _ _ failed;
  parents = IfOk-from_err _ _ failed;
}
