use Rattle.std.proofs.Common.{◌≡◌, ◌∙◌, List, ℕ, subst, sym}
use Rattle.gs_model.specs.{Classes.{ClassLists, IsClasses}, Frame.{frame_of}, Rows.{rows}}
use Rattle.gs_filter.specs.Filter.{AreParents, Filter}
use Rattle.gs_tree.specs.Trees.{rules_of}
use Rattle.gs_lossless.proofs.{Descent.{are_parents}, Settled.{if_ok}}
use Rattle.gs_split.specs.Turns.{AreParted}
use Rattle.gs_split.proofs.Turned.{classes_of}
use Rattle.gs_split.proofs.parting.parted.Goals as goal

pub of_filter-requires-clause-parents : goal.of_filter-requires-clause-parents
of_filter-requires-clause-parents c = subst AreParents (sym c.parents.ensures) (are_parents c.args.grouped.now.signals.now)

pub of_filter-requires-clause-classes : goal.of_filter-requires-clause-classes
of_filter-requires-clause-classes c =
    let new = rows c.in_ok-lists.lists.items in
    subst (λ (ps : List (List ℕ)). IsClasses ps new) (sym c.parents.ensures)
    (classes_of (frame_of (rules_of c.args.grouped.now.signals.now)) c.args.grouped.now.classes.now.lists (rows c.args.numbers.now) new c.in_ok-lists.ensures)

pub returns : goal.returns
returns c = record {
  parents = let ps = (frame_of (rules_of c.args.grouped.now.signals.now)).parents in
      if_ok c.of_filter.result (λ (v : Filter). v.parents ≡ rows c.parents.result.now) (λ (v : Filter). v.parents ≡ ps) (λ v e. e ∙ c.parents.ensures)
      c.of_filter.ensures.parents;
  parted = let f = frame_of (rules_of c.args.grouped.now.signals.now) in
      let old = c.args.grouped.now.classes.now.lists in
      let numbers = rows c.args.numbers.now in
      let new = rows c.in_ok-lists.lists.items in
      if_ok c.of_filter.result (λ (v : Filter). v.lists ≡ new) (λ (v : Filter). AreParted f old numbers v.lists)
      (λ v e. subst (λ (lists : ClassLists). AreParted f old numbers lists) (sym e) c.in_ok-lists.ensures) c.of_filter.ensures.lists;
}
