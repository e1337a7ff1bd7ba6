use Rattle.std.proofs.Common.{sym, subst}
use Rattle.gs_model.specs.{Classes.{IsClasses}, Rows.{rows}}
use Rattle.gs_filter.proofs.ClassLaws.{single_are_classes}
use Rattle.gs_filter.proofs.classes.Classes.identity.Goals as goal

pub of_filter-requires-clause-classes : goal.of_filter-requires-clause-classes
of_filter-requires-clause-classes c = subst (IsClasses (rows c.args.parents.now)) (sym c.in_ok-lists.ensures) (single_are_classes (rows c.args.parents.now))
