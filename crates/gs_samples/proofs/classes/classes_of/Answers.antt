use Rattle.std.proofs.Common.{sym, subst}
use Rattle.gs_filter.specs.Filter.{AreParents}
use Rattle.gs_lossless.proofs.Descent.{are_parents}
use Rattle.gs_samples.proofs.classes.classes_of.Goals as goal

pub identity-requires : goal.identity-requires
identity-requires c = subst AreParents (sym c.parents.ensures) (are_parents c.args.signals.now)

pub new-requires : goal.new-requires
new-requires c = subst AreParents (sym c.parents-2.ensures) (are_parents c.args.signals.now)
