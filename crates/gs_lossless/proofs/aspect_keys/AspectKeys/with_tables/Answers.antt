use Rattle.std.proofs.lemmas.Result.{IfOk-from_err}
use Rattle.std.proofs.Common.{◌∙◌, ℕ, List, ap, length, refl, subst}
use Rattle.std.specs.List.{All}
use Rattle.gs_tree.specs.Trees.{rules_of}
use Rattle.gs_lossless.specs.Rivals.{IsRivalTable}
use Rattle.gs_lossless.proofs.AspectOf.{many_last}
use Rattle.gs_lossless.proofs.aspect_keys.AspectKeys.with_tables.Goals as goal

pub tables_in-requires : goal.tables_in-requires
tables_in-requires c last = ap (λ (l : List ℕ). length l) c.deref.ensures.value ∙ many_last c.args.self last

pub invariant_of-result : goal.invariant_of-result
invariant_of-result c = record {
  has = c.args.self.has;
  are = c.args.self.are;
  last = c.in_ok-tables.ensures.last;
  each = subst (λ (keys : List ℕ). All (IsRivalTable (rules_of c.args.self.signals.now) keys) c.in_ok-tables.tables.items) c.deref.ensures.value
      c.in_ok-tables.ensures.each;
  parents = c.args.self.parents;
}

pub returns : goal.returns
returns c = record {
  signals = refl;
  classes = refl;
  aspect = (refl, refl);
}

pub returns-in_err-tables : goal.returns-in_err-tables
returns-in_err-tables c = let failed = c.from_residual.ensures.0 in record {
  signals = IfOk-from_err _ _ failed;
  classes = IfOk-from_err _ _ failed;
  aspect = IfOk-from_err _ _ failed;
}
