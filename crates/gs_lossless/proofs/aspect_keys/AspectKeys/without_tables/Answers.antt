use Rattle.std.proofs.lemmas.Result.{IfOk-from_err}
use Rattle.std.proofs.Common.{arith}
use Rattle.gs_lossless.proofs.aspect_keys.AspectKeys.without_tables.Goals as goal

pub invariant_of-result : goal.invariant_of-result
invariant_of-result c = grind arith

pub returns-in_err-keys : goal.returns-in_err-keys
returns-in_err-keys c = let failed = c.from_residual.ensures.0 in record {
  signals = IfOk-from_err _ _ failed;
  classes = IfOk-from_err _ _ failed;
  aspect = IfOk-from_err _ _ failed;
}
