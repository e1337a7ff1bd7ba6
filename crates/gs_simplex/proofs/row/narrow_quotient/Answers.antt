use Rattle.std.proofs.Common.{arith, rules}
use Rattle.gs_simplex.proofs.Fits.{narrow_quotient_kept}
use Rattle.gs_simplex.proofs.row.narrow_quotient.Goals as goal

pub returns-then-number-eq0 : goal.returns-then-number-eq0
returns-then-number-eq0 c = record { value = search rules; narrow = search rules }

pub returns : goal.returns
returns c = record {
  value = narrow_quotient_kept c.args.by c.args.number c.requires.divides c.requires.narrow c.requires.small;
  narrow = grind arith;
}
