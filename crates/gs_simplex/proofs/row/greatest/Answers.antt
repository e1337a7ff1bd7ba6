use Rattle.std.proofs.Common.{◌≤◌, ℤ, length, unsigned_abs, arith}
use Rattle.gs_simplex.specs.Numbers.{at}
use Rattle.gs_simplex.proofs.Supports.{everywhere}
use Rattle.gs_simplex.proofs.row.greatest.Goals as goal

pub returns : goal.returns
returns c =
    let row = c.args.row.now in
    everywhere (λ j (z : ℤ). unsigned_abs z ≤ c.loop-k.most) c.args.places.now c.args.found (length row) (at row) (at row) c.requires.support
    (λ k h. c.loop-k.invariant k (omega arith)) (λ j. omega arith)

pub loop-k-preserved : goal.loop-k-preserved
loop-k-preserved c = grind arith
