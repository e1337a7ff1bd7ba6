use Rattle.std.proofs.{lemmas.Grind.{common_steps}, Common.{◌*◌, unsigned_abs, ◌-ℤ◌, ◌*ℤ◌, w64, arith}, lemmas.Int.{fits_signed_from_abs}}
use Rattle.gs_simplex.proofs.Fits.{kept_64, narrow_product, narrow_difference}
use Rattle.gs_simplex.proofs.row.narrow_mixed_number.Goals as goal

pub overflow_sub-result : goal.overflow_sub-result
overflow_sub-result c =
    let a = c.args in let r = c.ranges in
    rw (
      narrow_product a.own a.x (unsigned_abs a.far * unsigned_abs a.y) c.requires r.own r.x,
      narrow_product a.far a.y (unsigned_abs a.own * unsigned_abs a.x)
          (omega (arith, c.requires)) r.far r.y,
    )
    (fits_signed_from_abs w64 (a.own *ℤ a.x -ℤ a.far *ℤ a.y) (omega (arith, narrow_difference a.own a.x a.far a.y c.requires)))

pub returns-clause-value : goal.returns-clause-value
returns-clause-value c =
    let a = c.args in let r = c.ranges in
    rw (
      narrow_product a.own a.x (unsigned_abs a.far * unsigned_abs a.y) c.requires r.own r.x,
      narrow_product a.far a.y (unsigned_abs a.own * unsigned_abs a.x)
          (omega (arith, c.requires)) r.far r.y,
    )
    (kept_64 (a.own *ℤ a.x -ℤ a.far *ℤ a.y) (narrow_difference a.own a.x a.far a.y c.requires))

pub returns-clause-narrow : goal.returns-clause-narrow
returns-clause-narrow c = let a = c.args in rw (returns-clause-value c) (narrow_difference a.own a.x a.far a.y c.requires)

pub overflow_mul-result : goal.overflow_mul-result
overflow_mul-result c = grind (arith, common_steps)
