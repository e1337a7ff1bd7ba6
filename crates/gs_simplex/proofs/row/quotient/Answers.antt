use Rattle.std.proofs.{lemmas.Grind.{common_steps}, Common.{◌<◌, ◌^◌, unsigned_abs, w64, ap, arith}, lemmas.Int.{to_z_pos}}
use Rattle.gs_simplex.proofs.Fits.{quotient_kept, quotient_within, quotient_64, stored, kept_128}
use Rattle.gs_simplex.proofs.row.quotient.Goals as goal

pub returns-clause-value : goal.returns-clause-value
returns-clause-value c = quotient_kept c.args.by c.args.number c.requires.divides c.requires.within c.requires.small

pub returns-clause-small_result : goal.returns-clause-small_result
returns-clause-small_result c = quotient_within c.args.by c.args.number c.requires.within c.requires.small

pub returns-then-unsigned_abs-lt-WIDE-clause-value : goal.returns-then-unsigned_abs-lt-WIDE-clause-value
returns-then-unsigned_abs-lt-WIDE-clause-value c =
    let z = c.args.number in
    let small : unsigned_abs z < 2 ^ 62 = omega (
      arith,
      c.if-unsigned_abs-lt-WIDE.true,
      c.unsigned_abs.ensures.value,
      ap unsigned_abs (kept_128 z
          (omega (arith, c.requires.within))),
    ) in
    quotient_64 c.args.by z _ c.from.result _ c.requires.divides small c.if-by-lt-WIDE.true (stored z small)
    (to_z_pos w64 c.args.by (omega (arith, c.if-by-lt-WIDE.true))) c.from.ensures

pub nonzero_div-number : goal.nonzero_div-number
nonzero_div-number c = grind (arith, common_steps)

pub returns-then-unsigned_abs-lt-WIDE-clause-small_result : goal.returns-then-unsigned_abs-lt-WIDE-clause-small_result
returns-then-unsigned_abs-lt-WIDE-clause-small_result c = grind arith

pub overflow_cast-number : goal.overflow_cast-number
overflow_cast-number c = grind arith
