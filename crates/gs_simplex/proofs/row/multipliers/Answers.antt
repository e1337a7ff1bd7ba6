use Rattle.std.proofs.lemmas.Grind.{common_steps}
use Rattle.std.proofs.{Common.{pos, ◌*ℤ◌, sym, ap, ◌∙◌, arith}, lemmas.Int.{ints}}
use Rattle.gs_simplex.proofs.Fits.{kept_64, narrow_passed}
use Rattle.gs_simplex.proofs.row.multipliers.Goals as goal

pub returns-clause-shared : goal.returns-clause-shared
returns-clause-shared c =
    let by = c.shared-by.result in let a = c.narrow_quotient in let b = c.narrow_quotient-2 in
    record {
      by = (
        pos by,
        omega (arith, ints, c.shared-by.ensures.some),
        sym (kept_64 c.args.own c.requires.narrow_own) ∙ a.ensures.value ∙ ap (λ t. pos by *ℤ t) (sym (kept_64 a.result a.ensures.narrow)),
        sym (kept_64 c.args.far c.requires.narrow_far) ∙ b.ensures.value ∙ ap (λ t. pos by *ℤ t) (sym (kept_64 b.result b.ensures.narrow)),
      );
    }

pub returns-clause-narrow_own : goal.returns-clause-narrow_own
returns-clause-narrow_own c = grind (arith, common_steps)

pub narrow_quotient-requires : goal.narrow_quotient-requires
narrow_quotient-requires c =
    let s = c.shared-by.ensures in record { some = s.some; small = s.small; narrow = narrow_passed c.args.own c.requires.narrow_own; divides = s.of_own }

pub narrow_quotient-requires-2 : goal.narrow_quotient-requires-2
narrow_quotient-requires-2 c =
    let s = c.shared-by.ensures in record { some = s.some; small = s.small; narrow = narrow_passed c.args.far c.requires.narrow_far; divides = s.of_far }
