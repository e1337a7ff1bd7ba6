use Rattle.std.proofs.Common.{refl}
use Rattle.gs_strategy.specs.{Reading.{numbers_at}, Views.{numbers_of, whole_view}}
use Rattle.gs_strategy.proofs.Steps.{exit}
use Rattle.gs_strategy.proofs.reading.verdict_of.Goals as goal

pub returns-in_err-value : goal.returns-in_err-value
unfolding numbers_at
returns-in_err-value c = exit numbers_of (numbers_at (whole_view c.args.parts.now)) _ _ c.from_residual.ensures.1 (rw c.in_err-value.ensures refl)

pub returns-in_err-gap1 : goal.returns-in_err-gap1
unfolding numbers_at
returns-in_err-gap1 c =
    exit numbers_of (numbers_at (whole_view c.args.parts.now)) _ _ c.from_residual-in_err-gap1.ensures.1
    (rw (c.in_ok-value.ensures, c.in_err-gap1.ensures) refl)

pub returns-in_err-gap2 : goal.returns-in_err-gap2
unfolding numbers_at
returns-in_err-gap2 c =
    exit numbers_of (numbers_at (whole_view c.args.parts.now)) _ _ c.from_residual-in_err-gap2.ensures.1
    (rw (c.in_ok-value.ensures, c.in_ok-gap1.ensures, c.in_err-gap2.ensures) refl)

pub returns : goal.returns
unfolding numbers_at
returns c = rw (c.in_ok-value.ensures, c.in_ok-gap1.ensures, c.in_ok-gap2.ensures) refl
