use Rattle.std.proofs.{Common.{◌≡◌, arith, ◌≤◌, ◌^◌, length, subst, unsigned_abs, ap, ◌∙◌}, lemmas.Nat.Gcd.{dvd-zero}}
use Rattle.gs_simplex.specs.Numbers.{at, IsDivisor}
use Rattle.gs_simplex.proofs.{Reduce.{one_more, one_of_all}, Fits.{kept_128}}
use Rattle.gs_simplex.proofs.row.divisor.Goals as goal

pub loop-number-init : goal.loop-number-init
loop-number-init c = record { divides = λ j l. absurd (omega arith); greatest = λ d l. dvd-zero d }

pub loop-number-preserved : goal.loop-number-preserved
loop-number-preserved c =
    let i = c.loop-number.number-index in
    let b : unsigned_abs (at c.args.mixed.now i) ≤ 2 ^ 125 = c.requires i c.loop-number-test.true in
    one_more (at c.args.mixed.now) i c.loop-number.found c.common_divisor-found.result c.unsigned_abs.result
    (c.unsigned_abs.ensures.value ∙ ap unsigned_abs (kept_128 (at c.args.mixed.now i) (omega (arith, b)))) c.common_divisor-found.ensures
    c.loop-number.invariant

pub returns-then-found-eq1 : goal.returns-then-found-eq1
returns-then-found-eq1 c = one_of_all (at c.args.mixed.now) c.loop-number.number-index (length c.args.mixed.now) c.loop-number.found
    (omega arith) c.if-found-eq1.true c.loop-number.invariant

pub returns : goal.returns
returns c =
    let all : c.loop-number.number-index ≡ length c.args.mixed.now = omega arith in
    subst (λ t. IsDivisor t (at c.args.mixed.now) c.loop-number.found) all c.loop-number.invariant
