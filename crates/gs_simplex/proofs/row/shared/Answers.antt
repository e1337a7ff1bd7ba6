use Rattle.std.proofs.{Common.{◌≡◌, ℕ, unsigned_abs, w64, ap, subst, ◌∙◌, arith}, Math.Nat.{one-dvd}, lemmas.Int.{ints, to_z-of_z}}
use Prim.Native.Nat.{◌∣◌}
use Rattle.gs_simplex.proofs.Reduce.{divisor_bounds}
use Rattle.gs_simplex.proofs.row.shared.Goals as goal

pub returns-then-own-eq1-clause-of_far : goal.returns-then-own-eq1-clause-of_far
returns-then-own-eq1-clause-of_far c = one-dvd _

pub returns-clause-of_own : goal.returns-clause-of_own
returns-clause-of_own c =
    let e : c.unsigned_abs-2.result ≡ unsigned_abs c.args.own = c.unsigned_abs-2.ensures.value ∙ ap unsigned_abs (to_z-of_z w64 c.args.own c.ranges.own) in
    let P : ℕ → Type 0 = λ t. c.short_gcd.result ∣ t in subst P e c.short_gcd.ensures.1

pub returns-clause-of_far : goal.returns-clause-of_far
returns-clause-of_far c =
    let e : c.unsigned_abs.result ≡ unsigned_abs c.args.far = c.unsigned_abs.ensures.value ∙ ap unsigned_abs (to_z-of_z w64 c.args.far c.ranges.far) in
    let P : ℕ → Type 0 = λ t. c.short_gcd.result ∣ t in subst P e c.short_gcd.ensures.0

pub returns-clause-some : goal.returns-clause-some
returns-clause-some c = (divisor_bounds c.short_gcd.result (unsigned_abs c.args.own) (omega (arith, ints, c.requires.own)) c.requires.narrow
    (returns-clause-of_own c)).0

pub returns-clause-small : goal.returns-clause-small
returns-clause-small c = (divisor_bounds c.short_gcd.result (unsigned_abs c.args.own) (omega (arith, ints, c.requires.own)) c.requires.narrow
    (returns-clause-of_own c)).1
