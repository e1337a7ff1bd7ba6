use Rattle.std.proofs.Common.{◌≡◌, arith, ◌+◌, ◌<◌, ◌-◌, ◌^◌, ℕ, ℤ, List, pos, length, slice_index, subst, unsigned_abs, sym, ap, ◌∙◌, to_z, of_z, w64}
use Rattle.std.proofs.{lemmas.Int.{to_z_pos}, lemmas.Nat.Gcd.{dvd-zero}}
use Prim.Native.Nat.{◌∣◌}
use Rattle.gs_simplex.specs.{Support.{IsSupport}, Numbers.{at, IsDivisor}}
use Rattle.gs_simplex.proofs.{Reduce.{nothing_common, one_more, one_of_all, one_zero}, Fits.{kept_64, narrow_passed}, Supports.{everywhere}}
use Rattle.gs_simplex.proofs.row.narrow_divisor.Goals.{After-narrow_common_divisor-common, In-loop-k}
use Rattle.gs_simplex.proofs.row.narrow_divisor.Goals as goal

-- the number at a place, from the last one on
abbrev from_last : List ℤ → List ℕ → ℕ → ℕ → ℤ
from_last row places found h = at row (slice_index places (found - 1 - h))

-- the divisor of the numbers at the places is that of the row
of_row : (row : List ℤ) (places : List ℕ) (found d : ℕ) → IsSupport places found (length row) (at row) (at row) → IsDivisor found (from_last row places found) d
    → IsDivisor (length row) (at row) d
of_row row places found d s u = record {
  divides = everywhere (λ j (z : ℤ). d ∣ unsigned_abs z) places found (length row) (at row) (at row) s
      (λ k h. let q : found - 1 - (found - 1 - k) ≡ k = omega (arith, h) in subst (λ t. d ∣ unsigned_abs (at row (slice_index places t))) q
      (u.divides (found - 1 - k) (omega (arith, h)))) (λ j. dvd-zero _);
  greatest = λ e h. u.greatest e (λ i l. h (slice_index places (found - 1 - i)) (s.inside (found - 1 - i) (omega (arith, l))));
}

-- the number here is narrow, and the divisor is that of one more
narrow_here : (c : In-loop-k) → unsigned_abs (from_last c.args.row.now c.args.places.now c.args.found c.loop-k.k) < 2 ^ 62
narrow_here c = let j = c.args.found - 1 - c.loop-k.k in c.requires.narrow (slice_index c.args.places.now j)
    (c.requires.support.inside j (omega (arith, c.loop-k-test.true)))

more : (c : After-narrow_common_divisor-common) → IsDivisor (c.loop-k.k + 1) (from_last c.args.row.now c.args.places.now c.args.found)
    (unsigned_abs c.narrow_common_divisor-common.result.number)
more c =
    let f = from_last c.args.row.now c.args.places.now c.args.found in
    one_more f c.loop-k.k (unsigned_abs c.loop-k.common.number) _ _
    (ap unsigned_abs (kept_64 (f c.loop-k.k) (narrow_here (goal.at.After-narrow_common_divisor-common c).In-loop-k)))
    c.narrow_common_divisor-common.ensures.divisor c.loop-k.invariant.all

pub loop-k-init : goal.loop-k-init
loop-k-init c = let h = nothing_common (from_last c.args.row.now c.args.places.now c.args.found) c.of-common.result.number c.of-common.ensures in record
    { all = h.0; narrow = h.1 }

pub loop-k-preserved-then-number-eq0 : goal.loop-k-preserved-then-number-eq0
loop-k-preserved-then-number-eq0 c =
    let f = from_last c.args.row.now c.args.places.now c.args.found in
    let k = c.loop-k.k in
    let z : f k ≡ pos 0 = sym (kept_64 (f k) (narrow_here (goal.at.loop-k-preserved-then-number-eq0 c).In-loop-k)) ∙ ap (to_z w64) c.if-number-eq0.true
    ∙ to_z_pos w64 0 (omega arith) in
    record { all = one_zero f k _ z c.loop-k.invariant.all; narrow = c.loop-k.invariant.narrow }

pub narrow_common_divisor-common-requires-clause-some : goal.narrow_common_divisor-common-requires-clause-some
narrow_common_divisor-common-requires-clause-some c = λ e.
    let here = narrow_here (goal.at.narrow_common_divisor-common-requires-clause-some c).In-loop-k in
    c.if-number-eq0.false (ap (of_z w64) (sym (kept_64 (from_last c.args.row.now c.args.places.now c.args.found c.loop-k.k) here) ∙ e))

pub loop-k-preserved : goal.loop-k-preserved
loop-k-preserved c = record {
  all = more (goal.at.loop-k-preserved c).After-narrow_common_divisor-common;
  narrow =
      c.narrow_common_divisor-common.ensures.narrow;
}

pub returns-then-unsigned_abs-eq1 : goal.returns-then-unsigned_abs-eq1
returns-then-unsigned_abs-eq1 c =
    let n = c.narrow_common_divisor-common in
    let e : unsigned_abs n.result.number ≡ 1 = sym (ap unsigned_abs (kept_64 n.result.number n.ensures.narrow)) ∙ sym c.unsigned_abs.ensures.value
    ∙ c.if-unsigned_abs-eq1.true in
    of_row c.args.row.now c.args.places.now c.args.found 1 c.requires.support
    (one_of_all (from_last c.args.row.now c.args.places.now c.args.found) (c.loop-k.k + 1) c.args.found _ (omega (arith, c.loop-k-test.true)) e
    (more (goal.at.returns-then-unsigned_abs-eq1 c).After-narrow_common_divisor-common))

pub returns : goal.returns
returns c =
    let v = c.loop-k.invariant in
    let f = from_last c.args.row.now c.args.places.now c.args.found in
    let e : unsigned_abs c.loop-k.common.number ≡ c.unsigned_abs-2.result =
    sym (c.unsigned_abs-2.ensures.value ∙ ap unsigned_abs (kept_64 c.loop-k.common.number v.narrow)) in
    let all : c.loop-k.k ≡ c.args.found = omega arith in
    of_row c.args.row.now c.args.places.now c.args.found c.unsigned_abs-2.result c.requires.support
    (subst (λ t. IsDivisor t f c.unsigned_abs-2.result) all (subst (λ t. IsDivisor c.loop-k.k f t) e v.all))

back_in : (k n : ℕ) → k < n → n - 1 - k < n
back_in k n h = omega (arith, h)

pub narrow_common_divisor-common-requires-clause-narrow : goal.narrow_common_divisor-common-requires-clause-narrow
narrow_common_divisor-common-requires-clause-narrow c =
    let n = c.args.found in let i = n - 1 - c.loop-k.k in let j = slice_index c.args.places.now i in
    narrow_passed (at c.args.row.now j) (c.requires.narrow j (c.requires.support.inside i (back_in c.loop-k.k n c.loop-k-test.true)))

pub bounds-row-places : goal.bounds-row-places
bounds-row-places c = grind arith
