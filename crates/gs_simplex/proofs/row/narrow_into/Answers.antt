use Rattle.std.proofs.Common.{arith, ◌+◌, ◌≡◌, ◌<◌, ◌≤◌, ◌^◌, ◌*ℤ◌, ℕ, ℤ, pos, List, length, set, subst, unsigned_abs, sym, ap, ◌∙◌, to_z, of_z, w64}
use Rattle.std.proofs.Common.{get_or-set_other, get_or-set_same, below_more}
use mir.Syntax.{w128}
use Prim.Native.Nat.{◌∣◌}
use Rattle.gs_simplex.specs.Numbers.{at, IsQuotient, HasWideQuotient}
use Rattle.gs_simplex.proofs.Fits.{kept_128, stored}
use Rattle.gs_simplex.proofs.row.narrow_into.Goals as goal

pub quotient-number-requires-clause-divides : goal.quotient-number-requires-clause-divides
quotient-number-requires-clause-divides c =
    let i = c.loop-j.j in
    let b : unsigned_abs (at c.args.mixed.now i) ≤ 2 ^ 125 = c.requires.within i c.loop-j-test.true in
    let P : ℤ → Type 0 = λ t. c.args.by ∣ unsigned_abs t in
    subst P (sym (kept_128 (at c.args.mixed.now i) (omega (arith, b)))) (c.requires.divides i c.loop-j-test.true)

-- the quotient of place j is z
quotient_at : (by : ℕ) (mixed : List ℤ) (j : ℕ) (z : ℤ) → unsigned_abs (at mixed j) ≤ 2 ^ 125 → to_z w128 (of_z w128 (at mixed j)) ≡ pos by *ℤ z
    → at mixed j ≡ pos by *ℤ z
quotient_at by mixed j z h e = sym (kept_128 (at mixed j) (omega (arith, h))) ∙ e

broad : (by : ℕ) (mixed : List ℤ) (j : ℕ) (z : ℤ) (m : ℕ) → j < length mixed → at mixed j ≡ pos by *ℤ z → unsigned_abs z ≤ 2 ^ 125
    → m ≡ unsigned_abs (to_z w128 (of_z w128 z)) → 2 ^ 62 ≤ m → HasWideQuotient by mixed
broad by mixed j z m h e s f g = record {
  found = (j, z, h, e, λ n. (let k : unsigned_abs (to_z w128 (of_z w128 z)) ≡ unsigned_abs z = ap unsigned_abs (kept_128 z (omega (arith, s))) in omega arith));
}

more : (by : ℕ) (mixed row : List ℤ) (j : ℕ) (z : ℤ) (m : ℕ) → j < length row → at mixed j ≡ pos by *ℤ z → unsigned_abs z ≤ 2 ^ 125
    → m ≡ unsigned_abs (to_z w128 (of_z w128 z)) → m < 2 ^ 62 → IsQuotient by mixed row j
    → IsQuotient by mixed (set row j (to_z w64 (of_z w64 (to_z w128 (of_z w128 z))))) (j + 1)
more by mixed row j z m h e s f g inv =
    let k : unsigned_abs (to_z w128 (of_z w128 z)) ≡ unsigned_abs z = ap unsigned_abs (kept_128 z (omega (arith, s))) in
    let narrow : unsigned_abs z < 2 ^ 62 = omega arith in
    let new = set row j (to_z w64 (of_z w64 (to_z w128 (of_z w128 z)))) in
    let here : at new j ≡ z = get_or-set_same row j (to_z w64 (of_z w64 (to_z w128 (of_z w128 z)))) (pos 0) h ∙ stored z narrow in
    let other : (i : ℕ) → i < j → at new i ≡ at row i = λ i l. get_or-set_other row j i (to_z w64 (of_z w64 (to_z w128 (of_z w128 z)))) (pos 0)
    (λ q. omega arith) in
    record {
      each = below_more (λ i. at mixed i ≡ pos by *ℤ at new i) j (λ i l. inv.each i l ∙ ap (λ t. pos by *ℤ t) (sym (other i l)))
          (e ∙ ap (λ t. pos by *ℤ t) (sym here));
      narrow = below_more (λ i. unsigned_abs (at new i) < 2 ^ 62) j
          (λ i l. let P : ℤ → Type 0 = λ t. unsigned_abs t < 2 ^ 62 in subst P (sym (other i l)) (inv.narrow i l))
          (let P : ℤ → Type 0 = λ t. unsigned_abs t < 2 ^ 62 in subst P (sym here) narrow);
    }

pub returns-then-unsigned_abs-ge-WIDE : goal.returns-then-unsigned_abs-ge-WIDE
returns-then-unsigned_abs-ge-WIDE c =
    broad c.args.by c.args.mixed.now c.loop-j.j c.quotient-number.result c.unsigned_abs.result c.loop-j-test.true
    (quotient_at c.args.by c.args.mixed.now c.loop-j.j c.quotient-number.result (c.requires.within c.loop-j.j c.loop-j-test.true)
    c.quotient-number.ensures.value) c.quotient-number.ensures.small_result
    c.unsigned_abs.ensures.value (omega arith)

pub loop-j-preserved : goal.loop-j-preserved
loop-j-preserved c =
    more c.args.by c.args.mixed.now c.loop-j.row c.loop-j.j c.quotient-number.result c.unsigned_abs.result (omega arith)
    (quotient_at c.args.by c.args.mixed.now c.loop-j.j c.quotient-number.result (c.requires.within c.loop-j.j c.loop-j-test.true)
    c.quotient-number.ensures.value) c.quotient-number.ensures.small_result
    c.unsigned_abs.ensures.value (omega arith) c.loop-j.invariant

pub returns : goal.returns
returns c = grind arith

pub overflow_cast-row : goal.overflow_cast-row
overflow_cast-row c = grind arith

pub quotient-number-requires-clause-within : goal.quotient-number-requires-clause-within
quotient-number-requires-clause-within c = grind arith
