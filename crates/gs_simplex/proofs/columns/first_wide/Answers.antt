use Rattle.std.proofs.Common.{◌≡◌, ◌≢◌, ℕ, ◌+◌, ◌<◌, ◌≤◌, ◌^◌, inl, inr, List, length, slice_index, ℤ, pos, ◌*ℤ◌, unsigned_abs, to_z, of_z, sym, ap, subst}
use Rattle.std.proofs.{Common.{◌∙◌, arith, below_more}, lemmas.Int.{ints}}
use mir.Syntax.{w128}
use Prim.Native.Nat.{◌∣◌}
use Rattle.gs_simplex.specs.{Rows.{IsNarrow}, Numbers.{at}, Columns.{place_in, in_columns, IsTimes}}
use Rattle.gs_simplex.proofs.{Ring.{cancel}, Guesses.{quotient_divides}, Fits.{kept_128}, Standing.{placed, number_inside, number_none}}
use Rattle.gs_simplex.proofs.columns.first_wide.Goals as goal
use Rattle.gs_simplex.proofs.columns.first_wide.Goals.{After-quotient-number}

-- a place is inside, or it is for none
place_below : (m w s i : ℕ) → s < m + w → place_in m w s i ≢ w → place_in m w s i < w
place_below m w s i h ne = elim (placed m w s i).place [
  | inl a ↦ omega (arith, a.0, a.1)
  | inr x ↦ elim x [ inl b ↦ omega (arith, b.1, b.2) | inr d ↦ absurd (ne d.2) ]
]

-- the quotient at a place is the number of each row of which the products are multiples
module _ (m : ℕ) (s : List ℕ) (mixed : List ℤ) (i by j k : ℕ) (z : ℤ) (some : 0 < by) (e : k ≡ place_in m (length mixed) (slice_index s j) i)
    (inside : k < length mixed) (is : at mixed k ≡ pos by *ℤ z) where
  pub number_is : (row : ℕ → ℤ) → IsTimes by mixed row → in_columns m (length mixed) (slice_index s) i row j ≡ z
  number_is row u =
      let P : ℕ → Type 0 = λ t. t < length mixed in
      number_inside (length mixed) row (place_in m (length mixed) (slice_index s j) i) (subst P e inside) ∙ ap row (sym e)
      ∙ cancel (pos by) (row k) z (omega (arith, ints)) (sym (u k inside) ∙ is)

within_at : (c : After-quotient-number) → c.place_of-place.result < length c.args.mixed.now
within_at c =
    let s = c.args.stands.now in let w = length c.args.mixed.now in let e = c.place_of-place.ensures in
    let ne : place_in c.args.rows w (slice_index s c.loop-j.j) c.args.i ≢ w = λ z. c.if-place-mixed.false (e ∙ z) in
    let P : ℕ → Type 0 = λ t. t < w in
    subst P (sym e) (place_below c.args.rows w (slice_index s c.loop-j.j) c.args.i (c.requires.inside c.loop-j.j c.loop-j-test.true) ne)

kept : (c : After-quotient-number) → to_z w128 (of_z w128 (at c.args.mixed.now c.place_of-place.result)) ≡ at c.args.mixed.now c.place_of-place.result
kept c = kept_128 (at c.args.mixed.now c.place_of-place.result) (omega (arith, c.requires.within c.place_of-place.result (within_at c)))

number_at : (c : After-quotient-number) (row : ℕ → ℤ) → IsTimes c.args.by c.args.mixed.now row
    → in_columns c.args.rows (length c.args.mixed.now) (slice_index c.args.stands.now) c.args.i row c.loop-j.j ≡ c.quotient-number.result
number_at c row u =
    number_is c.args.rows c.args.stands.now c.args.mixed.now c.args.i c.args.by c.loop-j.j c.place_of-place.result c.quotient-number.result c.requires.some
    c.place_of-place.ensures (within_at c) (sym (kept c) ∙ c.quotient-number.ensures.value) row u

pub quotient-number-requires-clause-divides : goal.quotient-number-requires-clause-divides
quotient-number-requires-clause-divides c =
    let s = c.args.stands.now in let mixed = c.args.mixed.now in let w = length mixed in let e = c.place_of-place.ensures in
    let ne : place_in c.args.rows w (slice_index s c.loop-j.j) c.args.i ≢ w = λ z. c.if-place-mixed.false (e ∙ z) in
    let P : ℕ → Type 0 = λ t. t < w in
    let k = c.place_of-place.result in
    let inside : k < w = subst P (sym e) (place_below c.args.rows w (slice_index s c.loop-j.j) c.args.i (c.requires.inside c.loop-j.j c.loop-j-test.true) ne) in
    let f = c.requires.wide.found in
    let Q : ℤ → Type 0 = λ t. c.args.by ∣ unsigned_abs t in
    subst Q (sym (kept_128 (at mixed k) (omega (arith, c.requires.within k inside)))) (quotient_divides (at mixed k) (pos c.args.by) (f.0 k) (f.1 k inside))

pub returns-then-unsigned_abs-ge-WIDE-clause-first : goal.returns-then-unsigned_abs-ge-WIDE-clause-first
returns-then-unsigned_abs-ge-WIDE-clause-first c = λ row u.
    let w = (goal.at.returns-then-unsigned_abs-ge-WIDE-clause-first c).After-quotient-number in
    let z = c.quotient-number.result in
    let same : to_z w128 (of_z w128 z) ≡ z = kept_128 z (omega (arith, c.quotient-number.ensures.small_result)) in
    let P : ℤ → Type 0 = λ t. unsigned_abs t ≤ 2 ^ 125 in
    record {
      inside = c.loop-j-test.true;
      here = number_at w row u ∙ sym same;
      size = subst P (sym same) c.quotient-number.ensures.small_result;
      wide = λ n. (let b : 2 ^ 62 ≤ c.unsigned_abs.result = omega arith in let v = c.unsigned_abs.ensures.value in absurd (omega (arith, n, v, b)));
      before = λ k l. c.loop-j.invariant k l row u;
    }

pub loop-j-preserved : goal.loop-j-preserved
loop-j-preserved c =
    let w = (goal.at.loop-j-preserved c).After-quotient-number in
    let N : ℕ → Type 0 = λ k. (row : ℕ → ℤ) → IsTimes c.args.by c.args.mixed.now row
    → IsNarrow (in_columns c.args.rows (length c.args.mixed.now) (slice_index c.args.stands.now) c.args.i row k) in
    below_more N c.loop-j.j c.loop-j.invariant (λ row u. let z = c.quotient-number.result in
    let same : to_z w128 (of_z w128 z) ≡ z = kept_128 z (omega (arith, c.quotient-number.ensures.small_result)) in
    let n : unsigned_abs z < 2 ^ 62 = omega (arith, c.unsigned_abs.ensures.value, ap unsigned_abs same) in
    let P : ℤ → Type 0 = λ t. IsNarrow t in subst P (sym (number_at w row u)) n)

pub quotient-number-requires-clause-within : goal.quotient-number-requires-clause-within
quotient-number-requires-clause-within c = grind arith

pub loop-j-preserved-then-place-mixed : goal.loop-j-preserved-then-place-mixed
loop-j-preserved-then-place-mixed c =
    let w = length c.args.mixed.now in let k = place_in c.args.rows w (slice_index c.args.stands.now c.loop-j.j) c.args.i in
    let N : ℕ → Type 0 = λ h. (row : ℕ → ℤ) → IsTimes c.args.by c.args.mixed.now row
    → IsNarrow (in_columns c.args.rows w (slice_index c.args.stands.now) c.args.i row h) in
    let P : ℤ → Type 0 = λ t. IsNarrow t in
    let none : w ≤ k = omega (arith, c.place_of-place.ensures, c.if-place-mixed.true) in
    below_more N c.loop-j.j c.loop-j.invariant (λ row u. subst P (sym (number_none w row k none)) (omega arith))

pub offset_bounds-mixed-place : goal.offset_bounds-mixed-place
offset_bounds-mixed-place c = grind arith

pub unreachable-requires : goal.unreachable-requires
unreachable-requires c = grind arith
