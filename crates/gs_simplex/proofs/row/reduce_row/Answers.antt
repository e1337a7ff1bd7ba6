use Rattle.std.proofs.Common.{◌≡◌, ℕ, ◌+◌, ◌*◌, ◌<◌, ◌≤◌, ◌^◌, ℤ, pos, ◌-ℤ◌, ◌*ℤ◌, ◌<ℤ◌, unsigned_abs, length, slice_index, to_z, of_z, w64, sym, ap, subst}
use Rattle.std.proofs.{lemmas.Grind.{common_steps}, Common.{◌∙◌, arith}, lemmas.Nat.{mul-le}, lemmas.Bool.Decides.{when_true, when_false}}
use Rattle.gs_simplex.specs.{Rows.{IsNarrow}, Numbers.{at, IsShared, IsMultiple, IsQuotient, HasWideQuotient}, Support.{IsSupport, IsChange}}
use Rattle.gs_simplex.proofs.{Fits.{kept_64, narrow_passed, difference_bound}, Supports.{support_mixed, support_row}}
use Rattle.gs_simplex.proofs.Reduce.{kept_mixed, divisor_small, by_divides, mixed_times, reduced_from, reduced_wide}
use Rattle.gs_simplex.proofs.row.reduce_row.Goals.{After-mix, After-multipliers-own, After-touched-count}
use Rattle.gs_simplex.proofs.row.reduce_row.Goals as goal

-- a row with 0 in the column stays
stored_zero : (x : ℤ) → IsNarrow x → of_z w64 x ≡ 0 → x ≡ pos 0
stored_zero x h e = sym (kept_64 x h) ∙ ap (to_z w64) e

pub returns-then-row-lead-eq0 : goal.returns-then-row-lead-eq0
returns-then-row-lead-eq0 c =
    let q = c.requires in let l = c.args.lead.now in let lead = l.numbers.now in let row = c.args.row.now in
    let zero : at row l.column ≡ pos 0 = stored_zero (at row l.column) (q.narrow l.column (omega (arith, q.long, l.inside))) c.if-row-lead-eq0.true in
    (kept_mixed (at lead) (at row) l.column (length lead) l.own zero, q.narrow, q.bound)

-- the multipliers and the numbers that they are of are narrow as they are passed
pub multipliers-own-requires : goal.multipliers-own-requires
multipliers-own-requires c = record {
  own = let l = c.args.lead.now in let x = at l.numbers.now l.column in
      let P : ℤ → Type 0 = λ t. pos 0 <ℤ t in subst P (sym (kept_64 x (l.narrow l.column l.inside))) l.own;
  narrow_own = let l = c.args.lead.now in narrow_passed (at l.numbers.now l.column) (l.narrow l.column l.inside);
  narrow_far = let q = c.requires in let l = c.args.lead.now in narrow_passed (at c.args.row.now l.column) (q.narrow l.column (omega (arith, q.long, l.inside)));
}

pub stays_narrow-requires : goal.stays_narrow-requires
stays_narrow-requires c = record {
  narrow_own = narrow_passed c.multipliers-own.result.0 c.multipliers-own.ensures.narrow_own;
  narrow_far = narrow_passed c.multipliers-own.result.1 c.multipliers-own.ensures.narrow_far;
}

-- the places at which the row changes
changed : (c : After-touched-count) → let t = c.touched-count.result in let m = c.multipliers-own.result in
    IsChange t.0.now t.1 (length c.args.row.now) (at c.args.row.now) (at c.args.lead.now.numbers.now) (to_z w64 (of_z w64 m.0)) (to_z w64 (of_z w64 m.1))
changed c =
    let t = c.touched-count.result in let m = c.multipliers-own.result in let row = at c.args.row.now in let far = to_z w64 (of_z w64 m.1) in
    let P : ℕ → Type 0 = λ w. IsChange t.0.now t.1 w row (at c.args.lead.now.numbers.now) (to_z w64 (of_z w64 m.0)) far in
    subst P (sym c.requires.long) (c.touched-count.ensures row far c.requires.support)

pub known_or_greatest-near-requires-clause-narrow_own : goal.known_or_greatest-near-requires-clause-narrow_own
known_or_greatest-near-requires-clause-narrow_own c = narrow_passed c.multipliers-own.result.0 c.multipliers-own.ensures.narrow_own

pub known_or_greatest-near-requires-clause-narrow_far : goal.known_or_greatest-near-requires-clause-narrow_far
known_or_greatest-near-requires-clause-narrow_far c = narrow_passed c.multipliers-own.result.1 c.multipliers-own.ensures.narrow_far

pub known_or_greatest-near-requires-clause-support : goal.known_or_greatest-near-requires-clause-support
known_or_greatest-near-requires-clause-support c =
    let row = at c.args.row.now in
    let P : ℕ → Type 0 = λ w. IsSupport c.args.places.now c.args.found w row row in
    subst P (sym c.requires.long) (support_row c.args.places.now c.args.found (length c.args.lead.now.numbers.now) row
    (at c.args.lead.now.numbers.now) c.requires.support)

-- a bound on the numbers bounds their products
products_below : (a b x y most top : ℕ) → x ≤ most → y ≤ top → a * most + b * top < 2 ^ 62 → a * x + b * y < 2 ^ 62
products_below a b x y most top h k l = omega (arith, l, mul-le a x a most (omega arith) (omega (arith, h)), mul-le b y b top (omega arith) (omega (arith, k)))

pub lessen-requires-clause-support : goal.lessen-requires-clause-support
lessen-requires-clause-support c =
    let lead = c.args.lead.now.numbers.now in let row = c.args.row.now in let mid = c.mix_narrow.new.row in let m = c.multipliers-own in
    let P : ℕ → Type 0 = λ w. IsSupport c.args.places.now c.args.found w (at mid) (at mid) in
    subst P (sym (c.mix_narrow.auto.row ∙ c.requires.long))
    (support_mixed c.args.places.now c.args.found (length lead) (at row) (at lead) (at mid) (to_z w64 (of_z w64 m.result.0))
    (to_z w64 (of_z w64 m.result.1)) c.requires.support (λ j h. c.mix_narrow.ensures.mixed j (omega (arith, c.requires.long))))

pub lessen-requires-clause-bound : goal.lessen-requires-clause-bound
lessen-requires-clause-bound c = λ j h.
    let l = c.args.lead.now in let row = c.args.row.now in let m = c.multipliers-own.result in let most = c.known_or_greatest-near in
    let inside : j < length row = subst (λ n. j < n) c.mix_narrow.auto.row h in
    let e : at c.mix_narrow.new.row j ≡ to_z w64 (of_z w64 m.0) *ℤ at row j -ℤ to_z w64 (of_z w64 m.1) *ℤ at l.numbers.now j =
    c.mix_narrow.ensures.mixed j inside in
    let b : unsigned_abs (at c.mix_narrow.new.row j) ≤ unsigned_abs (to_z w64 (of_z w64 m.0)) * most.result + unsigned_abs (to_z w64 (of_z w64 m.1)) * l.most =
    (let P : ℤ → Type 0 = λ t. unsigned_abs t ≤ unsigned_abs (to_z w64 (of_z w64 m.0)) * most.result + unsigned_abs (to_z w64 (of_z w64 m.1)) * l.most in
    subst P (sym e) (difference_bound (to_z w64 (of_z w64 m.0)) (at row j) (to_z w64 (of_z w64 m.1)) (at l.numbers.now j) most.result l.most
    (most.ensures j inside) (l.bound j (subst (λ n. j < n) c.requires.long inside)))) in
    subst (λ t. unsigned_abs (at c.mix_narrow.new.row j) ≤ t) (sym c.mixed_most.ensures) b

pub narrow_into-requires-clause-small : goal.narrow_into-requires-clause-small
narrow_into-requires-clause-small c =
    let mixed = c.mix.new.mixed in
    let h : c.divisor.result ≤ 2 ^ 125 = divisor_small c.divisor.result (length mixed) (2 ^ 125) (at mixed) c.divisor.ensures c.mix.ensures.within in
    omega arith

pub narrow_into-requires-clause-divides : goal.narrow_into-requires-clause-divides
narrow_into-requires-clause-divides c =
    let mixed = c.mix.new.mixed in
    by_divides c.divisor.result c.max-by.result (length mixed) (at mixed) c.divisor.ensures c.max-by.ensures

-- the multipliers as they are stored
stored_shared : (lc rc own far : ℤ) → IsNarrow lc → IsNarrow rc → IsNarrow own → IsNarrow far
    → IsShared (to_z w64 (of_z w64 lc)) (to_z w64 (of_z w64 rc)) own far
    → IsShared lc rc (to_z w64 (of_z w64 own)) (to_z w64 (of_z w64 far))
stored_shared lc rc own far nl nr na nb sh = record {
  by = (
    sh.by.0,
    sh.by.1,
    sym (kept_64 lc nl) ∙ sh.by.2 ∙ ap (λ t. sh.by.0 *ℤ t) (sym (kept_64 own na)),
    sym (kept_64 rc nr) ∙ sh.by.3 ∙ ap (λ t. sh.by.0 *ℤ t) (sym (kept_64 far nb)),
  );
}

some_inside : (k n : ℕ) → k < n → 0 < n
some_inside k n h = omega arith

below_wide : (n : ℕ) → n < 2 ^ 62 → n ≤ 4611686018427387904
below_wide n h = omega arith

-- the multipliers as they are stored, of the two numbers in the column
shares : (c : After-multipliers-own) → let l = c.args.lead.now in let m = c.multipliers-own.result in
    IsShared (at l.numbers.now l.column) (at c.args.row.now l.column) (to_z w64 (of_z w64 m.0)) (to_z w64 (of_z w64 m.1))
shares c =
    let l = c.args.lead.now in let m = c.multipliers-own in
    stored_shared (at l.numbers.now l.column) (at c.args.row.now l.column) m.result.0 m.result.1 (l.narrow l.column l.inside)
    (c.requires.narrow l.column (subst (λ n. l.column < n) (sym c.requires.long) l.inside)) m.ensures.narrow_own m.ensures.narrow_far m.ensures.shared

pub returns-then-stays_narrow : goal.returns-then-stays_narrow
returns-then-stays_narrow c =
    let lead = c.args.lead.now.numbers.now in let row = c.args.row.now in let mid = c.mix_narrow.new.row in let m = c.multipliers-own.result in
    let long : length mid ≡ length lead = c.mix_narrow.auto.row ∙ c.requires.long in (
      mixed_times (at lead) (at row) (at mid) (at c.lessen.new.row) c.args.lead.now.column (length lead) (to_z w64 (of_z w64 m.0)) (to_z w64 (of_z w64 m.1))
          (shares (goal.at.returns-then-stays_narrow c).After-multipliers-own)
          (λ j l. c.mix_narrow.ensures.mixed j (subst (λ n. j < n) (sym c.requires.long) l))
          (let P : ℕ → Type 0 = λ t. IsMultiple t (at mid) (at c.lessen.new.row) in subst P long c.lessen.ensures.multiple),
      c.lessen.ensures.narrow,
      c.lessen.ensures.bound,
    )

-- the mixed row before it is divided
record IsUndivided (c : After-mix) : Type 0 where
  long : length c.mix.new.mixed ≡ length c.args.lead.now.numbers.now
  some : 0 < length c.args.lead.now.numbers.now
  shared : let l = c.args.lead.now in let m = c.multipliers-own.result in
      IsShared (at l.numbers.now l.column) (at c.args.row.now l.column) (to_z w64 (of_z w64 m.0)) (to_z w64 (of_z w64 m.1))
  is : let m = c.multipliers-own.result in (j : ℕ) → j < length c.args.lead.now.numbers.now
      → at c.mix.new.mixed j ≡ to_z w64 (of_z w64 m.0) *ℤ at c.args.row.now j -ℤ to_z w64 (of_z w64 m.1) *ℤ at c.args.lead.now.numbers.now j

mixed_is : (c : After-mix) → IsUndivided c
mixed_is c = record {
  long = c.mix.auto.mixed ∙ c.requires.room;
  some = some_inside c.args.lead.now.column (length c.args.lead.now.numbers.now) c.args.lead.now.inside;
  shared = shares (goal.at.After-mix c).After-multipliers-own;
  is = λ j l. c.mix.ensures.mixed j (subst (λ n. j < n) (sym c.requires.long) l);
}

pub returns-then-narrow_into : goal.returns-then-narrow_into
returns-then-narrow_into c =
    let lead = c.args.lead.now.numbers.now in let row = c.args.row.now in let mixed = c.mix.new.mixed in let m = c.multipliers-own.result in
    let h = mixed_is (goal.at.returns-then-narrow_into c).After-mix in
    let new = c.narrow_into.new.row in let q = when_true (IsQuotient c.max-by.result mixed new (length mixed)) (HasWideQuotient c.max-by.result mixed)
    c.if-narrow_into.true c.narrow_into.ensures in
    let same : length new ≡ length mixed = c.narrow_into.auto.row ∙ c.requires.long ∙ sym h.long in (
      (reduced_from (at lead) (at row) c.args.lead.now.column (length lead) c.divisor.result c.max-by.result (to_z w64 (of_z w64 m.0))
          (to_z w64 (of_z w64 m.1)) mixed h.shared h.some h.long h.is c.divisor.ensures c.max-by.ensures (at new)
          (λ j l. q.each j (subst (λ n. j < n) (sym h.long) l))).multiple,
      λ j l. q.narrow j (subst (λ n. j < n) same l),
      λ j l. below_wide (unsigned_abs (at new j)) (q.narrow j (subst (λ n. j < n) same l)),
    )

pub returns : goal.returns
returns c =
    let lead = c.args.lead.now.numbers.now in let mixed = c.mix.new.mixed in let m = c.multipliers-own.result in
    let h = mixed_is (goal.at.returns c).After-mix in
    let small : c.divisor.result ≤ 2 ^ 125 = divisor_small c.divisor.result (length mixed) (2 ^ 125) (at mixed) c.divisor.ensures c.mix.ensures.within in
    reduced_wide (at lead) (at c.args.row.now) c.args.lead.now.column (length lead) c.divisor.result c.max-by.result (to_z w64 (of_z w64 m.0))
    (to_z w64 (of_z w64 m.1)) mixed h.shared h.some h.long h.is c.divisor.ensures c.max-by.ensures
    (omega (arith, c.max-by.ensures)) (omega (arith, c.max-by.ensures)) c.mix.ensures.within
    (when_false (IsQuotient c.max-by.result mixed c.narrow_into.new.row (length mixed)) (HasWideQuotient c.max-by.result mixed) c.if-narrow_into.false
    c.narrow_into.ensures)

pub lessen-requires-clause-narrow : goal.lessen-requires-clause-narrow
lessen-requires-clause-narrow c = grind (arith, common_steps)

pub divisor-requires : goal.divisor-requires
divisor-requires c = grind (arith, common_steps)

pub mix_narrow-requires : goal.mix_narrow-requires
mix_narrow-requires c = record {
  same_length = grind (arith, common_steps);
  change = changed (goal.at.mix_narrow-requires c).After-touched-count;
  narrow_lead = grind (arith, common_steps);
  narrow_row = grind (arith, common_steps);
  narrow = λ k h.
      let l = c.args.lead.now in let j = slice_index c.touched-count.result.0.now k in
      let inside : j < length c.args.row.now = (changed (goal.at.mix_narrow-requires c).After-touched-count).inside k h in
      products_below _ _ (unsigned_abs (at c.args.row.now j)) (unsigned_abs (at l.numbers.now j)) c.known_or_greatest-near.result l.most
      (c.known_or_greatest-near.ensures j inside) (l.bound j (omega (arith, c.requires.long))) (c.stays_narrow.ensures c.if-stays_narrow.true);
}

pub mix-requires : goal.mix-requires
mix-requires c = record {
  same_length = grind (arith, common_steps);
  room = grind (arith, common_steps);
  narrow_lead = grind (arith, common_steps);
  narrow_row = grind (arith, common_steps);
  narrow_own = narrow_passed c.multipliers-own.result.0 c.multipliers-own.ensures.narrow_own;
  narrow_far = narrow_passed c.multipliers-own.result.1 c.multipliers-own.ensures.narrow_far;
}

pub narrow_into-requires-clause-room : goal.narrow_into-requires-clause-room
narrow_into-requires-clause-room c = grind (arith, common_steps)
