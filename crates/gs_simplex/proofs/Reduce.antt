-- A row divided by the greatest common divisor of its numbers: it is primitive, and after a pivot it is the row reduced by the lead.
use Rattle.std.proofs.Common.{◌≡◌, ℕ, zero, suc, ◌+◌, ◌-◌, ◌*◌, ◌/◌, ◌<◌, ◌≤◌, ◌^◌, ◌⊎◌, inl, inr, List, length, ℤ, pos, ◌-ℤ◌, ◌*ℤ◌, ◌<ℤ◌, unsigned_abs, max}
use Rattle.std.proofs.Common.{sym, ap, subst, ◌∙◌, arith, below_more}
use Rattle.std.proofs.{lemmas.Bool.{cases_eq}, lemmas.Int.{ints, unsigned_abs-mul}, lemmas.Nat.Gcd.{dvd_refl, dvd-zero, dvd_trans}}
use Rattle.std.proofs.Math.Nat.{eq-one_of_dvd-one, one-dvd, eq-zero_of_zero-dvd, mul-dvd-mul_left, dvd_of_mul-dvd-mul_left, le_of_dvd, le-div_iff_mul-le}
use Prim.Native.Nat.{◌∣◌}
use Rattle.std.specs.Int.{IsGcd}
use Rattle.gs_simplex.proofs.{Ring.{ring, linear, one_times, times_pos, times_times, cancel, cancel_zero}, Sums.{cases_last}}
use Rattle.gs_simplex.proofs.Primitive.{over, over_times, zero_abs}
use Rattle.gs_simplex.specs.{Rows.{IsNarrow, IsPrimitive}, Numbers.{IsMixed, IsReduced, IsWideReduced}}
use Rattle.gs_simplex.specs.Numbers.{at, AreNarrowNumbers, AllAtMost, IsAtMost, IsDivisor, IsShared, IsQuotient, HasWideQuotient, IsMultiple, IsDivided}

-- one more number among those divided, which may be 0
pub one_more : (f : ℕ → ℤ) (i found next m : ℕ) → m ≡ unsigned_abs (f i) → IsGcd found m next → IsDivisor i f found → IsDivisor (i + 1) f next
one_more f i found next m e g u = record {
  divides = below_more (λ j. next ∣ unsigned_abs (f j)) i (λ j h. dvd_trans next g.0 (u.divides j h)) (let P : ℕ → Type 0 = λ t. next ∣ t in subst P e g.1);
  greatest = λ d h. g.2 d (u.greatest d (λ j l. h j (omega arith))) (let P : ℕ → Type 0 = λ t. d ∣ t in subst P (sym e) (h i (omega arith)));
}

pub one_zero : (f : ℕ → ℤ) (i d : ℕ) → f i ≡ pos 0 → IsDivisor i f d → IsDivisor (i + 1) f d
one_zero f i d z u = one_more f i d d 0 (sym (ap unsigned_abs z)) (dvd_refl d, dvd-zero d, λ e h k. h) u

-- where 1 is the greatest divisor of the first numbers, it is that of all
pub one_of_all : (f : ℕ → ℤ) (i count d : ℕ) → i ≤ count → d ≡ 1 → IsDivisor i f d → IsDivisor count f 1
one_of_all f i count d few e u = record {
  divides = λ j h. one-dvd _;
  greatest = λ k h. let P : ℕ → Type 0 = λ t. k ∣ t in subst P e (u.greatest k (λ j l. h j (omega arith)));
}

-- a number other than 0, or zeros all along
some_nonzero : (n : ℕ) (f : ℕ → ℤ) → ((j : ℕ) × (j < n) × (unsigned_abs (f j) ≡ 0 → ⊥)) ⊎ ((j : ℕ) → j < n → f j ≡ pos 0)
some_nonzero zero f = inr (λ j h. absurd (omega arith))
some_nonzero (suc n) f = elim (cases_eq (unsigned_abs (f n)) 0) [
  | inr ne ↦ inl (n, omega arith, ne)
  | inl e ↦ elim (some_nonzero n f) [
    | inl w ↦ inl (w.0, omega (arith, w.1), w.2)
    | inr z ↦ inr (λ j h. elim (cases_last j n h) [ inl l ↦ z j l | inr s ↦ ap f s ∙ zero_abs (f n) e ])
  ]
]

zero_divides : (d count : ℕ) (f : ℕ → ℤ) → IsDivisor count f d → d ≡ 0 → (j : ℕ) → j < count → f j ≡ pos 0
zero_divides d count f u e j h = zero_abs (f j) (eq-zero_of_zero-dvd (let P : ℕ → Type 0 = λ t. t ∣ unsigned_abs (f j) in subst P e (u.divides j h)))

pub divisor_small : (d count bound : ℕ) (f : ℕ → ℤ) → IsDivisor count f d → ((j : ℕ) → j < count → unsigned_abs (f j) ≤ bound) → d ≤ bound
divisor_small d count bound f u h = elim (some_nonzero count f) [
  | inl w ↦ (let l : d ≤ unsigned_abs (f w.0) = le_of_dvd (omega (arith, w.2)) (u.divides w.0 w.1) in omega (arith, h w.0 w.1))
  | inr z ↦ (let e : d ≡ 0 = eq-zero_of_zero-dvd (u.greatest 0 (λ j l. let s : unsigned_abs (f j) ≡ 0 = ap unsigned_abs (z j l) in let P : ℕ
      → Type 0 = λ t. 0 ∣ t in subst P (sym s) (dvd-zero 0))) in omega arith)
]

pub by_divides : (d by count : ℕ) (f : ℕ → ℤ) → IsDivisor count f d → by ≡ max d 1 → (j : ℕ) → j < count → by ∣ unsigned_abs (f j)
by_divides d by count f u e j h = elim (cases_eq d 0) [
  | inl z ↦ (let s : unsigned_abs (f j) ≡ 0 = ap unsigned_abs (zero_divides d count f u z j h) in let P : ℕ → Type 0 = λ t. by ∣ t in
      subst P (sym s) (dvd-zero by))
  | inr nz ↦ (let s : d ≡ by = omega arith in let P : ℕ → Type 0 = λ t. t ∣ unsigned_abs (f j) in subst P s (u.divides j h))
]

-- what is left after the division has no common divisor
pub quotients_primitive : (d by last : ℕ) (f q : ℕ → ℤ) → IsDivisor (suc last) f d → by ≡ max d 1 → ((j : ℕ) → j ≤ last → f j ≡ pos by *ℤ q j)
    → IsPrimitive last q
quotients_primitive d by last f q u e at_q = elim (cases_eq d 0) [
  | inl z ↦ record {
    form = inl (λ j h.
        let one : by ≡ 1 = omega arith in
        let s : pos by *ℤ q j ≡ pos 0 = sym (at_q j h) ∙ zero_divides d (suc last) f u z j (omega arith) in
        cancel_zero (pos by) (q j) (omega (arith, ints)) s);
  }
  | inr nz ↦ record {
    form = inr (λ k h.
        let s : by ≡ d = omega arith in
        let all : d * k ∣ d = u.greatest (d * k) (λ j l. (
        let p : unsigned_abs (f j) ≡ d * unsigned_abs (q j) = ap unsigned_abs (at_q j (omega arith)) ∙ unsigned_abs-mul (pos by) (q j)
        ∙ ap (λ t. t * unsigned_abs (q j)) s in
        let P : ℕ → Type 0 = λ t. d * k ∣ t in subst P (sym p) (mul-dvd-mul_left k d (h j (omega arith))))) in
        let one : d * k ∣ d * 1 = (let e : d ≡ d * 1 = omega arith in let P : ℕ → Type 0 = λ t. d * k ∣ t in subst P e all) in
        eq-one_of_dvd-one (dvd_of_mul-dvd-mul_left k (omega arith) one));
  }
]

pub divisor_narrow : (row : List ℤ) (d : ℕ) → IsDivisor (length row) (at row) d → AreNarrowNumbers row → d < 2 ^ 62
divisor_narrow row d u h =
    let b : d ≤ 2 ^ 62 - 1 = divisor_small d (length row) (2 ^ 62 - 1) (at row) u (λ j l. let k : unsigned_abs (at row j) < 2 ^ 62 = h j l in omega arith) in
    omega arith

pub divisor_bounds : (g m : ℕ) → 0 < m → m < 2 ^ 62 → g ∣ m → (0 < g) × (g < 2 ^ 62)
divisor_bounds g m some small d = (
  elim (cases_eq g 0) [
    | inl z ↦ (let P : ℕ → Type 0 = λ t. t ∣ m in let q : m ≡ 0 = eq-zero_of_zero-dvd (subst P z d) in absurd (omega arith))
    | inr nz ↦ omega arith
  ],
  (let l : g ≤ m = le_of_dvd some d in omega arith),
)

-- what the multipliers give is the row of the pivot but for their common divisor
shared_row : (lc rc own far g r l m : ℤ) → lc ≡ g *ℤ own → rc ≡ g *ℤ far → m ≡ own *ℤ r -ℤ far *ℤ l → lc *ℤ r -ℤ rc *ℤ l ≡ g *ℤ m
shared_row lc rc own far g r l m e f h =
    let q : (g *ℤ own) *ℤ r -ℤ (g *ℤ far) *ℤ l ≡ g *ℤ (own *ℤ r -ℤ far *ℤ l) = simp ring (omega (arith, linear)) in
    ap (λ t. t *ℤ r -ℤ rc *ℤ l) e ∙ ap (λ t. (g *ℤ own) *ℤ r -ℤ t *ℤ l) f ∙ q ∙ ap (λ t. g *ℤ t) (sym h)

-- a row of narrow products, over a common divisor
pub mixed_times : (lead row mid new : ℕ → ℤ) (c width : ℕ) (own far : ℤ) → IsShared (lead c) (row c) own far
    → ((j : ℕ) → j < width → mid j ≡ own *ℤ row j -ℤ far *ℤ lead j) → IsMultiple width mid new → IsMixed lead c width row new
mixed_times lead row mid new c width own far sh is u =
    let g = sh.by.0 in let h = u.by.0 in
    record {
      by = (
        g *ℤ h,
        times_pos g h sh.by.1 u.by.1,
        λ j l. shared_row (lead c) (row c) own far g (row j) (lead j) (mid j) sh.by.2 sh.by.3 (is j l) ∙ ap (λ t. g *ℤ t) (u.by.2 j l)
            ∙ sym (times_times g h (new j)),
      );
    }

-- and over the greatest one
reduced_divided : (lead row mid new : ℕ → ℤ) (c width : ℕ) (own far : ℤ) → IsShared (lead c) (row c) own far
    → ((j : ℕ) → j < width → mid j ≡ own *ℤ row j -ℤ far *ℤ lead j) → IsDivided width mid new → IsReduced lead c width row new
reduced_divided lead row mid new c width own far sh is u =
    record { multiple = mixed_times lead row mid new c width own far sh is u.multiple; primitive = u.primitive }

-- the row of a pivot, divided
module _ (lead row : ℕ → ℤ) (c width d by : ℕ) (own far : ℤ) (mixed : List ℤ) (sh : IsShared (lead c) (row c) own far) (wide : 0 < width) (long : length mixed
    ≡ width)
    (is : (j : ℕ) → j < width → at mixed j ≡ own *ℤ row j -ℤ far *ℤ lead j) (u : IsDivisor (length mixed) (at mixed) d) (e : by ≡ max d 1) where
  by_positive : pos 0 <ℤ pos by
  by_positive = omega (arith, ints)

  divided_from : (q : ℕ → ℤ) → ((j : ℕ) → j < width → at mixed j ≡ pos by *ℤ q j) → IsDivided width (at mixed) q
  divided_from q h =
      let s : length mixed ≡ suc (width - 1) = omega arith in
      let P : ℕ → Type 0 = λ t. IsDivisor t (at mixed) d in
      record {
        multiple = record { by = (pos by, by_positive, h) };
        primitive = quotients_primitive d by (width - 1) (at mixed) q (subst P s u) e
            (λ j l. h j (omega arith));
      }

  pub reduced_from : (q : ℕ → ℤ) → ((j : ℕ) → j < width → at mixed j ≡ pos by *ℤ q j) → IsReduced lead c width row q
  reduced_from q h = reduced_divided lead row (at mixed) q c width own far sh is (divided_from q h)

  pub reduced_wide : 0 < by → by ≤ 2 ^ 125 → AllAtMost mixed (2 ^ 125) → HasWideQuotient by mixed → IsWideReduced lead c width row mixed by
  reduced_wide some small within w =
      let q : ℕ → ℤ = λ k. over by (at mixed k) in
      let at_q : (k : ℕ) → k < width → at mixed k ≡ pos by *ℤ q k = λ k l. over_times by (at mixed k)
      (by_divides d by (length mixed) (at mixed) u e k (omega arith)) in
      let f = w.found in let kw : f.0 < width = omega (arith, f.2) in
      let s : f.1 ≡ q f.0 = cancel (pos by) f.1 (q f.0) by_positive (sym f.3 ∙ at_q f.0 kw) in
      let P : ℤ → Type 0 = λ t. IsNarrow t → ⊥ in
      record {
        some = some;
        small = small;
        within = within;
        row = (q, reduced_from q at_q, at_q, (f.0, kw, subst P s f.4));
      }

-- a row with 0 in the column stays
pub kept_mixed : (lead row : ℕ → ℤ) (c width : ℕ) → pos 0 <ℤ lead c → row c ≡ pos 0 → IsMixed lead c width row row
kept_mixed lead row c width own z = record {
  by = (
    lead c,
    own,
    λ j l. (let s : row c *ℤ lead j ≡ pos 0 = ap (λ t. t *ℤ lead j) z ∙ Rattle.gs_simplex.proofs.Ring.zero_times (lead j) in
        omega (arith, linear)),
  );
}

-- ---- a row divided
divided_by : (row new : List ℤ) (d by : ℕ) → 0 < length row → IsDivisor (length row) (at row) d → by ≡ max d 1
    → ((j : ℕ) → j < length row → at row j ≡ pos by *ℤ at new j) → IsDivided (length row) (at row) (at new)
divided_by row new d by some u e h = record {
  multiple = record { by = (pos by, omega (arith, ints), h) };
  primitive =
      (let s : length row ≡ suc (length row - 1) = omega arith in
      let P : ℕ → Type 0 = λ t. IsDivisor t (at row) d in
      quotients_primitive d by (length row - 1) (at row) (at new) (subst P s u) e (λ j l. h j (omega arith)));
}

pub divided_row : (row new : List ℤ) (d : ℕ) → 0 < length row → IsDivisor (length row) (at row) d → 1 < d → IsQuotient d row new (length row)
    → IsDivided (length row) (at row) (at new)
divided_row row new d some u more q = divided_by row new d d some u (omega (arith, more)) q.each

pub undivided_row : (row : List ℤ) (d : ℕ) → 0 < length row → IsDivisor (length row) (at row) d → d ≤ 1 → IsDivided (length row) (at row) (at row)
undivided_row row d some u small = divided_by row row d 1 some u (omega (arith, small)) (λ j l. sym (one_times (at row j)))

-- a bound of a row over what it is divided by
pub bound_over : (row new : List ℤ) (by most : ℕ) → 0 < by → IsQuotient by row new (length row) → AllAtMost row most
    → IsAtMost (length row) (at new) (most / by)
bound_over row new by most some q h j l =
    let s : unsigned_abs (at row j) ≡ by * unsigned_abs (at new j) = ap unsigned_abs (q.each j l) ∙ unsigned_abs-mul (pos by) (at new j) in
    let k : unsigned_abs (at new j) * by ≤ most = omega (arith, h j l, s) in
    (le-div_iff_mul-le some).1 k

-- of no numbers it is 0, which is narrow
pub nothing_common : (f : ℕ → ℤ) (z : ℤ) → z ≡ pos 0 → IsDivisor 0 f (unsigned_abs z) × (unsigned_abs z < 2 ^ 62)
nothing_common f z e =
    let P : ℤ → Type 0 = λ t. IsDivisor 0 f (unsigned_abs t) × (unsigned_abs t < 2 ^ 62) in
    subst P (sym e) (record { divides = λ j l. absurd (omega arith); greatest = λ d l. dvd-zero d }, omega arith)
