-- The program of two rows whose first step has a wide number is well shaped, and its two pairs are an opening.
use Rattle.std.proofs.Common.{◌≡◌, ℕ, zero, suc, ◌+◌, ◌<◌, ◌⊎◌, inl, inr, List, [], ◌∷◌, Bool, false, IsTrue, length, slice_index_or, take, ℤ, pos}
use Rattle.std.proofs.Common.{negsuc, ◌+ℤ◌, ◌*ℤ◌, ◌≤ℤ◌, refl, sym, ap, subst, ◌∙◌, arith}
use Rattle.gs_simplex.specs.{declared.program.Program.{Program}, Sums.{sum_to}, Rows.{IsNarrow, IsUnlistedRow}}
use Rattle.gs_simplex.specs.Program.{number, IsFree, IsShaped, Listing, IsListed, RowListed, ColListed, CanTake, IsOpened, IsOpening}
use Rattle.gs_simplex.proofs.{Ring.{linear}, Solutions.{only_at, only_at_same, only_at_other, program_row}}
use Rattle.gs_tests_strategies.specs.Programs.{IsWideSample}

abbrev listed : List (List ℤ)
listed = (pos 2305843009213693951 ∷ pos 3 ∷ pos 1 ∷ []) ∷ (pos 2305843009213693950 ∷ pos 5 ∷ pos 1 ∷ []) ∷ []

abbrev at_listed : ℕ → ℕ → ℤ
at_listed i j = slice_index_or (slice_index_or listed i []) j (pos 0)

at_row : (p : Program) → IsWideSample p → (i j : ℕ) → number p i j ≡ at_listed i j
at_row p s i j = ap (λ (x : List (List ℤ)). slice_index_or (slice_index_or x i []) j (pos 0)) s.numbers

two : (i : ℕ) → i < 2 → (i ≡ 0) ⊎ (i ≡ 1)
two zero h = inl refl
two (suc zero) h = inr refl
two (suc (suc i)) h = absurd (omega arith)

three : (j : ℕ) → j < 3 → (j ≡ 0) ⊎ ((j ≡ 1) ⊎ (j ≡ 2))
three zero h = inl refl
three (suc zero) h = inr (inl refl)
three (suc (suc zero)) h = inr (inr refl)
three (suc (suc (suc j))) h = absurd (omega arith)

narrow_listed : (i j : ℕ) → IsNarrow (at_listed i j)
narrow_listed zero zero = omega arith
narrow_listed zero (suc zero) = omega arith
narrow_listed zero (suc (suc zero)) = omega arith
narrow_listed zero (suc (suc (suc j))) = omega arith
narrow_listed (suc zero) zero = omega arith
narrow_listed (suc zero) (suc zero) = omega arith
narrow_listed (suc zero) (suc (suc zero)) = omega arith
narrow_listed (suc zero) (suc (suc (suc j))) = omega arith
narrow_listed (suc (suc i)) j = omega arith

aim_listed : (j : ℕ) → IsNarrow (slice_index_or (pos 0 ∷ pos 0 ∷ []) j (pos 0))
aim_listed zero = omega arith
aim_listed (suc zero) = omega arith
aim_listed (suc (suc j)) = omega arith

row_length : (i : ℕ) → i < 2 → length (slice_index_or listed i []) ≡ 3
row_length zero h = refl
row_length (suc zero) h = refl
row_length (suc (suc i)) h = absurd (omega arith)

pub sample_shaped : (p : Program) → IsWideSample p → IsShaped p
sample_shaped p s = record {
  rows = ap length s.numbers ∙ sym s.rows;
  row = λ i h. ap (λ (x : List (List ℤ)). length (slice_index_or x i [])) s.numbers ∙ row_length i (omega (arith, s.rows))
      ∙ (let e : 3 ≡ p.cols + 1 = omega (arith, s.cols) in e);
  free = ap length s.free ∙ sym s.cols;
  aim = ap length s.aim ∙ sym s.cols;
  narrow = λ i j im jn. (let P : ℤ → Type 0 = λ t. IsNarrow t in subst P (sym (at_row p s i j)) (narrow_listed i j));
  narrow_aim = λ j h. (let P : ℤ → Type 0 = λ t. IsNarrow t in subst P (sym (ap (λ (x : List ℤ). slice_index_or x j (pos 0)) s.aim)) (aim_listed j));
}

all_false : (j : ℕ) → IsTrue (slice_index_or (false ∷ false ∷ []) j false) → ⊥
all_false zero f = grind arith
all_false (suc zero) f = grind arith
all_false (suc (suc j)) f = grind arith

never_free : (p : Program) → IsWideSample p → (j : ℕ) → IsFree p j → ⊥
never_free p s j f = all_false j (let P : List Bool → Type 0 = λ x. IsTrue (slice_index_or x j false) in subst P s.free f)

-- ---- the second row's, once the first pair is listed
abbrev both : ℕ → ℤ
both zero = negsuc 2305843009213693949
both (suc zero) = pos 2305843009213693951
both (suc (suc i)) = pos 0

abbrev second : ℕ → ℤ
second j = (pos 0 +ℤ both 0 *ℤ at_listed 0 j) +ℤ both 1 *ℤ at_listed 1 j

sums : (p : Program) → IsWideSample p → (y : ℕ → ℤ) (j : ℕ) → sum_to p.rows (λ i. y i *ℤ number p i j)
    ≡ (pos 0 +ℤ y 0 *ℤ at_listed 0 j) +ℤ y 1 *ℤ at_listed 1 j
sums p s y j = ap (λ k. sum_to k (λ i. y i *ℤ number p i j)) s.rows ∙ ap (λ t. (pos 0 +ℤ y 0 *ℤ t) +ℤ y 1 *ℤ number p 1 j) (at_row p s 0 j)
    ∙ ap (λ t. (pos 0 +ℤ y 0 *ℤ at_listed 0 j) +ℤ y 1 *ℤ t) (at_row p s 1 j)

abbrev one : Listing
one = (1, 1) ∷ []

abbrev opening : Listing
opening = (1, 1) ∷ (2, 2) ∷ []

first_listed : IsListed one 0 0
first_listed = (0, omega arith, refl)

only_first : (i j : ℕ) → IsListed one i j → (i ≡ 0) × (j ≡ 0)
only_first i j h =
    let z : h.0 ≡ 0 = omega (arith, h.1) in
    let e : (1, 1) ≡ (i + 1, j + 1) = ap (λ k. slice_index_or one k (i + 1, j + 1)) (sym z) ∙ h.2 in
    (omega (arith, ap (λ (x : ℕ × ℕ). x.0) e), omega (arith, ap (λ (x : ℕ × ℕ). x.1) e))

second_row : (p : Program) → IsWideSample p → IsUnlistedRow p.rows p.cols (number p) (RowListed one) (ColListed one) 1 (pos 1) both second
second_row p s = record {
  combination = record { positive = omega (arith, linear); each = λ j h. Rattle.gs_simplex.proofs.Ring.one_times (second j) ∙ sym (sums p s both j) };
  own = omega (arith, linear);
  others = λ i im out ne. elim (two i (omega (arith, s.rows))) [
    | inl e ↦ absurd (out (0, (let P : ℕ → Type 0 = λ x. IsListed one x 0 in subst P (sym e) first_listed)))
    | inr e ↦ absurd (ne e)
  ];
  zeros = λ j h. (let e = only_first h.0 j h.1 in ap second e.1);
}

take_first : (p : Program) → IsWideSample p → CanTake p [] 0 0
take_first p s = record {
  row = omega (arith, s.rows);
  column = omega (arith, s.cols);
  row_free = λ x. absurd (omega (arith, x.1.1));
  column_free = λ x. absurd (omega (arith, x.1.1));
  found = (
    pos 1,
    only_at 0,
    number p 0,
    record {
      combination = program_row 0 (omega (arith, s.rows));
      own = (let e : only_at 0 0 ≡ pos 1 = only_at_same 0 in omega (arith, linear));
      others = λ i im out ne. only_at_other 0 i ne;
      zeros = λ j h. absurd (omega (arith, h.1.1));
    },
    λ z. (let f : number p 0 0 ≡ pos 2305843009213693951 = at_row p s 0 0 in omega (arith, linear)),
  );
}

take_second : (p : Program) → IsWideSample p → CanTake p one 1 1
take_second p s = record {
  row = omega (arith, s.rows);
  column = omega (arith, s.cols);
  row_free = λ x. (let e = only_first 1 x.0 x.1 in absurd (omega (arith, e.0)));
  column_free = λ x. (let e = only_first x.0 1 x.1 in absurd (omega (arith, e.1)));
  found = (pos 1, both, second, second_row p s, λ z. (let f : second 1 ≡ pos 4611686018427387905 = refl in omega (arith, linear)));
}

-- ---- its solution
abbrev value : ℕ → ℤ
value zero = pos 2
value (suc zero) = pos 1
value (suc (suc j)) = pos 0

value_nonneg : (j : ℕ) → pos 0 ≤ℤ value j
value_nonneg zero = omega (arith, linear)
value_nonneg (suc zero) = omega (arith, linear)
value_nonneg (suc (suc j)) = omega (arith, linear)

row_sum : (p : Program) → IsWideSample p → (i : ℕ) → sum_to p.cols (λ j. number p i j *ℤ value j)
    ≡ (pos 0 +ℤ at_listed i 0 *ℤ pos 2) +ℤ at_listed i 1 *ℤ pos 1
row_sum p s i = ap (λ k. sum_to k (λ j. number p i j *ℤ value j)) s.cols ∙ ap (λ t. (pos 0 +ℤ t *ℤ pos 2) +ℤ number p i 1 *ℤ pos 1) (at_row p s i 0)
    ∙ ap (λ t. (pos 0 +ℤ at_listed i 0 *ℤ pos 2) +ℤ t *ℤ pos 1) (at_row p s i 1)

side : (p : Program) → IsWideSample p → (i : ℕ) → number p i p.cols ≡ at_listed i 2
side p s i = ap (number p i) s.cols ∙ at_row p s i 2

sample_opens : (p : Program) → IsWideSample p → IsOpening p ((1, 1) ∷ (2, 2) ∷ [])
sample_opens p s = record {
  long = sym s.rows;
  each_row = λ i h. elim (two i (omega (arith, s.rows))) [
    | inl e ↦ (0, (let P : ℕ → Type 0 = λ x. IsListed opening x 0 in subst P (sym e) (0, omega arith, refl)))
    | inr e ↦ (1, (let P : ℕ → Type 0 = λ x. IsListed opening x 1 in subst P (sym e) (1, omega arith, refl)))
  ];
  taken = λ k h. elim (two k h) [
    | inl e ↦ (let P : ℕ → Type 0 = λ x. (r : ℕ) × (c : ℕ) × (slice_index_or opening x (0, 0) ≡ (r + 1, c + 1)) × CanTake p (take x opening) r c in
        subst P (sym e) (0, 0, refl, take_first p s))
    | inr e ↦ (let P : ℕ → Type 0 = λ x. (r : ℕ) × (c : ℕ) × (slice_index_or opening x (0, 0) ≡ (r + 1, c + 1)) × CanTake p (take x opening) r c in
        subst P (sym e) (1, 1, refl, take_second p s))
  ];
  free_named = λ j h f. absurd (never_free p s j f);
  feasible = (
    pos 4611686018427387905,
    value,
    record {
      solution = record {
        positive = omega (arith, linear);
        solves = λ i h. elim (two i (omega (arith, s.rows))) [
          | inl e ↦ (let P : ℕ → Type 0 = λ x. sum_to p.cols (λ j. number p x j *ℤ value j) ≡ pos 4611686018427387905 *ℤ number p x p.cols in
              subst P (sym e) (row_sum p s 0 ∙ sym (ap (λ t. pos 4611686018427387905 *ℤ t) (side p s 0))))
          | inr e ↦ (let P : ℕ → Type 0 = λ x. sum_to p.cols (λ j. number p x j *ℤ value j) ≡ pos 4611686018427387905 *ℤ number p x p.cols in
              subst P (sym e) (row_sum p s 1 ∙ sym (ap (λ t. pos 4611686018427387905 *ℤ t) (side p s 1))))
        ];
      };
      nonnegative = λ j h out. value_nonneg j;
    },
    λ j h out. elim (two j (omega (arith, s.cols))) [
      | inl e ↦ absurd (out (0, (let P : ℕ → Type 0 = λ x. IsListed opening 0 x in subst P (sym e) (0, omega arith, refl))))
      | inr e ↦ absurd (out (1, (let P : ℕ → Type 0 = λ x. IsListed opening 1 x in subst P (sym e) (1, omega arith, refl))))
    ],
  );
}

pub sample_opened : (p : Program) → IsWideSample p → IsOpened p opening
sample_opened p s = record {
  small_rows = omega (arith, s.rows);
  small_cols = omega (arith, s.cols);
  shaped = sample_shaped p s;
  opens = sample_opens p s;
}
