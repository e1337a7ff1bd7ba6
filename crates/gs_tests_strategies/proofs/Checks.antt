-- A list whose pairs were checked one after another, with values that are a feasible solution, is an opening of the program.
use Rattle.std.proofs.Common.{◌≡◌, ◌≢◌, ℕ, ◌+◌, ◌<◌, [], List, Vec, Bool, false, length, map, vec_items, take, slice_index_or, get_or, ℤ, pos, ◌*ℤ◌, ◌<ℤ◌}
use Rattle.std.proofs.Common.{Global, sym, ap, subst, ◌∙◌, arith}
use Rattle.std.proofs.lemmas.List.{length-map, length-take-le, get_or-take, get_or_default}
use Rattle.gs_simplex.specs.{declared.sparse.Program.{Program}, Numbers.{at}, Sums.{sum_to}}
use Rattle.gs_simplex.specs.Program.{Listing, IsListed, RowListed, ColListed, IsShaped, IsTakenInTurn, IsOpening, rows_of, number}
use Rattle.gs_simplex.proofs.{Places.{vec_at}, PairLists.{less_one, place_of, listed_at}, Ring.{linear, one_times}}
use Rattle.gs_tests_strategies.specs.Openings.{HasRowBefore, IsNewPair, IsTakenAt, combined, IsFeasibleOver}

-- each pair names a row and a column, counted from 1
record AreNamed (l : Listing) : Type 0 where
  pub pair : (k : ℕ) → k < length l → (r : ℕ) × (c : ℕ) × (slice_index_or l k (0, 0) ≡ (r + 1, c + 1))

row_of : (l : Listing) (i k : ℕ) → AreNamed l → k < length l → (slice_index_or l k (0, 0)).0 ≡ i + 1 → RowListed l i
row_of l i k named h e =
    let n = named.pair k h in
    let s : n.0 ≡ i = less_one n.0 i (ap (λ (x : ℕ × ℕ). x.0) (sym n.2) ∙ e) in
    (n.1, (let P : ℕ → Type 0 = λ x. IsListed l x n.1 in subst P s (listed_at l k n.0 n.1 h n.2)))

column_of : (l : Listing) (j k : ℕ) → AreNamed l → k < length l → (slice_index_or l k (0, 0)).1 ≡ j + 1 → ColListed l j
column_of l j k named h e =
    let n = named.pair k h in
    let s : n.1 ≡ j = less_one n.1 j (ap (λ (x : ℕ × ℕ). x.1) (sym n.2) ∙ e) in
    (n.0, (let P : ℕ → Type 0 = λ x. IsListed l n.0 x in subst P s (listed_at l k n.0 n.1 h n.2)))

module _ (p : Program) (o : Listing) (t : ℕ) (within : t < length o) (before : (k : ℕ) → k < t → IsTakenAt p o k) where
  long : length (take t o) ≡ t
  long = length-take-le t o (omega arith)

  named_before : AreNamed (take t o)
  named_before = record { pair = λ k h. (let kt : k < t = omega (arith, long, h) in let w = before k kt in (w.0, w.1, get_or-take t o k (0, 0) kt ∙ w.2)) }

  -- multipliers of the program's rows show that the pair at this step can be taken
  pub taken_by : (r c : ℕ) (xs : List ℤ) → slice_index_or o t (0, 0) ≡ (r + 1, c + 1) → r < p.rows → c < p.cols → IsNewPair o t → pos 0 <ℤ at xs r
      → combined p xs c ≢ pos 0 → ((i : ℕ) → i < p.rows → i ≢ r → (HasRowBefore o t i → ⊥) → at xs i ≡ pos 0)
      → ((k j : ℕ) → k < t → (slice_index_or o k (0, 0)).1 ≡ j + 1 → combined p xs j ≡ pos 0) → IsTakenAt p o t
  taken_by r c xs here rm cm new own ne others zeros = (
    r,
    c,
    here,
    record {
      row = rm;
      column = cm;
      row_free = λ x. (let k = x.1.0 in let kt : k < t = omega (arith, long, x.1.1) in
          (new k kt).0 (ap (λ (w : ℕ × ℕ). w.0) (sym (get_or-take t o k (0, 0) kt) ∙ place_of (take t o) r x.0 x.1) ∙ sym (ap (λ (w : ℕ × ℕ). w.0) here)));
      column_free = λ x. (let k = x.1.0 in let kt : k < t = omega (arith, long, x.1.1) in
          (new k kt).1 (ap (λ (w : ℕ × ℕ). w.1) (sym (get_or-take t o k (0, 0) kt) ∙ place_of (take t o) x.0 c x.1) ∙ sym (ap (λ (w : ℕ × ℕ). w.1) here)));
      found = (
        pos 1,
        at xs,
        combined p xs,
        record {
          combination = record { positive = omega (arith, linear); each = λ j h. one_times (combined p xs j) };
          own = own;
          others = λ i h out differs. others i h differs (λ w. out (row_of (take t o) i w.0 named_before (omega (arith, long, w.1))
              (ap (λ (x : ℕ × ℕ). x.0) (get_or-take t o w.0 (0, 0) w.1) ∙ w.2)));
          zeros = λ j x. (let k = x.1.0 in let kt : k < t = omega (arith, long, x.1.1) in
              zeros k j kt (ap (λ (w : ℕ × ℕ). w.1) (sym (get_or-take t o k (0, 0) kt) ∙ place_of (take t o) x.0 j x.1)));
        },
        ne,
      );
    },
  )

pub opening_by : (p : Program) (o : Listing) (over : ℤ) (xs : List ℤ) → IsTakenInTurn p o → length o ≡ p.rows
    → ((i : ℕ) → i < p.rows → HasRowBefore o (length o) i) → IsFeasibleOver p o over xs → IsOpening p o
opening_by p o over xs taken long rows f =
    let named : AreNamed o = record { pair = λ k h. (let w = taken k h in (w.0, w.1, w.2)) } in
    record {
      long = long;
      each_row = λ i h. (let w = rows i h in row_of o i w.0 named w.1 w.2);
      taken = taken;
      free_named = λ j h free. (let w = (f.placed j h).free free in column_of o j w.0 named w.1 w.2);
      feasible = (
        over,
        at xs,
        record {
          solution = record { positive = f.positive; solves = f.solves };
          nonnegative = λ j h out. (f.placed j h).least out;
        },
        λ j h out. (f.placed j h).unnamed (λ w. out (column_of o j w.0 named w.1 w.2)),
      );
    }

-- a row as the program holds it
pub row_is : (p : Program) (rows : List (Vec ℤ Global)) (i : ℕ) (v : Vec ℤ Global) → map vec_items rows ≡ p.parts.numbers → IsShaped p → i < p.rows
    → v ≡ get_or rows i v → (v.items ≡ slice_index_or (rows_of p) i []) × (length v.items ≡ p.cols + 1)
row_is p rows i v of shaped h e =
    let many : i < length rows = omega (arith, h, shaped.rows, ap length of, length-map rows vec_items) in
    let same : v.items ≡ slice_index_or (rows_of p) i [] = vec_at rows i v many e ∙ ap (λ xs. slice_index_or xs i []) of in
    (same, ap length same ∙ shaped.row i h)

-- a row that the values solve
pub row_solved : (p : Program) (i : ℕ) (row values : List ℤ) (over : ℤ) → row ≡ slice_index_or (rows_of p) i [] → length values ≡ p.cols
    → sum_to (length values) (λ j. at row j *ℤ at values j) ≡ over *ℤ at row (length values)
    → sum_to p.cols (λ j. number p i j *ℤ at values j) ≡ over *ℤ number p i p.cols
row_solved p i row values over same long h =
    subst (λ (n : ℕ). sum_to n (λ j. number p i j *ℤ at values j) ≡ over *ℤ number p i n) long
    (subst (λ (xs : List ℤ). sum_to (length values) (λ j. at xs j *ℤ at values j) ≡ over *ℤ at xs (length values)) same h)

-- whether a column is free, as the program holds it
pub free_is : (p : Program) (all : List Bool) (j : ℕ) (b : Bool) → all ≡ p.parts.free → IsShaped p → j < p.cols → b ≡ get_or all j b
    → b ≡ slice_index_or p.parts.free j false
free_is p all j b of shaped h e = e ∙ get_or_default all j b false (omega (arith, h, shaped.free, ap length of)) ∙ ap (λ xs. slice_index_or xs j false) of
