-- A program in three rows and its path, step by step.
use Rattle.std.proofs.Common.{◌≡◌, ◌≢◌, ℕ, zero, suc, ◌+◌, ◌<◌, ◌≤◌, ◌&&◌, Bool, true, false, List, [], ◌∷◌, length, take, refl, sym, ap, ◌∙◌, subst, inr}
use Rattle.std.proofs.{Common.{arith, nat_lt, unsigned_abs}, lemmas.Int.{ints}, Math.Nat.{eq-one_of_dvd-one}, lemmas.Bool.{and_parts, ltb-true}}
use Rattle.std.specs.Prelude.{IsTrue, ℤ, pos, negsuc, ◌-ℤ◌, ◌*ℤ◌, ◌≤ℤ◌, ◌<ℤ◌, slice_index_or}
use Prim.Native.Nat.{◌∣◌}
use Rattle.gs_simplex.proofs.{Agree.{enters_same, leaves_same, rows_agree}, Bases.{IsFull}, Opening.{opening_is_full}}
use Rattle.gs_simplex.specs.{declared.program.Program.{Program}, Sums.{sum_to}, Rows.{IsAimRow, IsListedRow, IsNarrow, IsPrimitive, IsUnlistedRow}}
use Rattle.gs_simplex.specs.Path.{AllNarrow, Enters, IsPath, IsPivot, Leaves, NoneEnters, PathStops, States, ends}
use Rattle.gs_simplex.specs.Program.{CanTake, ColListed, IsFree, IsListed, IsOpening, IsRowsOf, Listing, RowListed, aim_of, number}
use Rattle.gs_worked.specs.Pivots.{IsTied, each_own}

-- ---- the program's numbers

abbrev Table : Type 0
Table = List (List ℤ)

abbrev at : Table → ℕ → ℕ → ℤ
at rows i j = slice_index_or (slice_index_or rows i []) j (pos 0)

abbrev first_rows : Table
first_rows = (pos 1 ∷ pos 0 ∷ pos 0 ∷ pos 1 ∷ pos 1 ∷ pos 2 ∷ []) ∷ (pos 0 ∷ pos 1 ∷ pos 0 ∷ pos 1 ∷ pos 2 ∷ pos 2 ∷ [])
    ∷ (pos 0 ∷ pos 0 ∷ pos 1 ∷ pos 2 ∷ pos 1 ∷ pos 4 ∷ []) ∷ []

abbrev last_rows : Table
last_rows = (pos 1 ∷ pos 0 ∷ pos 0 ∷ pos 1 ∷ pos 1 ∷ pos 2 ∷ []) ∷ (negsuc 0 ∷ pos 1 ∷ pos 0 ∷ pos 0 ∷ pos 1 ∷ pos 0 ∷ [])
    ∷ (negsuc 1 ∷ pos 0 ∷ pos 1 ∷ pos 0 ∷ negsuc 0 ∷ pos 0 ∷ []) ∷ []

abbrev aim_numbers : List ℤ
aim_numbers = pos 0 ∷ pos 0 ∷ pos 0 ∷ pos 3 ∷ pos 2 ∷ []

abbrev first_aims : List ℤ
first_aims = pos 0 ∷ pos 0 ∷ pos 0 ∷ pos 3 ∷ pos 2 ∷ pos 0 ∷ pos 1 ∷ []

abbrev last_aims : List ℤ
last_aims = negsuc 2 ∷ pos 0 ∷ pos 0 ∷ pos 0 ∷ negsuc 0 ∷ pos 6 ∷ pos 1 ∷ []

abbrev start : List ℤ
start = pos 2 ∷ pos 2 ∷ pos 4 ∷ pos 0 ∷ pos 0 ∷ []

abbrev aims : List ℤ → ℕ → ℤ
aims xs j = slice_index_or xs j (pos 0)

number_is : (p : Program) → IsTied p → number p ≡ at first_rows
number_is p h = ap (λ (n : Table). at n) h.numbers

aim_is : (p : Program) → IsTied p → aim_of p ≡ aims aim_numbers
aim_is p h = ap aims h.aim

-- what holds of these numbers holds of the program
across : (p : Program) → IsTied p → (P : ℕ → ℕ → (ℕ → ℕ → ℤ) → (ℕ → ℤ) → Type 0) → P 3 5 (at first_rows) (aims aim_numbers)
    → P p.rows p.cols (number p) (aim_of p)
across p h P x =
    subst (λ (m : ℕ). P m p.cols (number p) (aim_of p)) (sym h.rows)
    (subst (λ (n : ℕ). P 3 n (number p) (aim_of p)) (sym h.cols)
    (subst (λ (A : ℕ → ℕ → ℤ). P 3 5 A (aim_of p)) (sym (number_is p h))
    (subst (λ (b : ℕ → ℤ). P 3 5 (at first_rows) b) (sym (aim_is p h)) x)))

no_false : IsTrue false → ⊥
no_false e = cc

not_free : (p : Program) → IsTied p → (j : ℕ) → IsFree p j → ⊥
not_free p h j f = by j (subst (λ (xs : List Bool). IsTrue (slice_index_or xs j false)) h.free f)
  where
    by : (j : ℕ) → IsTrue (slice_index_or (false ∷ false ∷ false ∷ false ∷ false ∷ []) j false) → ⊥
    by zero f = no_false f
    by (suc zero) f = no_false f
    by (suc (suc zero)) f = no_false f
    by (suc (suc (suc zero))) f = no_false f
    by (suc (suc (suc (suc zero)))) f = no_false f
    by (suc (suc (suc (suc (suc j))))) f = no_false f

-- ---- numbers that are small

abbrev small : List ℤ → Bool
small [] = true
small (z ∷ zs) = nat_lt (unsigned_abs z) 10 && small zs

abbrev all_small : Table → Bool
all_small [] = true
all_small (r ∷ rs) = small r && all_small rs

narrow_in : (xs : List ℤ) → small xs ≡ true → (j : ℕ) → IsNarrow (slice_index_or xs j (pos 0))
narrow_in [] e j = omega arith
narrow_in (x ∷ xs) e zero = let l = ltb-true (unsigned_abs x) 10 (and_parts (nat_lt (unsigned_abs x) 10) (small xs) e).0 in omega arith
narrow_in (x ∷ xs) e (suc j) = narrow_in xs (and_parts (nat_lt (unsigned_abs x) 10) (small xs) e).1 j

narrow_at : (rows : Table) → all_small rows ≡ true → (i j : ℕ) → IsNarrow (at rows i j)
narrow_at [] e i j = narrow_in [] refl j
narrow_at (r ∷ rs) e zero j = narrow_in r (and_parts (small r) (all_small rs) e).0 j
narrow_at (r ∷ rs) e (suc i) j = narrow_at rs (and_parts (small r) (all_small rs) e).1 i j

-- ---- a few cases

three : (P : ℕ → Type 0) → P 0 → P 1 → P 2 → (i : ℕ) → i < 3 → P i
three P a b c zero l = a
three P a b c (suc zero) l = b
three P a b c (suc (suc zero)) l = c
three P a b c (suc (suc (suc i))) l = absurd (omega arith)

five : (P : ℕ → Type 0) → P 0 → P 1 → P 2 → P 3 → P 4 → (j : ℕ) → j < 5 → P j
five P a b c d e zero l = a
five P a b c d e (suc j) l = four (λ k. P (suc k)) b c d e j (omega arith)
  where
    four : (P : ℕ → Type 0) → P 0 → P 1 → P 2 → P 3 → (j : ℕ) → j < 4 → P j
    four P a b c d zero l = a
    four P a b c d (suc j) l = three (λ k. P (suc k)) b c d j (omega arith)

six : (P : ℕ → Type 0) → P 0 → P 1 → P 2 → P 3 → P 4 → P 5 → (j : ℕ) → j ≤ 5 → P j
six P a b c d e f zero l = a
six P a b c d e f (suc j) l = five (λ k. P (suc k)) b c d e f j (omega arith)

-- a number 1 makes a row primitive
primitive : (last : ℕ) (row : ℕ → ℤ) (j : ℕ) → j ≤ last → row j ≡ pos 1 → IsPrimitive last row
primitive last row j l e = record { form = inr (λ d h. eq-one_of_dvd-one (subst (λ (n : ℕ). d ∣ n) (ap unsigned_abs e) (h j l))) }

above : (z : ℤ) → z ≡ pos 1 → pos 0 <ℤ z
above z e = let one : pos 0 <ℤ pos 1 = omega (arith, ints) in subst (λ (x : ℤ). pos 0 <ℤ x) (sym e) one

none_above : pos 0 ≤ℤ pos 0
none_above = omega (arith, ints)

-- ---- the rows of a list

-- Each listed row i has the column `col i`. R has the rows, each with its multipliers in Y; a is the aim's row, with the multipliers m.
record IsStep (l : Listing) (col : ℕ → ℕ) (R Y : Table) (a m : List ℤ) : Type 0 where
  named : (i j : ℕ) → IsListed l i j → (i < 3) × (j ≡ col i)
  combination : (i : ℕ) → i < 3 → (j : ℕ) → j ≤ 5 → pos 1 *ℤ at R i j ≡ sum_to 3 (λ k. at Y i k *ℤ at first_rows k j)
  column : (i : ℕ) → i < 3 → col i ≤ 5
  diagonal : (i : ℕ) → i < 3 → at R i (col i) ≡ pos 1
  apart : (i k : ℕ) → i < 3 → k < 3 → k ≢ i → at R i (col k) ≡ pos 0
  own : (i : ℕ) → i < 3 → at Y i i ≡ pos 1
  others : (i k : ℕ) → i < 3 → k < 3 → (RowListed l k → ⊥) → k ≢ i → at Y i k ≡ pos 0
  aim_each : (j : ℕ) → j < 5 → pos 1 *ℤ (aims a 6 *ℤ aims aim_numbers j -ℤ aims a j) ≡ sum_to 3 (λ k. aims m k *ℤ at first_rows k j)
  aim_side : pos 1 *ℤ aims a 5 ≡ sum_to 3 (λ k. aims m k *ℤ at first_rows k 5)
  aim_others : (k : ℕ) → k < 3 → (RowListed l k → ⊥) → aims m k ≡ pos 0
  aim_apart : (k : ℕ) → k < 3 → aims a (col k) ≡ pos 0
  multiple : aims a 6 ≡ pos 1

module _ (p : Program) (t : IsTied p) (l : Listing) (col : ℕ → ℕ) (R Y : Table) (a m : List ℤ) (s : IsStep l col R Y a m) where
  one_above : pos 0 <ℤ pos 1
  one_above = omega (arith, ints)

  -- a listed column is that of a listed row
  in_column : (P : ℕ → Type 0) → ((k : ℕ) → k < 3 → RowListed l k → P (col k)) → (c : ℕ) → ColListed l c → P c
  in_column P f c h = let n = s.named h.0 c h.1 in subst P (sym n.1) (f h.0 n.0 (c, h.1))

  row_listed : (i j : ℕ) → IsListed l i j → IsListedRow 3 5 (at first_rows) (RowListed l) (ColListed l) j (pos 1) (at Y i) (at R i)
  row_listed i j h =
      let n = s.named i j h in
      record {
        combination = record { positive = one_above; each = s.combination i n.0 };
        own = subst (λ (c : ℕ). pos 0 <ℤ at R i c) (sym n.1) (above _ (s.diagonal i n.0));
        others = λ k lk out. s.others i k n.0 lk out (λ e. out (subst (λ (x : ℕ). RowListed l x) (sym e) (j, h)));
        zeros = in_column (λ c. c ≢ j → at R i c ≡ pos 0)
            (λ k lk listed d. s.apart i k n.0 lk (λ e. d (ap col e ∙ sym n.1)));
      }

  row_unlisted : (i : ℕ) → i < 3 → (RowListed l i → ⊥) → IsUnlistedRow 3 5 (at first_rows) (RowListed l) (ColListed l) i (pos 1) (at Y i) (at R i)
  row_unlisted i li out = record {
    combination = record { positive = one_above; each = s.combination i li };
    own = above _ (s.own i li);
    others = λ k lk fresh d. s.others i k li lk fresh d;
    zeros = in_column (λ c. at R i c ≡ pos 0) (λ k lk listed. s.apart i k li lk (λ e. out (subst (λ (x : ℕ). RowListed l x) e listed)));
  }

  row_aim : IsAimRow 3 5 (at first_rows) (RowListed l) (ColListed l) (aims aim_numbers) (pos 1) (aims m) (aims a)
  row_aim = record {
    multiple = above _ s.multiple;
    positive = one_above;
    each = s.aim_each;
    side = s.aim_side;
    others = s.aim_others;
    zeros = in_column (λ c. aims a c ≡ pos 0) (λ k lk listed. s.aim_apart k lk);
  }

  rows_are : IsRowsOf p l (at R) (aims a)
  rows_are = record {
    listed = λ i j h. across p t (λ m n A b. (scale : ℤ) × (multiplier : ℕ → ℤ)
        × IsListedRow m n A (RowListed l) (ColListed l) j scale multiplier (at R i)) (pos 1, at Y i, row_listed i j h);
    unlisted = λ i li out. across p t (λ m n A b. (scale : ℤ) × (multiplier : ℕ → ℤ)
        × IsUnlistedRow m n A (RowListed l) (ColListed l) i scale multiplier (at R i)) (pos 1, at Y i, row_unlisted i (omega (arith, t.rows, li)) out);
    aim_row = across p t (λ m n A b. (scale : ℤ) × (multiplier : ℕ → ℤ) × IsAimRow m n A (RowListed l) (ColListed l) b scale multiplier (aims a))
        (pos 1, aims m, row_aim);
    primitive = λ i li.
        (let inside : i < 3 = omega (arith, t.rows, li) in
        primitive p.cols (at R i) (col i) (omega (arith, t.cols, s.column i inside)) (s.diagonal i inside));
    primitive_aim = primitive (p.cols + 1) (aims a) 6 (omega (arith, t.cols)) s.multiple;
  }

-- ---- the lists

abbrev last_list : Listing
last_list = (3, 3) ∷ (2, 2) ∷ (1, 4) ∷ []

abbrev units : Table
units = (pos 1 ∷ pos 0 ∷ pos 0 ∷ []) ∷ (pos 0 ∷ pos 1 ∷ pos 0 ∷ []) ∷ (pos 0 ∷ pos 0 ∷ pos 1 ∷ []) ∷ []

abbrev last_multipliers : Table
last_multipliers = (pos 1 ∷ pos 0 ∷ pos 0 ∷ []) ∷ (negsuc 0 ∷ pos 1 ∷ pos 0 ∷ []) ∷ (negsuc 1 ∷ pos 0 ∷ pos 1 ∷ []) ∷ []

abbrev last_columns : ℕ → ℕ
last_columns i = slice_index_or (3 ∷ 1 ∷ 2 ∷ []) i 0

-- each pair has a row of the program and its column
abbrev Named : (ℕ → ℕ) → Listing → Type 0
Named col [] = Unit {0}
Named col (x ∷ xs) = ((i : ℕ) × (i < 3) × (x ≡ (i + 1, col i + 1))) × Named col xs

pair_named : (col : ℕ → ℕ) (l : Listing) → Named col l → (k i j : ℕ) (d : ℕ × ℕ) → k < length l → slice_index_or l k d ≡ (i + 1, j + 1)
    → (i < 3) × (j ≡ col i)
pair_named col [] n k i j d l e = absurd (omega arith)
pair_named col (x ∷ xs) ((r, lr, is), more) zero i j d l e =
    let row : r ≡ i = let a = ap (λ (y : ℕ × ℕ). y.0) (sym is ∙ e) in omega arith in
    let column : col r ≡ j = let b = ap (λ (y : ℕ × ℕ). y.1) (sym is ∙ e) in omega arith in
    (subst (λ (y : ℕ). y < 3) row lr, sym column ∙ ap col row)
pair_named col (x ∷ xs) (first, more) (suc k) i j d l e = pair_named col xs more k i j d (omega arith) e

listed_named : (col : ℕ → ℕ) (l : Listing) → Named col l → (i j : ℕ) → IsListed l i j → (i < 3) × (j ≡ col i)
listed_named col l n i j (k, lk, e) = pair_named col l n k i j _ lk e

first_step : (l : Listing) → Named (λ i. i) l → IsStep l (λ i. i) first_rows units first_aims (pos 0 ∷ pos 0 ∷ pos 0 ∷ [])
first_step l n = record {
  named = listed_named (λ i. i) l n;
  combination = three (λ i. (j : ℕ) → j ≤ 5 → pos 1 *ℤ at first_rows i j ≡ sum_to 3 (λ k. at units i k *ℤ at first_rows k j))
      (six (λ j. pos 1 *ℤ at first_rows 0 j ≡ sum_to 3 (λ k. at units 0 k *ℤ at first_rows k j)) refl refl refl refl refl refl)
      (six (λ j. pos 1 *ℤ at first_rows 1 j ≡ sum_to 3 (λ k. at units 1 k *ℤ at first_rows k j)) refl refl refl refl refl refl)
      (six (λ j. pos 1 *ℤ at first_rows 2 j ≡ sum_to 3 (λ k. at units 2 k *ℤ at first_rows k j)) refl refl refl refl refl refl);
  column = λ i l. omega arith;
  diagonal = three (λ i. at first_rows i i ≡ pos 1) refl refl refl;
  apart = λ i k li lk. three (λ i. k ≢ i → at first_rows i k ≡ pos 0)
      (three (λ k. k ≢ 0 → at first_rows 0 k ≡ pos 0) (λ d. absurd (d refl)) (λ d. refl) (λ d. refl) k lk)
      (three (λ k. k ≢ 1 → at first_rows 1 k ≡ pos 0) (λ d. refl) (λ d. absurd (d refl)) (λ d. refl) k lk)
      (three (λ k. k ≢ 2 → at first_rows 2 k ≡ pos 0) (λ d. refl) (λ d. refl) (λ d. absurd (d refl)) k lk) i li;
  own = three (λ i. at units i i ≡ pos 1) refl refl refl;
  others = λ i k li lk out. three (λ i. k ≢ i → at units i k ≡ pos 0)
      (three (λ k. k ≢ 0 → at units 0 k ≡ pos 0) (λ d. absurd (d refl)) (λ d. refl) (λ d. refl) k lk)
      (three (λ k. k ≢ 1 → at units 1 k ≡ pos 0) (λ d. refl) (λ d. absurd (d refl)) (λ d. refl) k lk)
      (three (λ k. k ≢ 2 → at units 2 k ≡ pos 0) (λ d. refl) (λ d. refl) (λ d. absurd (d refl)) k lk) i li;
  aim_each = five (λ j. pos 1 *ℤ (pos 1 *ℤ aims aim_numbers j -ℤ aims first_aims j)
      ≡ sum_to 3 (λ k. aims (pos 0 ∷ pos 0 ∷ pos 0 ∷ []) k *ℤ at first_rows k j)) refl refl refl refl refl;
  aim_side = refl;
  aim_others = λ k lk out. three (λ k. aims (pos 0 ∷ pos 0 ∷ pos 0 ∷ []) k ≡ pos 0) refl refl refl k lk;
  aim_apart = three (λ k. aims first_aims k ≡ pos 0) refl refl refl;
  multiple = refl;
}

abbrev last_named : Named last_columns last_list
last_named = ((2, omega arith, refl), ((1, omega arith, refl), ((0, omega arith, refl), tt)))

last_rows_listed : (i : ℕ) → i < 3 → RowListed last_list i
last_rows_listed = three (RowListed last_list) (3, (2, omega arith, refl)) (1, (1, omega arith, refl)) (2, (0, omega arith, refl))

last_step : IsStep last_list last_columns last_rows last_multipliers last_aims (pos 3 ∷ pos 0 ∷ pos 0 ∷ [])
last_step = record {
  named = listed_named last_columns last_list last_named;
  combination = three (λ i. (j : ℕ) → j ≤ 5 → pos 1 *ℤ at last_rows i j ≡ sum_to 3 (λ k. at last_multipliers i k *ℤ at first_rows k j))
      (six (λ j. pos 1 *ℤ at last_rows 0 j ≡ sum_to 3 (λ k. at last_multipliers 0 k *ℤ at first_rows k j)) refl refl refl refl refl refl)
      (six (λ j. pos 1 *ℤ at last_rows 1 j ≡ sum_to 3 (λ k. at last_multipliers 1 k *ℤ at first_rows k j)) refl refl refl refl refl refl)
      (six (λ j. pos 1 *ℤ at last_rows 2 j ≡ sum_to 3 (λ k. at last_multipliers 2 k *ℤ at first_rows k j)) refl refl refl refl refl refl);
  column = three (λ i. last_columns i ≤ 5) (omega arith) (omega arith) (omega arith);
  diagonal = three (λ i. at last_rows i (last_columns i) ≡ pos 1) refl refl refl;
  apart = λ i k li lk. three (λ i. k ≢ i → at last_rows i (last_columns k) ≡ pos 0)
      (three (λ k. k ≢ 0 → at last_rows 0 (last_columns k) ≡ pos 0) (λ d. absurd (d refl)) (λ d. refl) (λ d. refl) k lk)
      (three (λ k. k ≢ 1 → at last_rows 1 (last_columns k) ≡ pos 0) (λ d. refl) (λ d. absurd (d refl)) (λ d. refl) k lk)
      (three (λ k. k ≢ 2 → at last_rows 2 (last_columns k) ≡ pos 0) (λ d. refl) (λ d. refl) (λ d. absurd (d refl)) k lk) i li;
  own = three (λ i. at last_multipliers i i ≡ pos 1) refl refl refl;
  others = λ i k li lk out d. absurd (out (last_rows_listed k lk));
  aim_each = five (λ j. pos 1 *ℤ (pos 1 *ℤ aims aim_numbers j -ℤ aims last_aims j)
      ≡ sum_to 3 (λ k. aims (pos 3 ∷ pos 0 ∷ pos 0 ∷ []) k *ℤ at first_rows k j)) refl refl refl refl refl;
  aim_side = refl;
  aim_others = λ k lk out. absurd (out (last_rows_listed k lk));
  aim_apart = three (λ k. aims last_aims (last_columns k) ≡ pos 0) refl refl refl;
  multiple = refl;
}

-- ---- the steps

abbrev lists : ℕ → Listing
lists zero = []
lists (suc zero) = (3, 3) ∷ []
lists (suc (suc zero)) = (3, 3) ∷ (2, 2) ∷ []
lists (suc (suc (suc zero))) = each_own
lists (suc (suc (suc (suc k)))) = last_list

abbrev tables : ℕ → Table
tables (suc (suc (suc (suc k)))) = last_rows
tables k = first_rows

abbrev aims_at : ℕ → List ℤ
aims_at (suc (suc (suc (suc k)))) = last_aims
aims_at k = first_aims

abbrev own_named : Named (λ i. i) each_own
own_named = ((2, omega arith, refl), ((1, omega arith, refl), ((0, omega arith, refl), tt)))

module _ (p : Program) (t : IsTied p) where
  first_are : (l : Listing) → Named (λ i. i) l → IsRowsOf p l (at first_rows) (aims first_aims)
  first_are l n = rows_are p t l (λ i. i) first_rows units first_aims (pos 0 ∷ pos 0 ∷ pos 0 ∷ []) (first_step l n)

  step_rows : (k : ℕ) → k ≤ 4 → IsRowsOf p (lists k) (at (tables k)) (aims (aims_at k))
  step_rows zero l = first_are [] tt
  step_rows (suc zero) l = first_are ((3, 3) ∷ []) ((2, omega arith, refl), tt)
  step_rows (suc (suc zero)) l = first_are ((3, 3) ∷ (2, 2) ∷ []) ((2, omega arith, refl), ((1, omega arith, refl), tt))
  step_rows (suc (suc (suc zero))) l = first_are each_own own_named
  step_rows (suc (suc (suc (suc k)))) l = rows_are p t last_list last_columns last_rows last_multipliers last_aims (pos 3 ∷ pos 0 ∷ pos 0 ∷ []) last_step

  step_narrow : (k : ℕ) → AllNarrow p (at (tables k)) (aims (aims_at k))
  step_narrow zero = (λ i j li lj. narrow_at first_rows refl i j, λ j l. narrow_in first_aims refl j)
  step_narrow (suc zero) = (λ i j li lj. narrow_at first_rows refl i j, λ j l. narrow_in first_aims refl j)
  step_narrow (suc (suc zero)) = (λ i j li lj. narrow_at first_rows refl i j, λ j l. narrow_in first_aims refl j)
  step_narrow (suc (suc (suc zero))) = (λ i j li lj. narrow_at first_rows refl i j, λ j l. narrow_in first_aims refl j)
  step_narrow (suc (suc (suc (suc k)))) = (λ i j li lj. narrow_at last_rows refl i j, λ j l. narrow_in last_aims refl j)

  -- ---- the pivot

  enters : Enters p each_own (aims first_aims) 3
  enters =
      let up : pos 0 <ℤ pos 3 = omega (arith, ints) in
      record {
        column = omega (arith, t.cols);
        unlisted = λ h. (let n = listed_named (λ i. i) each_own own_named h.0 3 h.1 in absurd (omega (arith, n.0, n.1)));
        rises = up;
        least = λ j l out. three (λ j. aims first_aims j ≤ℤ pos 0) none_above none_above none_above j l;
      }

  leaves : Leaves p each_own (at first_rows) 3 0 0
  leaves =
      let up : pos 0 <ℤ pos 1 = omega (arith, ints) in
      let even : pos 2 ≤ℤ pos 2 = omega (arith, ints) in
      let twice : pos 4 ≤ℤ pos 4 = omega (arith, ints) in
      record {
        listed = (2, omega arith, refl);
        not_free = not_free p t 0;
        pivot = up;
        ratio = λ i j h bound rise. subst (λ (n : ℕ). (at first_rows 0 n *ℤ at first_rows i 3) ≤ℤ (at first_rows i n *ℤ pos 1)) (sym t.cols)
            (three (λ i. (pos 2 *ℤ at first_rows i 3) ≤ℤ (at first_rows i 5 *ℤ pos 1)) even even twice i (listed_named (λ i. i) each_own own_named i j h).0);
        tie = λ i j h bound rise e. omega arith;
      }

  pivot : IsPivot p each_own (at first_rows) (aims first_aims) last_list 3 0
  pivot = record { enters = enters; place = (2, 0, omega arith, refl, leaves, refl) }

  none_enters : NoneEnters p last_list (aims last_aims)
  none_enters j l out =
      let down : negsuc 2 ≤ℤ pos 0 = omega (arith, ints) in
      let less : negsuc 0 ≤ℤ pos 0 = omega (arith, ints) in
      five (λ j. aims last_aims j ≤ℤ pos 0) down none_above none_above none_above less j (omega (arith, t.cols, l))

  -- ---- the opening

  -- no pair has the row
  abbrev Fresh : ℕ → Listing → Type 0
  Fresh i [] = Unit {0}
  Fresh i (x ∷ xs) = (x.0 ≢ i + 1) × Fresh i xs

  row_fresh : (i j : ℕ) (l : Listing) (d : ℕ × ℕ) → Fresh i l → (k : ℕ) → k < length l → slice_index_or l k d ≡ (i + 1, j + 1) → ⊥
  row_fresh i j [] d f k l e = omega arith
  row_fresh i j (x ∷ xs) d f zero l e = f.0 (ap (λ (y : ℕ × ℕ). y.0) e)
  row_fresh i j (x ∷ xs) d f (suc k) l e = row_fresh i j xs d f.1 k (omega arith) e

  can_take : (l : Listing) (r : ℕ) → Named (λ i. i) l → Fresh r l → r < 3 → CanTake p l r r
  can_take l r n f lr =
      let row_free : RowListed l r → ⊥ = λ h. row_fresh r h.0 l _ f h.1.0 h.1.1 h.1.2 in
      let found = (first_are l n).unlisted r (omega (arith, t.rows, lr)) row_free in
      record {
        row = omega (arith, t.rows, lr);
        column = omega (arith, t.cols, lr);
        row_free = row_free;
        column_free = λ h. (let same = (listed_named (λ i. i) l n h.0 r h.1).1 in row_free (r, subst (λ (i : ℕ). IsListed l i r) (sym same) h.1));
        found = (found.0, found.1, at first_rows r, found.2, λ e. absurd (one_not_zero (sym ((first_step l n).diagonal r lr) ∙ e)));
      }
    where
      one_not_zero : pos 1 ≡ pos 0 → ⊥
      one_not_zero e = cc

  pub opening : IsOpening p each_own
  opening = record {
    long = sym t.rows;
    each_row = λ i l. three (RowListed each_own) (0, (2, omega arith, refl)) (1, (1, omega arith, refl)) (2, (0, omega arith, refl)) i
        (omega (arith, t.rows, l));
    taken = three (λ k. (r : ℕ) × (c : ℕ) × (slice_index_or each_own k (0, 0) ≡ (r + 1, c + 1)) × CanTake p (take k each_own) r c)
        (2, 2, refl, can_take [] 2 tt tt (omega arith))
        (1, 1, refl, can_take ((3, 3) ∷ []) 1 ((2, omega arith, refl), tt) (λ e. omega arith, tt) (omega arith)) (
          0,
          0,
          refl,
          can_take ((3, 3) ∷ (2, 2) ∷ []) 0 ((2, omega arith, refl), ((1, omega arith, refl), tt))
              (λ e. omega arith, (λ e. omega arith, tt)) (omega arith),
        );
    free_named = λ j l f. absurd (not_free p t j f);
    feasible = (pos 1, aims start, record { solution = record { positive = one; solves = solves }; nonnegative = nonnegative }, λ j l out. unlisted j l out);
  }
    where
      one : pos 0 <ℤ pos 1
      one = omega (arith, ints)

      solves : (i : ℕ) → i < p.rows → sum_to p.cols (λ j. number p i j *ℤ aims start j) ≡ pos 1 *ℤ number p i p.cols
      solves = across p t (λ m n A b. (i : ℕ) → i < m → sum_to n (λ j. A i j *ℤ aims start j) ≡ pos 1 *ℤ A i n)
          (three (λ i. sum_to 5 (λ j. at first_rows i j *ℤ aims start j) ≡ pos 1 *ℤ at first_rows i 5) refl refl refl)

      two : pos 0 ≤ℤ pos 2
      two = omega (arith, ints)

      four : pos 0 ≤ℤ pos 4
      four = omega (arith, ints)

      nonnegative : (j : ℕ) → j < p.cols → (IsFree p j → ⊥) → pos 0 ≤ℤ aims start j
      nonnegative j l bound = five (λ j. pos 0 ≤ℤ aims start j) two two four none_above none_above j (omega (arith, t.cols, l))

      unlisted : (j : ℕ) → j < p.cols → (ColListed each_own j → ⊥) → aims start j ≡ pos 0
      unlisted j l = five (λ j. (ColListed each_own j → ⊥) → aims start j ≡ pos 0) (λ out. absurd (out (0, (2, omega arith, refl))))
          (λ out. absurd (out (1, (1, omega arith, refl)))) (λ out. absurd (out (2, (0, omega arith, refl)))) (λ out. refl) (λ out. refl) j
          (omega (arith, t.cols, l))

  -- ---- the path

  abbrev steps : States
  steps = record { lists = lists; rows = λ k. at (tables k); aim = λ k. aims (aims_at k); entering = λ k. 3; leaving = λ k. 0 }

  path : IsPath p each_own 4 steps
  path = record { opens = opens; pivots = pivots; rows = step_rows; narrow = λ k some less. step_narrow k }
    where
      opens : (k : ℕ) → k ≤ 4 → k ≤ 3 → lists k ≡ take k each_own
      opens zero l h = refl
      opens (suc zero) l h = refl
      opens (suc (suc zero)) l h = refl
      opens (suc (suc (suc zero))) l h = refl
      opens (suc (suc (suc (suc k)))) l h = absurd (omega arith)

      pivots : (k : ℕ) → 3 ≤ k → k < 4 → IsPivot p (lists k) (at (tables k)) (aims (aims_at k)) (lists (suc k)) 3 0
      pivots zero l h = absurd (omega arith)
      pivots (suc zero) l h = absurd (omega arith)
      pivots (suc (suc zero)) l h = absurd (omega arith)
      pivots (suc (suc (suc zero))) l h = pivot
      pivots (suc (suc (suc (suc k)))) l h = absurd (omega arith)

  stops : PathStops p each_own 9 (ends 1 last_list)
  stops = record {
    stops = (
      4,
      steps,
      (record { path = path; whole = omega arith; within = omega arith; narrow = λ some. step_narrow 4 }, none_enters, refl, refl),
    );
  }

  pivot_is : (n : ℕ) (s : States) → IsPath p each_own n s → 3 < n → (s.entering 3 ≡ 3) × (s.leaving 3 ≡ 0)
  pivot_is n s h l =
      let list : s.lists 3 ≡ each_own = h.opens 3 (omega arith) (omega arith) in
      let rows = subst (λ (x : Listing). IsRowsOf p x (s.rows 3) (s.aim 3)) list (h.rows 3 (omega arith)) in
      let full : IsFull p each_own = opening_is_full opening in
      let agree = rows_agree full rows (first_are each_own own_named) in
      let turn = subst (λ (x : Listing). IsPivot p x (s.rows 3) (s.aim 3) (s.lists 4) (s.entering 3) (s.leaving 3)) list
      (h.pivots 3 (omega arith) (omega arith)) in
      let in' = enters_same agree turn.enters enters in
      let out = subst (λ (e : ℕ). Leaves p each_own (s.rows 3) e turn.place.1 (s.leaving 3)) in' turn.place.4 in
      let same = leaves_same full.is_list (omega (arith, t.cols)) agree out leaves in
      (in', same.1)

pub tied_path : (p : Program) → IsTied p → IsOpening p each_own × PathStops p each_own 9 (ends 1 ((3, 3) ∷ (2, 2) ∷ (1, 4) ∷ []))
tied_path p t = (opening p t, stops p t)

pub tied_pivot : (p : Program) → IsTied p → (n : ℕ) (s : States) → IsPath p each_own n s → 3 < n → (s.entering 3 ≡ 3) × (s.leaving 3 ≡ 0)
tied_pivot p t n s h l = pivot_is p t n s h l
