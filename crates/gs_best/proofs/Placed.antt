-- Rows that stand in a list one behind another, each with a width of its own: where they start, and that they lie within the list.
use Rattle.std.proofs.{Common.{◌≡◌, ℕ, zero, suc, ◌+◌, ◌-◌, ◌<◌, ◌≤◌, List, length, get_or, ap, ◌∙◌, subst, arith, ⊎_elim, sum_by}, lemmas.Bool.{cases_lt}}
use Rattle.std.proofs.lemmas.List.{get_or_read}
use Rattle.std.specs.List.{range_with_len}
use Rattle.gs_seq.proofs.SlotLaws.{sum_range_le, sum_range_more}

-- behind all rows before it
abbrev pub row_start : (ℕ → ℕ) → ℕ → ℕ
row_start width q = sum_by width (range_with_len 0 q)

-- a row of the first n: its start, its width, and that it ends where they do at the latest
pub record IsRow (width : ℕ → ℕ) (n q start count : ℕ) : Type 0 where
  pub start_is : start ≡ row_start width q
  pub count_is : count ≡ width q
  pub within : start + count ≤ row_start width n

-- a row whose start was read from a list
pub row_read : (width : ℕ → ℕ) (n q start count : ℕ) (starts : List ℕ) → q < n → n ≤ length starts → ((k : ℕ) → k < n → get_or starts k 0 ≡ row_start width k)
    → start ≡ get_or starts q start → count ≡ width q → IsRow width n q start count
row_read width n q start count starts l many all read e =
    let at : start ≡ row_start width q = get_or_read starts q start (omega (arith, l, many)) read 0 ∙ all q l in
    record { start_is = at; count_is = e; within = omega (arith, at, e, sum_range_more width q, sum_range_le width (q + 1) n (omega (arith, l))) }

-- the next row starts where it ends
pub row_next : (width : ℕ → ℕ) (q start count : ℕ) → start ≡ row_start width q → count ≡ width q → start + count ≡ row_start width (q + 1)
row_next width q start count at e = omega (arith, at, e, sum_range_more width q)

-- a later row starts behind
pub row_later : (width : ℕ → ℕ) (q start count later : ℕ) → start ≡ row_start width q → count ≡ width q → q < later → start + count ≤ row_start width later
row_later width q start count later at e l = omega (arith, at, e, sum_range_more width q, sum_range_le width (q + 1) later (omega (arith, l)))

-- the place of a number of a row lies before any later row
pub place_inside : (width : ℕ → ℕ) (later q c : ℕ) → q < later → (0 < c) × (c ≤ width q) → row_start width q + (c - 1) < row_start width later
place_inside width later q c l lc = omega (arith, sum_range_more width q, sum_range_le width (q + 1) later (omega (arith, l)), lc.0, lc.1)

-- what holds at each place of each row holds at all places
pub all_places : (width : ℕ → ℕ) (P : ℕ → Type 0) (n : ℕ) → ((q k : ℕ) → q < n → k < width q → P (row_start width q + k)) → (i : ℕ) → i < row_start width n
    → P i
all_places width P zero h i l = absurd (omega (arith, l))
all_places width P (suc n) h i l =
    let e : suc n ≡ n + 1 = omega arith in
    let more = ap (row_start width) e ∙ sum_range_more width n in
    ⊎_elim
    (λ (before : i < row_start width n). all_places width P n (λ q k lq. h q k (omega (arith, lq))) i before)
    (λ (behind : row_start width n ≤ i).
    let at : row_start width n + (i - row_start width n) ≡ i = omega (arith, behind) in
    subst P at (h n (i - row_start width n) (omega arith) (omega (arith, l, more, behind))))
    (cases_lt i (row_start width n))
