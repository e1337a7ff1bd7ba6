-- The sizes of some classes together: no more than the signals of their round.
use Rattle.std.proofs.{Common.{◌≡◌, ℕ, zero, suc, ◌+◌, ◌<◌, ◌≤◌, false, cond, List, [], ◌∷◌, length, sym, ap, ◌∙◌, arith, ⊎_elim, count_by}, lemmas.Int.{ints}}
use Rattle.std.specs.{Prelude.{◌==◌, pos, ◌+ℤ◌, sum_by}, List.{range_with_len}}
use Rattle.std.proofs.{lemmas.Bool.{cases_eq}, lemmas.Bool.Decides.{Decides-eqb}, lemmas.List.Sums.{sum_by-cons}}
use Rattle.gs_model.specs.{Classes.{class_size, list_of}, Frame.{last_round}}
use Rattle.gs_model.proofs.{Basics.{not_eq, pos-injective, sum-cond, sum-same}, Regroup.{sum_z-pos}}
use Rattle.gs_seq.proofs.{EndTotals.{range_more}, Forms.{form_classes, form_signals}}
use Rattle.gs_best.specs.{Sides.{frame_at, lists_at}, declared.side.Side.{Side}}

-- how often a number stands in a range
abbrev times : ℕ → ℕ → ℕ → ℕ
times x a n = sum_by (λ k. cond {A = ℕ} (x == k) 1 0) (range_with_len a n)

times_past : (x a n : ℕ) → x < a → times x a n ≡ 0
times_past x a zero l = omega arith
times_past x a (suc n) l = omega (
  arith,
  sum_by-cons (λ k. cond {A = ℕ} (x == k) 1 0) a (range_with_len (a + 1) n),
  ap (λ b. cond {A = ℕ} b 1 0) (not_eq x a (λ e. omega (arith, e, l))),
  times_past x (a + 1) n (omega (arith, l)),
)

times_few : (x a n : ℕ) → times x a n ≤ 1
times_few x a zero = omega arith
times_few x a (suc n) =
    let more = sum_by-cons (λ k. cond {A = ℕ} (x == k) 1 0) a (range_with_len (a + 1) n) in
    ⊎_elim
    (λ (same : x ≡ a). omega (arith, more, ap (λ b. cond {A = ℕ} b 1 0) ((Decides-eqb x a).1 same), times_past x (a + 1) n (omega (arith, same))))
    (λ (other : x ≡ a → ⊥). omega (arith, more, ap (λ b. cond {A = ℕ} b 1 0) (not_eq x a other), times_few x (a + 1) n))
    (cases_eq x a)

both : (u v : ℕ → ℕ) (xs : List ℕ) → sum_by (λ k. u k + v k) xs ≡ sum_by u xs + sum_by v xs
both u v [] = omega arith
both u v (x ∷ xs) = omega (arith, sum_by-cons (λ k. u k + v k) x xs, sum_by-cons u x xs, sum_by-cons v x xs, both u v xs)

counts_few : (xs : List ℕ) (a n : ℕ) → sum_by (λ k. count_by (λ x. x == k) xs) (range_with_len a n) ≤ length xs
counts_few [] a n = omega (arith, sum-cond false (λ (k : ℕ). 0) (range_with_len a n))
counts_few (x ∷ xs) a n =
    let split = sum-same (λ k. count_by (λ y. y == k) (x ∷ xs)) (λ k. cond {A = ℕ} (x == k) 1 0 + count_by (λ y. y == k) xs)
    (λ k. sum_by-cons (λ y. cond {A = ℕ} (y == k) 1 0) x xs) (range_with_len a n) in
    omega (
      arith,
      split,
      both (λ k. cond {A = ℕ} (x == k) 1 0) (λ k. count_by (λ y. y == k) xs) (range_with_len a n),
      times_few x a n,
      counts_few xs a n,
    )

-- one number more of a range
pub sum_more : (u : ℕ → ℕ) (a n : ℕ) → sum_by u (range_with_len a (n + 1)) ≡ sum_by u (range_with_len a n) + u (a + n)
sum_more u a n =
    pos-injective (sum_by u (range_with_len a (n + 1))) (sum_by u (range_with_len a n) + u (a + n))
    (sym (sum_z-pos u (range_with_len a (n + 1))) ∙ range_more (λ k. pos (u k)) a n ∙ ap (λ z. z +ℤ pos (u (a + n))) (sum_z-pos u (range_with_len a n))
    ∙ omega (arith, ints))

pub sizes_few : (s : Side) (round : ℕ) → 0 < round → round ≤ last_round (frame_at s) → (a n : ℕ)
    → sum_by (class_size (lists_at s) round) (range_with_len a n) ≤ 200000
sizes_few s round some top a n = omega (
  arith,
  counts_few (list_of (lists_at s) round) a n,
  (form_classes s.form.now).lengths round some top,
  form_signals s.form.now round some top,
)
