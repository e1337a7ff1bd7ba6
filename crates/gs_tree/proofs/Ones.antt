-- A list of ones and two lists behind it: where each number is 1, what stands at a place, and the list with one number more.
use Rattle.std.proofs.Common.{◌≡◌, ◌+◌, ◌-◌, ◌<◌, ◌≤◌, ◌++◌, ◌∷◌, ◌∙◌, [], EachIndex, List, ap, append-nil, append_assoc, arith, get_or, length, length-append}
use Rattle.std.proofs.Common.{refl, replicate, slice_index, suc, sym, zero, ℕ}
use Rattle.std.proofs.lemmas.{List.{get_or_append_left, get_or-append_right, length-replicate, replicate_more}, Grind.{get_or_default_zero}}

pub ones_joined : (ms ns : List ℕ) → EachIndex ms (λ i. slice_index ms i ≡ 1) → EachIndex ns (λ i. slice_index ns i ≡ 1)
    → EachIndex (ms ++ ns) (λ i. slice_index (ms ++ ns) i ≡ 1)
ones_joined [] ns g h i l = h i l
ones_joined (m ∷ ms) ns g h zero l = g 0 (omega arith)
ones_joined (m ∷ ms) ns g h (suc i) l = ones_joined ms ns (λ k b. g (suc k) (omega (arith, b))) h i (omega (arith, l))

pub ones_ahead : (ms ns : List ℕ) → EachIndex (ms ++ ns) (λ i. slice_index (ms ++ ns) i ≡ 1) → EachIndex ms (λ i. slice_index ms i ≡ 1)
ones_ahead [] ns h i l = absurd (omega (arith, l))
ones_ahead (m ∷ ms) ns h zero l = h 0 (omega arith)
ones_ahead (m ∷ ms) ns h (suc i) l = ones_ahead ms ns (λ k b. h (suc k) (omega (arith, b))) i (omega (arith, l))

pub ones_behind : (ms ns : List ℕ) → EachIndex (ms ++ ns) (λ i. slice_index (ms ++ ns) i ≡ 1) → EachIndex ns (λ i. slice_index ns i ≡ 1)
ones_behind [] ns h i l = h i l
ones_behind (m ∷ ms) ns h i l = ones_behind ms ns (λ k b. h (suc k) (omega (arith, b))) i l

pub are_replicated : (n : ℕ) → EachIndex {X = ℕ} (replicate n 1) (λ i. slice_index (replicate n 1) i ≡ 1)
are_replicated zero i l = absurd (omega (arith, l))
are_replicated (suc n) zero l = refl
are_replicated (suc n) (suc i) l = are_replicated n i (omega (arith, l))

-- a place behind the ones, in the first list
pub at_rest : (ones : ℕ) (rest wide all : List ℕ) (i n : ℕ) → (replicate ones 1 ++ rest) ++ wide ≡ all → ones ≤ i → i - ones < length rest
    → n ≡ get_or rest (i - ones) n → n ≡ slice_index all i
at_rest ones rest wide all i n same from here is =
    let front : List ℕ = replicate ones 1 in
    let long : length front ≡ ones = length-replicate ones 1 in
    is ∙ get_or_default_zero rest (i - ones) n here ∙ sym (get_or-append_right front rest ones i 0 long from)
    ∙ sym (get_or_append_left (front ++ rest) wide 0 i (omega (arith, here, from, long, length-append front rest))) ∙ ap (λ l. slice_index l i) same

-- a place behind both is in the second list
pub wide_in : (ones : ℕ) (rest wide all : List ℕ) (i k : ℕ) → (replicate ones 1 ++ rest) ++ wide ≡ all → i < length all → k ≡ length rest → k ≤ i - ones
    → ones ≤ i → i - ones - k < length wide
wide_in ones rest wide all i k same here long over from =
    let front : List ℕ = replicate ones 1 in
    omega (
      arith,
      here,
      long,
      over,
      from,
      ap (λ (l : List ℕ). length l) same,
      length-append (front ++ rest) wide,
      length-append front rest,
      length-replicate {A = ℕ} ones 1,
    )

-- and what stands there
pub at_wide : (ones : ℕ) (rest wide all : List ℕ) (i k n : ℕ) → (replicate ones 1 ++ rest) ++ wide ≡ all → i < length all → k ≡ length rest → k ≤ i - ones
    → ones ≤ i → n ≡ get_or wide (i - ones - k) n → n ≡ slice_index all i
at_wide ones rest wide all i k n same within long over from is =
    let front : List ℕ = replicate ones 1 in
    let both : length (front ++ rest) ≡ ones + k = omega (arith, long, length-append front rest, length-replicate {A = ℕ} ones 1) in
    let place : i - ones - k ≡ i - (ones + k) = omega arith in
    is ∙ get_or_default_zero wide (i - ones - k) n (wide_in ones rest wide all i k same within long over from) ∙ ap (λ j. get_or wide j 0) place
    ∙ sym (get_or-append_right (front ++ rest) wide (ones + k) i 0 both (omega (arith, over, from))) ∙ ap (λ l. slice_index l i) same

-- one number more in the first list, where the second is empty
pub more_rest : (ones : ℕ) (rest wide all more : List ℕ) (n : ℕ) → (replicate ones 1 ++ rest) ++ wide ≡ all → length wide ≡ 0 → more ≡ rest ++ n ∷ []
    → (replicate ones 1 ++ more) ++ wide ≡ all ++ n ∷ []
more_rest ones rest [] all more n same none is =
    let front : List ℕ = replicate ones 1 in
    append-nil (front ++ more) ∙ ap (λ x. front ++ x) is ∙ sym (append_assoc front rest (n ∷ []))
    ∙ ap (λ x. x ++ n ∷ []) (sym (append-nil (front ++ rest)) ∙ same)
more_rest ones rest (w ∷ wide) all more n same none is = absurd (omega (arith, none))

-- where both are empty the list has the ones alone
pub ones_alone : (ones : ℕ) (rest wide all : List ℕ) → (replicate ones 1 ++ rest) ++ wide ≡ all → length rest ≡ 0 → length wide ≡ 0 → all ≡ replicate ones 1
ones_alone ones [] [] all same none empty = sym same ∙ append-nil (replicate ones 1 ++ []) ∙ append-nil (replicate ones 1)
ones_alone ones (r ∷ rest) wide all same none empty = absurd (omega (arith, none))
ones_alone ones [] (w ∷ wide) all same none empty = absurd (omega (arith, empty))

-- one more of them
pub more_ones : (ones : ℕ) (rest wide all : List ℕ) (n : ℕ) → (replicate ones 1 ++ rest) ++ wide ≡ all → length rest ≡ 0 → length wide ≡ 0 → n ≡ 1
    → (replicate (ones + 1) 1 ++ rest) ++ wide ≡ all ++ n ∷ []
more_ones ones [] [] all n same none empty one =
    append-nil (replicate (ones + 1) 1 ++ []) ∙ append-nil (replicate (ones + 1) 1) ∙ sym (replicate_more ones 1)
    ∙ ap (λ k. replicate ones 1 ++ k ∷ []) (sym one) ∙ ap (λ x. x ++ n ∷ []) (sym (ones_alone ones [] [] all same none empty))
more_ones ones (r ∷ rest) wide all n same none empty one = absurd (omega (arith, none))
more_ones ones [] (w ∷ wide) all n same none empty one = absurd (omega (arith, empty))
