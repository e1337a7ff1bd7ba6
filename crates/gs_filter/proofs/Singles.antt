-- Lists in which each signal is a class of its own, and their tallies.
use Rattle.std.proofs.Common.{◌≡◌, ◌+◌, ◌-◌, ◌++◌, ◌<◌, ◌≤◌, ◌∷◌, ℕ, zero, suc, List, [], EachIndex, slice_index, length, get_or, refl, sym, ◌∙◌, ap, subst}
use Rattle.std.proofs.{Common.{arith}, lemmas.List.{get_or_append_left, get_or-append_right, get_or_default, same_lists, map-id}}
use Rattle.std.proofs.lemmas.List.FromFn.{length-range_with_len, get_or-range_with_len, length-map-range_with_len, get_or-map-range_with_len}
use Rattle.std.proofs.lemmas.List.FromFn.{map-range_with_len_more}
use Rattle.std.specs.List.{range_with_len}
use Rattle.gs_model.specs.Numbering.{greatest, IsNumbered}
use Rattle.gs_filter.specs.{declared.tally.Tally.{Tally}, Tallies.{tallies_of, single_tallies}}
use Rattle.gs_filter.proofs.{ClassLaws.{counts}, TallyLaws.{length-tallies_of, tallies_more-new}}

abbrev pub single : ℕ → Tally
single at = record { size = 1; first = at }

pub one_more : (n : ℕ) → range_with_len 1 (n + 1) ≡ range_with_len 1 n ++ (n + 1) ∷ []
one_more n =
    let e : 1 + n ≡ n + 1 = omega arith in
    sym (map-id (range_with_len 1 (n + 1))) ∙ map-range_with_len_more (λ k. k) 1 n (n + 1) e ∙ ap (λ l. l ++ (n + 1) ∷ []) (map-id (range_with_len 1 n))

pub length-singles : (n : ℕ) → length (single_tallies n) ≡ n
length-singles n = length-map-range_with_len single 0 n

tallies_counted : (n : ℕ) → tallies_of (range_with_len 1 n) ≡ single_tallies n
tallies_counted zero = refl
tallies_counted (suc n) =
    let e : suc n ≡ n + 1 = omega arith in
    let before = tallies_counted n in
    let long = length-range_with_len 1 n in
    let top : greatest (range_with_len 1 n) ≡ n = sym (length-tallies_of (range_with_len 1 n)) ∙ ap length before ∙ length-singles n in
    let z : 0 + n ≡ n = omega arith in
    let next : n + 1 ≡ 1 + greatest (range_with_len 1 n) = omega arith in
    ap (λ k. tallies_of (range_with_len 1 k)) e ∙ ap tallies_of (one_more n) ∙ tallies_more-new (range_with_len 1 n) (n + 1) (counts n) next
    ∙ ap (λ l. l ++ single (length (range_with_len 1 n)) ∷ []) before ∙ ap (λ k. single_tallies n ++ single k ∷ []) long
    ∙ sym (map-range_with_len_more single 0 n n z) ∙ ap single_tallies (sym e)

module _ (list : List ℕ) (up : EachIndex list (λ i. slice_index list i ≡ i + 1)) where
  counted_list : list ≡ range_with_len 1 (length list)
  counted_list = same_lists _ _ (sym (length-range_with_len 1 (length list)))
      (λ k d l. let e : k + 1 ≡ 1 + k = omega arith in
      get_or_default list k d 0 l ∙ up k l ∙ e ∙ sym (get_or-range_with_len 1 (length list) k d l))

  pub tallies_single : single_tallies (length list) ≡ tallies_of list
  tallies_single = sym (ap tallies_of counted_list ∙ tallies_counted (length list))

  pub numbered_single : IsNumbered list
  numbered_single = subst IsNumbered (sym counted_list) (counts (length list))

-- a read below and a read behind the single members
pub read_single : (n : ℕ) (rest : List Tally) (i : ℕ) (d : Tally) → i < n → single i ≡ get_or (single_tallies n ++ rest) i d
read_single n rest i d l =
    let long = length-singles n in
    let z : 0 + i ≡ i = omega arith in
    sym (get_or_append_left (single_tallies n) rest d i (omega arith) ∙ get_or-map-range_with_len single 0 n i i d l z)

pub read_rest : (n : ℕ) (rest : List Tally) (i : ℕ) (d : Tally) → n ≤ i → get_or rest (i - n) d ≡ get_or (single_tallies n ++ rest) i d
read_rest n rest i d l = sym (get_or-append_right (single_tallies n) rest n i d (length-singles n) l)
