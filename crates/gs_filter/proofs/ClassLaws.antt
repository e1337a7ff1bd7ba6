-- What a value of classes tells, and single signals.
use Rattle.std.proofs.Common.{◌≡◌, ◌+◌, ◌-◌, ◌<◌, ◌≤◌, ◌^◌, ℕ, zero, suc, List, [], length, take, get_or, sym, ◌∙◌, ap, subst, arith, ⊎_elim}
use Rattle.std.proofs.{lemmas.Bool.{cases_lt}, lemmas.List.{get_or-map, length-map, get_or-take, length-take-le, take_more}}
use Rattle.std.proofs.lemmas.List.FromFn.{length-range_with_len, get_or-range_with_len}
use Rattle.std.specs.List.{range_with_len}
use Rattle.gs_model.specs.{Numbering.{greatest, IsNumbered}, Classes.{list_of, class_of, class_count, first_member, IsClass, IsClasses}}
use Rattle.gs_model.proofs.{Numbered.{greatest_push, whole}, Push.{le_greatest}}
use Rattle.gs_filter.specs.Filter.{Filter, single_classes}
use Rattle.gs_filter.proofs.TallyLaws.{first_in, number_in, first_member_of}

module _ (f : Filter) (round : ℕ) (some : 0 < round) (top : round ≤ length f.lists) where
  pub numbered_at : IsNumbered (list_of f.lists round)
  numbered_at = let e = f.classes.rounds in f.classes.numbered round some (omega arith)

  pub long_at : length (list_of f.lists round) ≡ length (list_of f.parents round)
  long_at = let e = f.classes.rounds in f.classes.lengths round some (omega arith)

  pub short_at : length (list_of f.lists round) < 2 ^ 32
  short_at = let e = f.classes.rounds in let l = long_at in let s = f.forest.short round some (omega arith) in omega arith

  pub class_at : (s : ℕ) → s < length (list_of f.lists round) → IsClass f.lists round (class_of f.lists round s)
  class_at s l = number_in (list_of f.lists round) s numbered_at l

  pub first_within : (class : ℕ) → IsClass f.lists round class → first_member f.lists round class < length (list_of f.lists round)
  first_within class is = first_in (list_of f.lists round) class numbered_at is.0 is.1

  pub first_own : (class : ℕ) → IsClass f.lists round class → class_of f.lists round (first_member f.lists round class) ≡ class
  first_own class is = first_member_of (list_of f.lists round) class numbered_at is.0 is.1

-- ---- each signal a class of its own

pub single_at : (parents : List (List ℕ)) (round : ℕ) → 0 < round → round ≤ length parents
    → list_of (single_classes parents) round ≡ range_with_len 1 (length (list_of parents round))
single_at parents round some top = get_or-map (λ (l : List ℕ). range_with_len 1 (length l)) parents (round - 1) [] [] (omega arith)

pub counts : (n : ℕ) → IsNumbered (range_with_len 1 n)
counts n k l =
    let xs = range_with_len 1 n in
    let long = length-range_with_len 1 n in
    let here = get_or-range_with_len 1 n k 0 (omega arith) in
    let up : k ≤ greatest (take k xs) = ⊎_elim
    (λ some.
    let t : length (take k xs) ≡ k = length-take-le k xs (omega arith) in
    let g = le_greatest (take k xs) (k - 1) (omega arith) in
    let a = get_or-take k xs (k - 1) 0 (omega arith) in
    let b = get_or-range_with_len 1 n (k - 1) 0 (omega arith) in
    omega arith)
    (λ none. omega arith)
    (cases_lt 0 k) in
    (omega arith, omega arith)

pub single_are_classes : (parents : List (List ℕ)) → IsClasses parents (single_classes parents)
single_are_classes parents = record {
  rounds = length-map parents (λ (l : List ℕ). range_with_len 1 (length l));
  lengths = λ round some top. ap length (single_at parents round some top) ∙ length-range_with_len 1 (length (list_of parents round));
  numbered = λ round some top. subst IsNumbered (sym (single_at parents round some top)) (counts (length (list_of parents round)));
  filter = λ round s t some top ls lt same.
      let n = length (list_of parents (round + 1)) in
      let e = single_at parents (round + 1) (omega arith) (omega arith) in
      let is : (u : ℕ) → u < n → class_of (single_classes parents) (round + 1) u ≡ 1 + u =
      λ u lu. ap (λ (l : List ℕ). get_or l u 0) e ∙ get_or-range_with_len 1 n u 0 lu in
      let a = is s ls in
      let b = is t lt in
      let st : s ≡ t = omega arith in
      ap (λ u. class_of (single_classes parents) round (get_or (list_of parents (round + 1)) u 0)) st;
}

-- a numbered list has no more classes than places
pub greatest_before : (xs : List ℕ) → IsNumbered xs → (n : ℕ) → n ≤ length xs → greatest (take n xs) ≤ n
greatest_before xs h zero l = omega arith
greatest_before xs h (suc n) l =
    let e : suc n ≡ n + 1 = omega arith in
    let r = greatest_before xs h n (omega arith) in
    let m = ap (λ k. greatest (take k xs)) e ∙ ap greatest (take_more xs n 0 (omega arith)) ∙ greatest_push (take n xs) (get_or xs n 0) in
    let q = (h n (omega arith)).1 in
    omega arith

pub greatest_within : (xs : List ℕ) → IsNumbered xs → greatest xs ≤ length xs
greatest_within xs h = subst (λ l. greatest l ≤ length xs) (whole xs) (greatest_before xs h (length xs) (omega arith))

pub count_fits : (f : Filter) → (round : ℕ) → 0 < round → round ≤ length f.lists → class_count f.lists round < 2 ^ 32
count_fits f round some top = let g = greatest_within (list_of f.lists round) (numbered_at f round some top) in
    let s = short_at f round some top in omega arith
