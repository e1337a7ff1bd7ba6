-- What the parts of a signal add up to, by class and outcome.
use Rattle.std.proofs.Common.{◌≡◌, ℕ, ℤ, pos, zero, suc, ◌+◌, ◌-◌, ◌<◌, ◌≤◌, Bool, true, false, cond, ltb, List, [], ◌∷◌, map, get_or, refl, sym, ap, ◌∙◌}
use Rattle.std.proofs.{Common.{arith, sum_by}, lemmas.List.Elements.{All-filter, All-from_recursion, recursion_from_All}}
use Rattle.std.proofs.{lemmas.Bool.Decides.{Decides-eqb, nat_tests, same_from_decides}, lemmas.Grind.{flat_map-append}, lemmas.List.{append-nil}}
use Rattle.std.proofs.lemmas.List.FromFn.{get_or-map-range_with_len, length-map-range_with_len}
use Rattle.std.proofs.lemmas.List.Sums.{sum_by-append, sum_by-cons, sum_by-le, sum_by-le-sum_by}
use Rattle.std.specs.{Prelude.{All, filter, flat_map, ◌==◌}, List.{AllByRecursion, range_with_len}, Ordering.{int_eq}}
use Rattle.gs_model.specs.{Classes.{ClassLists, class_of}, Deals.{Deal, deals}, Frame.{ancestor, at_round, frame_of, last_round, signal_count, total_weight}}
use Rattle.gs_model.specs.{Game.{Game, IsPlayable}, Lossless.{weight_against, weight_with}}
use Rattle.gs_model.proofs.{Ranges.{deals_weigh, every-flat_map, in_range}, Sparse.{range_append}}
use Rattle.gs_model.proofs.Basics.{false_from_not, every-map, every-range, cond_le, sum_by-map, sum-cond, every-any}
use Rattle.gs_lossless.specs.{Amounts.{IsRun, IsRunIn, amount, counted_part, deal_part, deal_parts, keys_of}, Sums.{sum_at, weight_at}}
use Rattle.gs_lossless.specs.{declared.parts.Part.{Part}, declared.aspects.Aspect.TheVariants.{Deals, Children}}

-- ---- sums

sum_by-like : {X : Type 0} (f h : X → ℕ) (xs : List X) → AllByRecursion (λ x. f x ≡ h x) xs → sum_by f xs ≡ sum_by h xs
sum_by-like f h [] e = refl
sum_by-like f h (x ∷ xs) e = omega (arith, sum_by-cons f x xs, sum_by-cons h x xs, e.0, sum_by-like f h xs e.1)

sum_by-none : {X : Type 0} (f : X → ℕ) (xs : List X) → AllByRecursion (λ x. f x ≡ 0) xs → sum_by f xs ≡ 0
sum_by-none f [] e = refl
sum_by-none f (x ∷ xs) e = omega (arith, sum_by-cons f x xs, e.0, sum_by-none f xs e.1)

sum_by-two : {X : Type 0} (f h k : X → ℕ) → ((x : X) → k x ≡ f x + h x) → (xs : List X) → sum_by k xs ≡ sum_by f xs + sum_by h xs
sum_by-two f h k e [] = refl
sum_by-two f h k e (x ∷ xs) = omega (arith, sum_by-cons f x xs, sum_by-cons h x xs, sum_by-cons k x xs, e x, sum_by-two f h k e xs)

-- the sum over what passes a test
pub sum_by-passed : {X Y : Type 0} (h : Y → ℕ) (k : X → Y) (t : X → Bool) (xs : List X)
    → sum_by h (map k (filter t xs)) ≡ sum_by (λ x. cond (t x) (h (k x)) 0) xs
sum_by-passed h k t [] = refl
sum_by-passed {X} h k t (x ∷ xs) = by (t x) (sum_by-passed h k t xs) ∙ sym (sum_by-cons (λ x. cond (t x) (h (k x)) 0) x xs)
  where
    by : (b : Bool) → sum_by h (map k (filter t xs)) ≡ sum_by (λ x. cond (t x) (h (k x)) 0) xs
        → sum_by h (map k (cond b (x ∷ filter t xs) (filter t xs))) ≡ cond b (h (k x)) 0 + sum_by (λ x. cond (t x) (h (k x)) 0) xs
    by true e = omega (arith, sum_by-cons h (k x) (map k (filter t xs)), e)
    by false e = omega (arith, e)

-- ---- a run of places

abbrev between : ℕ → ℕ → ℕ → Bool
between first n x = cond (ltb x first) false (ltb x (first + n))

none_between : (first x v : ℕ) → cond (between first 0 x) v 0 ≡ 0
none_between first x v = grind (arith, nat_tests)

between_more : (first n x v : ℕ) → cond (between first (n + 1) x) v 0 ≡ cond (between first n x) v 0 + cond (x == first + n) v 0
between_more first n x v = grind (arith, nat_tests)

between_in : (first n x : ℕ) → between first n x ≡ true → (first ≤ x) × (x < first + n)
between_in first n x e = (grind (arith, nat_tests), grind (arith, nat_tests))

in_between : (first n x : ℕ) → first ≤ x → x < first + n → between first n x ≡ true
in_between first n x l m = grind (arith, nat_tests)

-- the sum over the items whose own places are those of a run
run_sum : {X Y : Type 0} (h : Y → ℕ) (k : X → Y) (own : X → ℕ) (xs : List X) (first n : ℕ)
    → sum_by h (flat_map (λ x. map k (filter (λ d. own d == x) xs)) (range_with_len first n)) ≡ sum_by (λ d. cond (between first n (own d)) (h (k d)) 0) xs
run_sum h k own xs first zero = sym (sum_by-none (λ d. cond (between first 0 (own d)) (h (k d)) 0) xs
    (every-any (λ d. cond (between first 0 (own d)) (h (k d)) 0 ≡ 0) (λ d. none_between first (own d) (h (k d))) xs))
run_sum {X} {Y} h k own xs first (suc n) =
    let at : ℕ → List Y = λ x. map k (filter (λ d. own d == x) xs) in
    let e : suc n ≡ n + 1 = omega arith in
    ap (λ m. sum_by h (flat_map at (range_with_len first m))) e
    ∙ ap (λ l. sum_by h (flat_map at l)) (range_append first n 1)
    ∙ ap (sum_by h) (flat_map-append at (range_with_len first n) ((first + n) ∷ []))
    ∙ sum_by-append h (flat_map at (range_with_len first n)) (flat_map at ((first + n) ∷ []))
    ∙ ap (λ m. sum_by h (flat_map at (range_with_len first n)) + m) (ap (sum_by h) (append-nil (at (first + n)))
    ∙ sum_by-passed h k (λ d. own d == first + n) xs)
    ∙ ap (λ m. m + sum_by (λ d. cond (own d == first + n) (h (k d)) 0) xs) (run_sum h k own xs first n)
    ∙ sym (sum_by-two (λ d. cond (between first n (own d)) (h (k d)) 0) (λ d. cond (own d == first + n) (h (k d)) 0)
    (λ d. cond (between first (n + 1) (own d)) (h (k d)) 0) (λ d. between_more first n (own d) (h (k d))) xs)
    ∙ ap (λ m. sum_by (λ d. cond (between first m (own d)) (h (k d)) 0) xs) (sym e)

-- ---- deals

swap3 : (a b e : Bool) (w : ℕ) → cond a (cond b (cond e w 0) 0) 0 ≡ cond b (cond e (cond a w 0) 0) 0
swap3 true b e w = refl
swap3 false true true w = refl
swap3 false true false w = refl
swap3 false false e w = refl

module _ (g : Game) (p : IsPlayable g) (lists : ClassLists) (round s first end : ℕ) (run : IsRun (frame_of g) round s first end) (c : ℕ) (o : ℤ) where
  -- a deal counts where player 1's signal descends from s
  own_is : (x : ℕ) → x < signal_count (frame_of g) (last_round (frame_of g)) → between first (end - first) x ≡ (at_round (frame_of g) round x == s)
  own_is x l = sym (same_from_decides (at_round (frame_of g) round x == s) (between first (end - first) x) (Decides-eqb (at_round (frame_of g) round x) s) (
    (λ t. let b = between_in first (end - first) x t in run.back x b.0 (omega (arith, b.1, run.ordered))),
    (λ e. let b = run.inside x l e in in_between first (end - first) x b.0 (omega (arith, b.1))),
  ))

  term : (d : Deal) (out : ℤ) → d.one < signal_count (frame_of g) (last_round (frame_of g)) → d.two < signal_count (frame_of g) (last_round (frame_of g))
      → cond (between first (end - first) d.one) (cond (int_eq out o) (cond (get_or (keys_of (frame_of g) lists Deals round) d.two 0 == c) d.weight 0) 0) 0
      ≡ cond (int_eq out o) (cond (class_of lists round (at_round (frame_of g) round d.two) == c)
      (cond (at_round (frame_of g) round d.one == s) d.weight 0) 0) 0
  term d out l m =
      let f = frame_of g in
      ap (λ b. cond b (cond (int_eq out o) (cond (get_or (keys_of f lists Deals round) d.two 0 == c) d.weight 0) 0) 0) (own_is d.one l)
      ∙ ap (λ n. cond (at_round f round d.one == s) (cond (int_eq out o) (cond (n == c) d.weight 0) 0) 0)
      (get_or-map-range_with_len (λ x. class_of lists round (at_round f round x)) 0 (signal_count f (last_round f)) d.two d.two 0 m (omega arith))
      ∙ swap3 (at_round f round d.one == s) (int_eq out o) (class_of lists round (at_round f round d.two) == c) d.weight

  terms : (out : Deal → ℤ)
      → sum_by (λ (d : Deal). cond (between first (end - first) d.one) (cond (int_eq (out d) o)
      (cond (get_or (keys_of (frame_of g) lists Deals round) d.two 0 == c) d.weight 0) 0) 0) (deals g)
      ≡ sum_by (λ (d : Deal). cond (int_eq (out d) o) (cond (class_of lists round (at_round (frame_of g) round d.two) == c)
      (cond (at_round (frame_of g) round d.one == s) d.weight 0) 0) 0) (deals g)
  terms out =
      let f = frame_of g in
      let q = in_range g p in
      let here : Deal → ℕ = λ d. cond (between first (end - first) d.one)
      (cond (int_eq (out d) o) (cond (get_or (keys_of f lists Deals round) d.two 0 == c) d.weight 0) 0) 0 in
      let there : Deal → ℕ = λ d. cond (int_eq (out d) o) (cond (class_of lists round (at_round f round d.two) == c)
      (cond (at_round f round d.one == s) d.weight 0) 0) 0 in
      sum_by-like here there (deals g) (recursion_from_All (λ (d : Deal). here d ≡ there d) (deals g)
      (λ k d l. term (get_or (deals g) k d) (out (get_or (deals g) k d)) (q.ones k d l) (q.twos k d l)))

  pub deals_amount : (by_outcome : Bool) → by_outcome ≡ (round == last_round (frame_of g))
      → sum_at (deal_parts (deals g) (keys_of (frame_of g) lists Deals round) by_outcome first end) c o ≡ amount (frame_of g) lists Deals round s c o
  deals_amount true e =
      let f = frame_of g in
      let same : round ≡ last_round f = (Decides-eqb round (last_round f)).0 (sym e) in
      run_sum (weight_at c o) (deal_part (keys_of f lists Deals round) true) (λ (d : Deal). d.one) (deals g) first (end - first)
      ∙ terms (λ d. d.outcome)
      ∙ ap (λ r. sum_by (λ (d : Deal). cond (int_eq d.outcome o) (cond (class_of lists r (at_round f r d.two) == c)
      (cond (at_round f r d.one == s) d.weight 0) 0) 0) (deals g)) same
      ∙ ap (λ b. cond b (weight_with f lists s c o) (cond (int_eq (pos 0) o) (weight_against f lists round s c) 0)) e
  deals_amount false e =
      let f = frame_of g in
      run_sum (weight_at c o) (deal_part (keys_of f lists Deals round) false) (λ (d : Deal). d.one) (deals g) first (end - first)
      ∙ terms (λ d. pos 0)
      ∙ sum-cond (int_eq (pos 0) o) (λ (d : Deal). cond (class_of lists round (at_round f round d.two) == c) (cond (at_round f round d.one == s) d.weight 0) 0)
      (deals g)
      ∙ ap (λ b. cond b (weight_with f lists s c o) (cond (int_eq (pos 0) o) (weight_against f lists round s c) 0)) e

-- the parts of deals have weight, and no more than all deals
pub deals_some : (g : Game) (keys : List ℕ) (by_outcome : Bool) (first end : ℕ)
    → All (λ (q : Part). 0 < q.weight) (deal_parts (deals g) keys by_outcome first end)
deals_some g keys by_outcome first end =
    let at : ℕ → List Part = λ x. map (deal_part keys by_outcome) (filter (λ (d : Deal). d.one == x) (deals g)) in
    All-from_recursion (λ (q : Part). 0 < q.weight) (flat_map at (range_with_len first (end - first)))
    (every-flat_map (λ (q : Part). 0 < q.weight) at (λ _. Unit {0})
    (λ x _. every-map (λ (q : Part). 0 < q.weight) (deal_part keys by_outcome) (filter (λ (d : Deal). d.one == x) (deals g))
    (recursion_from_All (λ (d : Deal). 0 < d.weight) (filter (λ (d : Deal). d.one == x) (deals g))
    (All-filter (λ (d : Deal). d.one == x) (λ (d : Deal). 0 < d.weight) (deals g) (deals_weigh g))))
    (range_with_len first (end - first)) (every-any (λ _. Unit {0}) (λ _. tt) (range_with_len first (end - first))))

pub deals_total : (g : Game) (keys : List ℕ) (by_outcome : Bool) (first end : ℕ)
    → sum_by (λ (q : Part). q.weight) (deal_parts (deals g) keys by_outcome first end) ≤ total_weight (frame_of g)
deals_total g keys by_outcome first end =
    let r = run_sum (λ (q : Part). q.weight) (deal_part keys by_outcome) (λ (d : Deal). d.one) (deals g) first (end - first) in
    let l = sum_by-le-sum_by (λ (d : Deal). cond (between first (end - first) d.one) d.weight 0) (λ (d : Deal). d.weight) (deals g)
    (λ d. cond_le (between first (end - first) d.one) d.weight) in
    omega (arith, r, l)

-- ---- children

-- of a range only a run in it counts
range_sum : (f h : ℕ → ℕ) (count first n : ℕ) → first + n ≤ count → ((x : ℕ) → x < count → first ≤ x → x < first + n → f x ≡ h x)
    → ((x : ℕ) → x < count → (x < first → f x ≡ 0) × (first + n ≤ x → f x ≡ 0))
    → sum_by f (range_with_len 0 count) ≡ sum_by h (range_with_len first n)
range_sum f h count first n l inside outside =
    let rest = count - (first + n) in
    let e : count ≡ first + (n + rest) = omega arith in
    let low : sum_by f (range_with_len 0 first) ≡ 0 = sum_by-none f (range_with_len 0 first)
    (every-range (λ x. f x ≡ 0) 0 first (λ x a b. (outside x (omega arith)).0 (omega arith))) in
    let mid : sum_by f (range_with_len first n) ≡ sum_by h (range_with_len first n) =
    sum_by-like f h (range_with_len first n) (every-range (λ x. f x ≡ h x) first n (λ x a b. inside x (omega arith) a b)) in
    let high : sum_by f (range_with_len (first + n) rest) ≡ 0 = sum_by-none f (range_with_len (first + n) rest)
    (every-range (λ x. f x ≡ 0) (first + n) rest (λ x a b. (outside x (omega arith)).1 a)) in
    ap (λ m. sum_by f (range_with_len 0 m)) e
    ∙ ap (sum_by f) (range_append 0 first (n + rest))
    ∙ sum_by-append f (range_with_len 0 first) (range_with_len (0 + first) (n + rest))
    ∙ ap (λ m. sum_by f (range_with_len 0 first) + sum_by f (range_with_len m (n + rest))) (let z : 0 + first ≡ first = omega arith in z)
    ∙ ap (λ m. sum_by f (range_with_len 0 first) + m) (ap (sum_by f) (range_append first n rest)
    ∙ sum_by-append f (range_with_len first n) (range_with_len (first + n) rest))
    ∙ omega (arith, low, mid, high)

unmet : (a b : Bool) (v : ℕ) → b ≡ false → cond a (cond b v 0) 0 ≡ 0
unmet true b v e = ap (λ t. cond t v 0) e
unmet false b v e = refl

met : (a b : Bool) (v : ℕ) → b ≡ true → cond a (cond b v 0) 0 ≡ cond a v 0
met a b v e = ap (λ t. cond a (cond t v 0) 0) e

pub children_amount : (g : Game) (lists : ClassLists) (round s first n : ℕ) → IsRunIn (frame_of g) (round + 1) round s first (first + n) → (c : ℕ) (o : ℤ)
    → sum_at (map (counted_part (keys_of (frame_of g) lists Children round)) (range_with_len first n)) c o ≡ amount (frame_of g) lists Children round s c o
children_amount g lists round s first n run c o =
    let f = frame_of g in
    let keys = keys_of f lists Children round in
    let own : ℕ → Bool = λ x. ancestor f (round + 1) round x == s in
    let count : ℕ → ℕ = λ x. cond (class_of lists (round + 1) x == c) (cond (own x) 1 0) 0 in
    let plain : ℕ → ℕ = λ x. cond (class_of lists (round + 1) x == c) 1 0 in
    let exact = λ (x : ℕ). Decides-eqb (ancestor f (round + 1) round x) s in
    let all : sum_by count (range_with_len 0 (signal_count f (round + 1))) ≡ sum_by plain (range_with_len first n) =
    range_sum count plain (signal_count f (round + 1)) first n run.within
    (λ x l a b. met (class_of lists (round + 1) x == c) (own x) 1 ((exact x).1 (run.back x a b)))
    (λ x l. (
      (λ a. unmet (class_of lists (round + 1) x == c) (own x) 1
          (false_from_not (own x) (λ t. let i = run.inside x l ((exact x).0 t) in omega (arith, i.0, a)))),
      (λ a. unmet (class_of lists (round + 1) x == c) (own x) 1
          (false_from_not (own x) (λ t. let i = run.inside x l ((exact x).0 t) in omega (arith, i.1, a)))),
    )) in
    sum_by-map (weight_at c o) (counted_part keys) (range_with_len first n)
    ∙ sum-cond (int_eq (pos 0) o) plain (range_with_len first n)
    ∙ ap (λ m. cond (int_eq (pos 0) o) m 0) (sym all)

pub children_some : (keys : List ℕ) (first n : ℕ) → All (λ (q : Part). 0 < q.weight) (map (counted_part keys) (range_with_len first n))
children_some keys first n =
    All-from_recursion (λ (q : Part). 0 < q.weight) (map (counted_part keys) (range_with_len first n))
    (every-map (λ (q : Part). 0 < q.weight) (counted_part keys) (range_with_len first n) (every-any (λ _. 0 < 1) (λ _. omega arith) (range_with_len first n)))

pub children_total : (keys : List ℕ) (first n : ℕ) → sum_by (λ (q : Part). q.weight) (map (counted_part keys) (range_with_len first n)) ≤ n
children_total keys first n =
    let l = sum_by-le (λ (q : Part). q.weight) 1 (map (counted_part keys) (range_with_len first n))
    (All-from_recursion (λ (q : Part). q.weight ≤ 1) (map (counted_part keys) (range_with_len first n))
    (every-map (λ (q : Part). q.weight ≤ 1) (counted_part keys) (range_with_len first n) (every-any (λ _. 1 ≤ 1) (λ _. omega arith) (range_with_len first n))))
    in
    omega (arith, l, length-map-range_with_len (counted_part keys) first n)
