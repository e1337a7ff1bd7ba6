-- Sums of numbers over lists.
use Rattle.std.proofs.Common.{◌≡◌, ℕ, zero, suc, ◌+◌, ◌*◌, ◌<◌, ◌≤◌, List, [], ◌∷◌, ◌++◌, map, length, get_or, sum_by, refl, sym, ap, arith, inl, inr, cond}
use Rattle.std.proofs.{Common.{eqb}, lemmas.Bool.{cases_eq, eq-eqb, ne_eqb}, lemmas.List.Sums.{sum_by-cons}}
use Rattle.std.specs.{Prelude.{flat_map, filter, ◌==◌}, List.{range_with_len, AllByRecursion}}

-- the same as sum_by, by recursion on the list
abbrev pub total : {X : Type 0} → (X → ℕ) → List X → ℕ
total f [] = 0
total f (x ∷ xs) = f x + total f xs

pub sum-total : {X : Type 0} (f : X → ℕ) (xs : List X) → sum_by f xs ≡ total f xs
sum-total f [] = refl
sum-total f (x ∷ xs) = omega (arith, sum_by-cons f x xs, sum-total f xs)

pub total-same : {X : Type 0} (f g : X → ℕ) → ((x : X) → f x ≡ g x) → (xs : List X) → total f xs ≡ total g xs
total-same f g e [] = refl
total-same f g e (x ∷ xs) = omega (arith, e x, total-same f g e xs)

pub total-same_every : {X : Type 0} (f g : X → ℕ) (xs : List X) → AllByRecursion (λ x. f x ≡ g x) xs → total f xs ≡ total g xs
total-same_every f g [] e = refl
total-same_every f g (x ∷ xs) e = omega (arith, e.0, total-same_every f g xs e.1)

pub total-append : {X : Type 0} (f : X → ℕ) (xs ys : List X) → total f (xs ++ ys) ≡ total f xs + total f ys
total-append f [] ys = omega arith
total-append f (x ∷ xs) ys = omega (arith, total-append f xs ys)

pub total-map : {X Y : Type 0} (f : Y → ℕ) (h : X → Y) (xs : List X) → total f (map h xs) ≡ total (λ x. f (h x)) xs
total-map f h [] = refl
total-map f h (x ∷ xs) = ap (λ (n : ℕ). f (h x) + n) (total-map f h xs)

pub total-flat_map : {X Y : Type 0} (f : Y → ℕ) (h : X → List Y) (xs : List X) → total f (flat_map h xs) ≡ total (λ x. total f (h x)) xs
total-flat_map f h [] = refl
total-flat_map f h (x ∷ xs) = omega (arith, total-append f (h x) (flat_map h xs), total-flat_map f h xs)

pub total-times : {X : Type 0} (c : ℕ) (f : X → ℕ) (xs : List X) → total (λ x. c * f x) xs ≡ c * total f xs
total-times c f [] = omega arith
total-times c f (x ∷ xs) = omega (arith, total-times c f xs)

pub total-length : {X : Type 0} (xs : List X) → total (λ x. 1) xs ≡ length xs
total-length [] = refl
total-length (x ∷ xs) = omega (arith, total-length xs)

-- a sum over a list is a sum over its places
places-from : {X : Type 0} (f : X → ℕ) (d : X) (a : ℕ) (front xs : List X) → length front ≡ a
    → total f xs ≡ total (λ i. f (get_or (front ++ xs) i d)) (range_with_len a (length xs))
places-from f d a front [] e = refl
places-from f d a front (x ∷ xs) e =
    let here : get_or (front ++ x ∷ xs) a d ≡ x = at_end front x xs d a e in
    let again : (front ++ x ∷ []) ++ xs ≡ front ++ x ∷ xs = joined front x xs in
    let rest = rw again at (places-from f d (a + 1) (front ++ x ∷ []) xs (longer front x a e)) in
    omega (arith, ap f here, rest)
  where
    at_end : {X : Type 0} (front : List X) (x : X) (xs : List X) (d : X) (a : ℕ) → length front ≡ a → get_or (front ++ x ∷ xs) a d ≡ x
    at_end [] x xs d a e = rw (sym e) refl
    at_end (y ∷ ys) x xs d zero e = absurd (omega (arith, e))
    at_end (y ∷ ys) x xs d (suc a) e = at_end ys x xs d a (omega (arith, e))

    joined : {X : Type 0} (front : List X) (x : X) (xs : List X) → (front ++ x ∷ []) ++ xs ≡ front ++ x ∷ xs
    joined [] x xs = refl
    joined (y ∷ ys) x xs = ap (λ (zs : List _). y ∷ zs) (joined ys x xs)

    longer : {X : Type 0} (front : List X) (x : X) (a : ℕ) → length front ≡ a → length (front ++ x ∷ []) ≡ a + 1
    longer [] x a e = omega (arith, e)
    longer (y ∷ ys) x zero e = absurd (omega (arith, e))
    longer (y ∷ ys) x (suc a) e = let r = longer ys x a (omega (arith, e)) in omega (arith, r)

pub total-places : {X : Type 0} (f : X → ℕ) (d : X) (xs : List X) → total f xs ≡ total (λ i. f (get_or xs i d)) (range_with_len 0 (length xs))
total-places f d xs = places-from f d 0 [] xs refl

below : (k n : ℕ) → k < n → k < 0 + n
below k n h = omega arith

-- a sum over members with keys below n is the sum over the keys
one-key : (v k a n : ℕ) → a ≤ k → k < a + n → total (λ i. cond (eqb k i) v 0) (range_with_len a n) ≡ v
one-key v k a zero low high = absurd (omega arith)
one-key v k a (suc n) low high = elim (cases_eq k a) [
  | inl e ↦ let here : cond (eqb k a) v 0 ≡ v = rw (eq-eqb k a e) refl in omega (arith, here, no-key v k (a + 1) n (omega (arith, e)))
  | inr e ↦ let here : cond (eqb k a) v 0 ≡ 0 = rw (ne_eqb k a e) refl in omega (arith, here, one-key v k (a + 1) n (omega (arith, e)) (omega arith))
]
  where
    no-key : (v k a n : ℕ) → k < a → total (λ i. cond (eqb k i) v 0) (range_with_len a n) ≡ 0
    no-key v k a zero h = refl
    no-key v k a (suc n) h =
        let here : cond (eqb k a) v 0 ≡ 0 = rw (ne_eqb k a (λ e. absurd (omega (arith, e, h)))) refl in
        omega (arith, here, no-key v k (a + 1) n (omega arith))

pub total-two : {X : Type 0} (f g : X → ℕ) (xs : List X) → total (λ x. f x + g x) xs ≡ total f xs + total g xs
total-two f g [] = refl
total-two f g (x ∷ xs) = omega (arith, total-two f g xs)

kept-one : {X : Type 0} (f : X → ℕ) (key : X → ℕ) (i : ℕ) (x : X) (xs : List X)
    → total f (filter (λ y. key y == i) (x ∷ xs)) ≡ cond (eqb (key x) i) (f x) 0 + total f (filter (λ y. key y == i) xs)
kept-one f key i x xs = elim (cases_eq (key x) i) [
  | inl e ↦ rw (eq-eqb (key x) i e) refl
  | inr e ↦ rw (ne_eqb (key x) i e) (omega arith)
]

pub total-keys : {X : Type 0} (f : X → ℕ) (key : X → ℕ) (n : ℕ) (xs : List X) → AllByRecursion (λ x. key x < n) xs
    → total f xs ≡ total (λ i. total f (filter (λ x. key x == i) xs)) (range_with_len 0 n)
total-keys f key n [] h = sym (nothing (range_with_len 0 n))
  where
    nothing : (is : List ℕ) → total (λ i. 0) is ≡ 0
    nothing [] = refl
    nothing (i ∷ is) = let r = nothing is in omega (arith, r)
total-keys f key n (x ∷ xs) h =
    let split = total-same (λ i. total f (filter (λ y. key y == i) (x ∷ xs))) (λ i. cond (eqb (key x) i) (f x) 0 + total f (filter (λ y. key y == i) xs))
    (λ i. kept-one f key i x xs) (range_with_len 0 n) in
    let two = total-two (λ i. cond (eqb (key x) i) (f x) 0) (λ i. total f (filter (λ y. key y == i) xs)) (range_with_len 0 n) in
    omega (arith, split, two, one-key (f x) (key x) 0 n (omega arith) (below (key x) n h.0), total-keys f key n xs h.1)
