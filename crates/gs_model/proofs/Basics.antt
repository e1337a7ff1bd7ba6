-- General facts about numbers, truth values and lists, each said once for all files and crates above.
use Rattle.std.proofs.Common.{◌≡◌, ◌≢◌, ℕ, zero, suc, ◌+◌, ◌*◌, ◌<◌, ◌≤◌, Bool, true, false, cond, eqb, pos, Option, Some, None, List, [], ◌∷◌, ◌++◌, map}
use Rattle.std.proofs.Common.{length, drop, sum_by, count_by, refl, sym, ap, arith, ◌-◌, get_or, set, ◌∙◌}
use Rattle.std.proofs.{lemmas.Bool.Decides.{Decides-eqb, same_from_decides}, lemmas.Int.{ints}, lemmas.List.Sums.{sum_by-cons}}
use Rattle.std.proofs.{Math.Nat.{mul-le-mul_left, mul-le-mul_right}, lemmas.List.{map-set}, Math.ListN.{get_or-map}}
use Rattle.std.specs.{Prelude.{neg_ℤ, ℤ, flat_map, ◌==◌, swap}, List.{AllByRecursion, range_with_len}}
use Rattle.gs_model.specs.Sums.{sum_z}

-- ---- options, truth values and numbers

-- the constructor by a name that needs no type beside it
abbrev pub some : {A : Type 0} → A → Option A
some x = Some x

pub some-none : {A : Type 0} (x : A) → some x ≡ None → ⊥
some-none x h = cc

pub eqb-turn : (a b : ℕ) → eqb a b ≡ eqb b a
eqb-turn a b = same_from_decides (eqb a b) (eqb b a) (Decides-eqb a b) ((λ e. sym ((Decides-eqb b a).0 e)), (λ e. (Decides-eqb b a).1 (sym e)))

pub factors_positive : (a b : ℕ) → 0 < a * b → (0 < a) × (0 < b)
factors_positive zero b h = absurd (omega arith)
factors_positive (suc a) zero h = absurd (omega arith)
factors_positive (suc a) (suc b) h = (omega arith, omega arith)

pub product_positive : (a b : ℕ) → 0 < a → 0 < b → 0 < a * b
product_positive zero b h k = absurd (omega arith)
product_positive (suc a) zero h k = absurd (omega arith)
product_positive (suc a) (suc b) h k = omega arith

pub product_le : (a b c d : ℕ) → a ≤ c → b ≤ d → a * b ≤ c * d
product_le a b c d l m = let x = mul-le-mul_right b l in let y = mul-le-mul_left c m in omega (arith, x, y)

pub pos-injective : (m n : ℕ) → pos m ≡ pos n → m ≡ n
pos-injective m n e = cc

pub neg-neg : (z : ℤ) → neg_ℤ (neg_ℤ z) ≡ z
neg-neg z = omega (arith, ints)

pub pos-cond : (b : Bool) (n : ℕ) → cond b (pos n) (pos 0) ≡ pos (cond b n 0)
pos-cond true n = refl
pos-cond false n = refl

pub cond_le : (b : Bool) (v : ℕ) → cond b v 0 ≤ v
cond_le true v = omega arith
cond_le false v = omega arith

pub false_from_not : (b : Bool) → (b ≡ true → ⊥) → b ≡ false
false_from_not true h = absurd (h refl)
false_from_not false h = refl

pub not_eq : (a b : ℕ) → (a ≡ b → ⊥) → (a == b) ≡ false
not_eq a b h = false_from_not (a == b) (λ t. h ((Decides-eqb a b).0 t))

-- ---- lists

pub map-map : {X Y Z : Type 0} (h : Y → Z) (v : X → Y) (xs : List X) → map h (map v xs) ≡ map (λ x. h (v x)) xs
map-map h v [] = refl
map-map h v (x ∷ xs) = ap (λ l. h (v x) ∷ l) (map-map h v xs)

pub map-same : {X Y : Type 0} (f g : X → Y) → ((x : X) → f x ≡ g x) → (xs : List X) → map f xs ≡ map g xs
map-same f g h [] = refl
map-same f g h (x ∷ xs) = cc (h x, map-same f g h xs)

pub map-same_every : {X Y : Type 0} (f g : X → Y) (xs : List X) → AllByRecursion (λ x. f x ≡ g x) xs → map f xs ≡ map g xs
map-same_every f g [] h = refl
map-same_every f g (x ∷ xs) h = let a = h.0 in cc (a, map-same_every f g xs h.1)

pub map-itself : {X : Type 0} (xs : List X) → map (λ x. x) xs ≡ xs
map-itself [] = refl
map-itself (x ∷ xs) = ap (λ l. x ∷ l) (map-itself xs)

pub map-swap : {X Y : Type 0} (f : X → Y) (xs : List X) (i j : ℕ) → map f (swap xs i j) ≡ swap (map f xs) i j
map-swap f [] i j = refl
map-swap f (d ∷ xs) i j =
    map-set f (set (d ∷ xs) i (get_or (d ∷ xs) j d)) j (get_or (d ∷ xs) i d)
    ∙ cc (map-set f (d ∷ xs) i (get_or (d ∷ xs) j d), get_or-map f (d ∷ xs) i d, get_or-map f (d ∷ xs) j d)

pub flat_map-same : {X Y : Type 0} (f g : X → List Y) → ((x : X) → f x ≡ g x) → (xs : List X) → flat_map f xs ≡ flat_map g xs
flat_map-same f g h [] = refl
flat_map-same f g h (x ∷ xs) = cc (h x, flat_map-same f g h xs)

pub drop-all : {X : Type 0} (xs : List X) → drop (length xs) xs ≡ []
drop-all [] = refl
drop-all (x ∷ xs) = drop-all xs

pub range_step : (a n : ℕ) → a < n → range_with_len a (n - a) ≡ a ∷ range_with_len (a + 1) (n - (a + 1))
range_step a n l = let e : n - a ≡ suc (n - (a + 1)) = omega arith in ap (range_with_len a) e

pub range_end : (a n : ℕ) → n ≤ a → range_with_len a (n - a) ≡ []
range_end a n l = let e : n - a ≡ 0 = omega arith in ap (range_with_len a) e

-- ---- what holds of each element

pub every-any : {X : Type 0} (P : X → Type 0) → ((x : X) → P x) → (xs : List X) → AllByRecursion P xs
every-any P h [] = tt
every-any P h (x ∷ xs) = (h x, every-any P h xs)

pub every-both : {X : Type 0} (P Q : X → Type 0) (xs : List X) → AllByRecursion P xs → AllByRecursion Q xs → AllByRecursion (λ x. P x × Q x) xs
every-both P Q [] h k = tt
every-both P Q (x ∷ xs) h k = ((h.0, k.0), every-both P Q xs h.1 k.1)

pub every-range : (P : ℕ → Type 0) (a n : ℕ) → ((k : ℕ) → a ≤ k → k < a + n → P k) → AllByRecursion P (range_with_len a n)
every-range P a zero h = tt
every-range P a (suc n) h = (h a (omega arith) (omega arith), every-range P (a + 1) n (λ k lo hi. h k (omega arith) (omega arith)))

pub every-map : {X Y : Type 0} (P : Y → Type 0) (f : X → Y) (xs : List X) → AllByRecursion (λ x. P (f x)) xs → AllByRecursion P (map f xs)
every-map P f [] h = tt
every-map P f (x ∷ xs) h = (h.0, every-map P f xs h.1)

pub every-unmap : {X Y : Type 0} (P : Y → Type 0) (f : X → Y) (xs : List X) → AllByRecursion P (map f xs) → AllByRecursion (λ x. P (f x)) xs
every-unmap P f [] h = tt
every-unmap P f (x ∷ xs) h = (h.0, every-unmap P f xs h.1)

pub every-weaker : {X : Type 0} (P Q : X → Type 0) → ((x : X) → P x → Q x) → (xs : List X) → AllByRecursion P xs → AllByRecursion Q xs
every-weaker P Q f [] h = tt
every-weaker P Q f (x ∷ xs) h = (f x h.0, every-weaker P Q f xs h.1)

pub every-append : {X : Type 0} (P : X → Type 0) (xs ys : List X) → AllByRecursion P xs → AllByRecursion P ys → AllByRecursion P (xs ++ ys)
every-append P [] ys h k = k
every-append P (x ∷ xs) ys h k = (h.0, every-append P xs ys h.1 k)

-- ---- sums and counts

pub sum-same : {X : Type 0} (f g : X → ℕ) → ((x : X) → f x ≡ g x) → (xs : List X) → sum_by f xs ≡ sum_by g xs
sum-same f g h [] = refl
sum-same f g h (x ∷ xs) = let a = sum_by-cons f x xs in let b = sum_by-cons g x xs in let e = h x in let r = sum-same f g h xs in omega arith

pub sum_by-map : {X Y : Type 0} (f : Y → ℕ) (g : X → Y) (xs : List X) → sum_by f (map g xs) ≡ sum_by (λ x. f (g x)) xs
sum_by-map f g [] = refl
sum_by-map f g (x ∷ xs) = omega (arith, sum_by-cons f (g x) (map g xs), sum_by-cons (λ x. f (g x)) x xs, sum_by-map f g xs)

pub sum-cond : {X : Type 0} (b : Bool) (f : X → ℕ) (xs : List X) → sum_by (λ x. cond b (f x) 0) xs ≡ cond b (sum_by f xs) 0
sum-cond true f xs = refl
sum-cond false f [] = refl
sum-cond false f (x ∷ xs) = omega (arith, sum_by-cons (λ x. 0) x xs, sum-cond false f xs)

pub sum-ones : {X : Type 0} (xs : List X) → sum_by (λ (x : X). 1) xs ≡ length xs
sum-ones [] = refl
sum-ones (x ∷ xs) = omega (arith, sum_by-cons (λ x. 1) x xs, sum-ones xs)

pub sum_z-neg : {X : Type 0} (f : X → ℤ) (xs : List X) → sum_z (λ x. neg_ℤ (f x)) xs ≡ neg_ℤ (sum_z f xs)
sum_z-neg f [] = refl
sum_z-neg f (x ∷ xs) = let h = sum_z-neg f xs in omega (arith, ints)

pub count-head : (k : ℕ) (g : List ℕ) → count_by (λ x. x == k) (k ∷ g) ≡ suc (count_by (λ x. x == k) g)
count-head k g = let c = sum_by-cons (λ x. cond (eqb x k) 1 0) k g in grind (arith, c)

pub count-past : (k x : ℕ) (g : List ℕ) → x ≢ k → count_by (λ x. x == k) (x ∷ g) ≡ count_by (λ x. x == k) g
count-past k x g n = let c = sum_by-cons (λ x. cond (eqb x k) 1 0) x g in grind (arith, c, n)
