-- Numbers of any kind that are added and compared: real numbers, fractions, whole numbers. No product of two of them is used, only whole multiples.
use Rattle.std.specs.Prelude.{◌≡◌, ℕ, zero, suc, List, [], ◌∷◌, ℤ, pos, negsuc}

-- The numbers of A form an ordered group. Sums are associative and commutative, with a neutral number and an opposite of each. P are the numbers that are
-- at least 0, each with its place among all; the neutral number is one of them, and so is the sum of any two.
pub record OrderedGroup (A P : Type 0) : Type 0 where
  pub nil : A
  pub plus : A → A → A
  pub minus : A → A
  pub associative : (a b c : A) → plus (plus a b) c ≡ plus a (plus b c)
  pub commutative : (a b : A) → plus a b ≡ plus b a
  pub neutral : (a : A) → plus nil a ≡ a
  pub opposite : (a : A) → plus a (minus a) ≡ nil
  pub place : P → A
  pub nil_in : (p : P) × (place p ≡ nil)
  pub sum_in : (p q : P) → (r : P) × (place r ≡ plus (place p) (place q))

-- the number is at least 0
abbrev pub IsSome : {A P : Type 0} → OrderedGroup A P → A → Type 0
IsSome {A} {P} G a = (p : P) × (G.place p ≡ a)

-- a is at most b: some number that is at least 0 leads from a to b
abbrev pub AtMost : {A P : Type 0} → OrderedGroup A P → A → A → Type 0
AtMost {A} {P} G a b = (p : P) × (G.plus a (G.place p) ≡ b)

-- n times a number
abbrev pub times : {A P : Type 0} → OrderedGroup A P → ℕ → A → A
times G zero a = G.nil
times G (suc n) a = G.plus a (times G n a)

-- a whole number times a number
abbrev pub scaled : {A P : Type 0} → OrderedGroup A P → ℤ → A → A
scaled G (pos n) a = times G n a
scaled G (negsuc n) a = G.minus (times G (suc n) a)

-- the sum of a number of each member of a list
abbrev pub sum_of : {A P X : Type 0} → OrderedGroup A P → (X → A) → List X → A
sum_of G f [] = G.nil
sum_of G f (x ∷ xs) = G.plus (f x) (sum_of G f xs)
