-- Each check of a game file as a fact on values, with no order of checks: it passes where the fact holds, and nowhere else.
use Rattle.std.proofs.Common.{◌≡◌, ℕ, ◌+◌, ◌≤◌, ◌&&◌, Bool, true, false, List, [], ◌∷◌, Option, Some, None, Result, Ok, Err, ℤ, pos, negsuc, nat_le, refl, ap}
use Rattle.std.proofs.{Common.{subst, arith}, lemmas.Bool.{and_parts, le-leb, leb-true}}
use Rattle.std.specs.{Prelude.{◌↔◌, if◌then◌else◌}, Option.{ok_or}}
use Rattle.toml.specs.Data.{Data, Members, as_array, as_table, as_integer}
use Rattle.gs_json.specs.Steps.{◌>>=◌}
use Rattle.gs_file.specs.{Faults.{Fault, unknown_key, range, wrong_type}, Keys.{has_only}, States.{HasOnly, IsList, OneByOne}}
use Rattle.gs_file.specs.{Tables.{each, array_items, only, table_in, array_in, tables_in, whole_number, whole_numbers_in, within}, declared.fault.Key.{Key}}
use Rattle.gs_file.specs.{declared.fault.Place.{Place}, declared.form.Form.TheVariants.{File}}

-- ---- one step after another

pub never : {A : Type 0} (f : Fault) (a : A) → Err f ≡ Ok a → ⊥
never f a e = cc

abbrev pub ok : {A : Type 0} → A → Result A Fault
ok a = Ok a

pub same_ok : {A : Type 0} (a b : A) → ok a ≡ Ok b → a ≡ b
same_ok a b e = cc

-- what is read after a step is read after the step's value
pub after : {A B : Type 0} (r : Result A Fault) (f : A → Result B Fault) (b : B) → (r >>= f) ≡ Ok b → (a : A) × (r ≡ Ok a) × (f a ≡ Ok b)
after (Ok a) f b e = (a, refl, e)
after (Err x) f b e = absurd (never x b e)

-- what follows from each value that the step may have
pub passing : {A B P : Type 0} (r : Result A Fault) (f : A → Result B Fault) (b : B) → (r >>= f) ≡ Ok b → ((a : A) → r ≡ Ok a → f a ≡ Ok b → P) → P
passing (Ok a) f b e h = h a refl e
passing (Err x) f b e h = absurd (never x b e)

pub found_ok : {A : Type 0} (o : Option A) (f : Fault) (a : A) → ok_or o f ≡ Ok a → o ≡ Some a
found_ok None f a e = absurd (never f a e)
found_ok (Some x) f a e = ap Some (same_ok x a e)

pub only_ok : (keys : List Key) (round : ℕ) (table : Members) (u : Unit {0}) → only File keys round table ≡ Ok u → HasOnly table keys
only_ok keys round table u e = by (has_only File keys table) e
  where
    by : (b : Bool) → (if b then Ok tt else Err (unknown_key round)) ≡ Ok u → b ≡ true
    by true e = refl
    by false e = absurd (never (unknown_key round) u e)

-- ---- numbers in their ranges

pub within_ok : (place : Place) (low high : ℕ) (z : ℤ) (n : ℕ) → within place low high z ≡ Ok n → (z ≡ pos n) × (low ≤ n) × (n ≤ high)
within_ok place low high (negsuc m) n e = absurd (never (range place) n e)
within_ok place low high (pos m) n e = by (nat_le low m && nat_le m high) refl e
  where
    by : (b : Bool) → (nat_le low m && nat_le m high) ≡ b → (if b then Ok m else Err (range place)) ≡ Ok n → (pos m ≡ pos n) × (low ≤ n) × (n ≤ high)
    by false is e = absurd (never (range place) n e)
    by true is e =
        let same = same_ok m n e in
        let p = and_parts (nat_le low m) (nat_le m high) is in
        let at_least = leb-true low m p.0 in
        let at_most = leb-true m high p.1 in
        (ap pos same, omega (arith, same, at_least), omega (arith, same, at_most))

pub within_is : (place : Place) (low high n : ℕ) → low ≤ n → n ≤ high → within place low high (pos n) ≡ Ok n
within_is place low high n a b = rw (le-leb low n a, le-leb n high b) refl

-- ---- lists

-- each member of a list is read as what goes with it
pub each_ok : {A B : Type 0} (read : ℕ → A → Result B Fault) (R : B → A → Type 0) → ((n : ℕ) (x : A) (y : B) → read n x ≡ Ok y → R y x)
    → (n : ℕ) (xs : List A) (ys : List B) → each read n xs ≡ Ok ys → OneByOne R ys xs
each_ok read R h n [] [] e = tt
each_ok read R h n [] (y ∷ ys) e = cc
each_ok read R h n (x ∷ xs) ys e =
    let (first, ef, e1) = after (read n x) (λ f. each read (n + 1) xs >>= (λ others. Ok (f ∷ others))) ys e in
    let (others, eo, e2) = after (each read (n + 1) xs) (λ others. Ok (first ∷ others)) ys e1 in
    subst (λ l. OneByOne R l (x ∷ xs)) (same_ok (first ∷ others) ys e2) (h n x first ef, each_ok read R h (n + 1) xs others eo)

pub each_is : {A B : Type 0} (read : ℕ → A → Result B Fault) (R : B → A → Type 0) → ((n : ℕ) (x : A) (y : B) → R y x → read n x ≡ Ok y)
    → (n : ℕ) (xs : List A) (ys : List B) → OneByOne R ys xs → each read n xs ≡ Ok ys
each_is read R h n [] [] g = refl
each_is read R h n [] (y ∷ ys) g = absurd g
each_is read R h n (x ∷ xs) [] g = absurd g
each_is read R h n (x ∷ xs) (y ∷ ys) g =
    let first : read n x ≡ Ok y = h n x y g.0 in
    let rest : each read (n + 1) xs ≡ Ok ys = each_is read R h (n + 1) xs ys g.1 in
    rw (first, rest) refl

-- an array is read item by item
pub array_ok : {B : Type 0} (read : ℕ → Data → Result B Fault) (R : B → Data → Type 0) → ((n : ℕ) (x : Data) (y : B) → read n x ≡ Ok y → R y x)
    → (place : Place) (d : Data) (ys : List B)
    → (array_in place d >>= (λ items. each read 1 (array_items items))) ≡ Ok ys → IsList R ys d
array_ok read R h place d ys e =
    let (items, ei, e1) = after (array_in place d) (λ items. each read 1 (array_items items)) ys e in
    (items, found_ok (as_array d) (wrong_type place) items ei, each_ok read R h 1 (array_items items) ys e1)

pub array_is : {B : Type 0} (read : ℕ → Data → Result B Fault) (R : B → Data → Type 0) → ((n : ℕ) (x : Data) (y : B) → R y x → read n x ≡ Ok y)
    → (place : Place) (d : Data) (ys : List B)
    → IsList R ys d → (array_in place d >>= (λ items. each read 1 (array_items items))) ≡ Ok ys
array_is read R h place d ys g =
    let (items, found, one) = g in
    rw found (each_is read R h 1 (array_items items) ys one)

-- tables, and whole numbers
abbrev pub IsTable : Members → Data → Type 0
IsTable table d = as_table d ≡ Some table

abbrev pub IsWhole : ℤ → Data → Type 0
IsWhole z d = as_integer d ≡ Some z

-- the tables of an array, and its whole numbers
pub tables_are : (place : Place) (d : Data) (ts : List Members) → (tables_in place d ≡ Ok ts) ↔ IsList IsTable ts d
unfolding tables_in
tables_are place d ts = (
  array_ok (λ n. table_in place) IsTable (λ n x y r. found_ok (as_table x) (wrong_type place) y r) place d ts,
  array_is (λ n. table_in place) IsTable (λ n x y r. rw r refl) place d ts,
)

pub numbers_are : (place : Place) (d : Data) (zs : List ℤ) → (whole_numbers_in place d ≡ Ok zs) ↔ IsList IsWhole zs d
unfolding whole_numbers_in
numbers_are place d zs = (
  array_ok (λ n. whole_number place) IsWhole (λ n x y r. found_ok (as_integer x) (wrong_type place) y r) place d zs,
  array_is (λ n. whole_number place) IsWhole (λ n x y r. rw r refl) place d zs,
)

-- ---- lists that go together through a third

pub through : {A B C : Type 0} (Q : A → B → Type 0) (R : B → C → Type 0) (P : A → C → Type 0) → ((a : A) (b : B) (c : C) → Q a b → R b c → P a c)
    → (xs : List A) (ys : List B) (zs : List C) → OneByOne Q xs ys → OneByOne R ys zs → OneByOne P xs zs
through Q R P h [] [] [] q r = tt
through Q R P h [] [] (c ∷ zs) q r = r
through Q R P h [] (b ∷ ys) zs q r = absurd q
through Q R P h (a ∷ xs) [] zs q r = absurd q
through Q R P h (a ∷ xs) (b ∷ ys) [] q r = absurd r
through Q R P h (a ∷ xs) (b ∷ ys) (c ∷ zs) q r = (h a b c q.0 r.0, through Q R P h xs ys zs q.1 r.1)

-- where each pair goes together through something, the lists go together through a list
pub between : {A B C : Type 0} (Q : A → B → Type 0) (R : B → C → Type 0) (P : A → C → Type 0) → ((a : A) (c : C) → P a c → (b : B) × Q a b × R b c)
    → (xs : List A) (zs : List C) → OneByOne P xs zs → (ys : List B) × OneByOne Q xs ys × OneByOne R ys zs
between Q R P h [] [] g = ([], tt, tt)
between Q R P h [] (c ∷ zs) g = absurd g
between Q R P h (a ∷ xs) [] g = absurd g
between Q R P h (a ∷ xs) (c ∷ zs) g =
    let (b, q, r) = h a c g.0 in
    let (ys, qs, rs) = between Q R P h xs zs g.1 in
    (b ∷ ys, (q, qs), (r, rs))
