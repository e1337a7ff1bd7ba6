-- Numbers in order of first occurrence, and the keys that they stand for.
use Rattle.std.specs.{Prelude.{ℕ, ◌-◌, ◌<◌, ◌≡◌, Bool, true, List, Some, Vec, get_or, length, slice_get}, declared.alloc.Global.{Global}}
use lib.Pointwise.{pointwise}
use Rattle.gs_model.specs.Numbering.{IsClassesOf}

-- whether two lists have equal parts in the same order
abbrev pub same_parts : {X : Type 0} → (X → X → Bool) → Vec X Global → Vec X Global → Bool
same_parts eq a b = pointwise eq a.items b.items

-- each key of the first list stands at its place in the second
abbrev pub StayIn : {K : Type 0} → List K → List K → Type 0
StayIn {K} old new = (i : ℕ) (k : K) → slice_get old i ≡ Some k → slice_get new i ≡ Some k

-- the key with number `n` equals the list `parts`, part by part
pub record IsNumberOf {X : Type 0} (eq : X → X → Bool) (keys : List (Vec X Global)) (parts : List X) (n : ℕ) : Type 0 where
  pub some : 0 < n
  pub key : Vec X Global
  pub stands : slice_get keys (n - 1) ≡ Some key
  pub same : pointwise eq parts key.items ≡ true

-- some item has the key `k` and the class `class`
pub record HasClassOf {K : Type 0} (key : ℕ → K) (classes : List ℕ) (k : K) (class : ℕ) : Type 0 where
  pub item : ℕ
  pub within : item < length classes
  pub is : get_or classes item 0 ≡ class
  pub alike : key item ≡ k

-- the classes of equal keys, numbered by first member
abbrev pub IsKeyClasses : {K : Type 0} → (ℕ → K) → List ℕ → Type 0
IsKeyClasses key classes = IsClassesOf (λ i j. key i ≡ key j) classes
