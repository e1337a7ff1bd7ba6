-- The greatest common divisor and the least common multiple. Source: Euclid, Elements VII.
use Rattle.std.specs.{Prelude.{ℕ, zero, suc, ◌%◌, ◌==◌, if◌then◌else◌}, Int.{◌∣◌}}

-- Euclid's method for at most `turns` turns: what a has become when b is 0 or the turns are used up
abbrev pub gcd_within : ℕ → ℕ → ℕ → ℕ
gcd_within zero a b = a
gcd_within (suc turns) a b = if b == 0 then a else gcd_within turns b (a % b)

-- the greatest common divisor by Euclid's method, 0 for two zeros
unfoldable pub gcd_of : ℕ → ℕ → ℕ
gcd_of a b = gcd_within (suc b) a b

-- m is the least common multiple of a and b: a common multiple that divides every common multiple
pub record IsLcm (a b m : ℕ) : Type 0 where
  pub of_first : a ∣ m
  pub of_second : b ∣ m
  pub least : (n : ℕ) → a ∣ n → b ∣ n → m ∣ n
