-- Sizes and first members of the classes of one list.
use Rattle.std.specs.{Prelude.{ℕ, ◌+◌, ◌<◌, ◌≤◌, ◌≡◌, ◌^◌, ◌==◌, List, length, take, get_or, map, count_by}, List.{range_with_len, position_or_len}}
use Rattle.gs_model.specs.Numbering.{greatest, IsNumbered}
use Rattle.gs_filter.specs.{declared.tally.Tally.{Tally}, declared.tally.TallyError.{TallyError}, declared.tally.TallyError.TheVariants.{Fault, Memory}}

-- the size of a class, and its first member
abbrev pub tally_of : List ℕ → ℕ → Tally
tally_of list class = record { size = count_by (λ x. x == class) list; first = position_or_len (λ x. x == class) list }

-- the tally of each class, in the order of the class numbers
abbrev pub tallies_of : List ℕ → List Tally
tallies_of list = map (tally_of list) (range_with_len 1 (greatest list))

-- the tallies of `n` classes that have one member each, in the order of their members
abbrev pub single_tallies : ℕ → List Tally
single_tallies n = map (λ at. record { size = 1; first = at }) (range_with_len 0 n)

-- the number at a place is at least 1, and at most one above the greatest before it
abbrev pub IsNextNumber : List ℕ → ℕ → Type 0
IsNextNumber list at = (0 < get_or list at 0) × (get_or list at 0 ≤ 1 + greatest (take at list))

-- the first place whose number is 0, or more than one above the greatest before it
pub record IsFirstUnseenIn (list : List ℕ) (at : ℕ) : Type 0 where
  pub within : at < length list
  pub before : (k : ℕ) → k < at → IsNextNumber list k
  pub here : ¬ IsNextNumber list at

-- why a list is not tallied: the first place with an invalid number; memory may run out for any list
abbrev pub IsErrorOf : List ℕ → TallyError → Type 0
IsErrorOf list Memory = Unit {0}
IsErrorOf list (Fault at) = IsFirstUnseenIn list at

-- what comparing the parents' classes needs: the parents and classes of one round, the classes `above` of the round before, and the tallies
pub record AreReady (parents above list : List ℕ) (tallies : List Tally) : Type 0 where
  pub long : length parents ≡ length list
  pub short : length list < 2 ^ 32
  pub in_range : (s : ℕ) → s < length parents → get_or parents s 0 < length above
  pub numbered : IsNumbered list
  pub tallied : tallies ≡ tallies_of list
