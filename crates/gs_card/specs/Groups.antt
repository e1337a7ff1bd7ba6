-- Which lists of cards are groups of a size, and that all of them are listed, each once. Source: drawing without replacement.
use Rattle.std.specs.{Prelude.{ℕ, ◌≡◌, ◌≤◌, ◌==◌, ◌↔◌, List, length, count_by, slice_index, Contains}, List.Sorted.{IsNonDecreasing, IsStrictlySortedBy}}
use Rattle.std.specs.{Cmp.Lexicographic.{slice_cmp}, Ordering.{nat_cmp}}
use Rattle.gs_model.specs.Cards.{groups}

-- a list of cards is a group of this size that `left` allows: it ascends, and no kind occurs in it more often than copies are left
pub record IsGroup (left : List ℕ) (size : ℕ) (g : List ℕ) : Type 0 where
  pub ascending : IsNonDecreasing g
  pub sized : length g ≡ size
  pub copies : (kind : ℕ) → count_by (λ card. card == kind) g ≤ slice_index left kind

-- the listed groups are exactly the groups of the size that `left` allows
abbrev pub GroupsAreAll : Type 0
GroupsAreAll = (left : List ℕ) (size : ℕ) (g : List ℕ) → Contains (groups left size) g ↔ IsGroup left size g

-- the list of groups ascends strictly in lexicographic order, so each group occurs in it once
abbrev pub GroupsAscend : Type 0
GroupsAscend = (left : List ℕ) (size : ℕ) → IsStrictlySortedBy (slice_cmp nat_cmp) (groups left size)
