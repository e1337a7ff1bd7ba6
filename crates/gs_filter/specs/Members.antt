-- Members of a class, each with the next one.
use Rattle.std.specs.Prelude.{ℕ, ◌+◌, ◌<◌, ◌≤◌, ◌≡◌, List, get_or, length}
use Rattle.gs_model.specs.Classes.{ClassLists, class_of, list_of}

-- the first member of a class from a place on, or the number of signals of the round if none follows
pub record IsMemberFrom (lists : ClassLists) (round from class next : ℕ) : Type 0 where
  pub behind : from ≤ next
  pub is : next < length (list_of lists round) → class_of lists round next ≡ class
  pub none : (s : ℕ) → from ≤ s → s < next → class_of lists round s ≡ class → ⊥

-- for each signal of a round the next member of its class, or the number of signals if none follows
pub record AreNextMembers (lists : ClassLists) (round : ℕ) (nexts : List ℕ) : Type 0 where
  pub long : length nexts ≡ length (list_of lists round)
  pub each : (s : ℕ) → s < length nexts → IsMemberFrom lists round (s + 1) (class_of lists round s) (get_or nexts s 0)
