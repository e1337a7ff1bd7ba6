-- An information filter: classes of signals, with the signals' parents. Source: information filters (Gilpin and Sandholm 2007).
use Rattle.std.specs.{Prelude.{ℕ, ◌-◌, ◌^◌, ◌<◌, ◌≤◌, ◌≡◌, List, length, get_or, map}, List.{range_with_len}}
use Rattle.gs_model.specs.Classes.{ClassLists, list_of, class_of, IsClasses}

-- each list is shorter than 2^32
abbrev pub AreShort : List (List ℕ) → Type 0
AreShort lists = (round : ℕ) → 0 < round → round ≤ length lists → length (list_of lists round) < 2 ^ 32

-- parents of at most 4 rounds, each with fewer than 2^32 signals; a parent is a signal of the round before
pub record AreParents (parents : List (List ℕ)) : Type 0 where
  pub few : length parents ≤ 4
  pub short : AreShort parents
  pub in_range : (round s : ℕ) → 1 < round → round ≤ length parents → s < length (list_of parents round)
      → get_or (list_of parents round) s 0 < length (list_of parents (round - 1))

-- a filter: for each round the parent of each signal, and the class of each signal; its parents are valid, and its lists are classes over them
pub record Filter : Type 0 where
  pub parents : List (List ℕ)
  pub lists : ClassLists
  pub forest : AreParents parents
  pub classes : IsClasses parents lists

-- every member of `class` has a parent in the class `above` of the round before
abbrev pub IsParentClass : Filter → ℕ → ℕ → ℕ → Type 0
IsParentClass f round class above =
    (s : ℕ) → s < length (list_of f.lists round) → class_of f.lists round s ≡ class
    → class_of f.lists (round - 1) (get_or (list_of f.parents round) s 0) ≡ above

-- every signal is a class of its own
abbrev pub single_classes : List (List ℕ) → ClassLists
single_classes parents = map (λ l. range_with_len 1 (length l)) parents
