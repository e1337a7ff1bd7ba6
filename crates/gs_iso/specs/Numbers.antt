-- Numbers that tell which signals are isomorphic, and the signatures that they are made from.
use Rattle.std.specs.{Prelude.{ℕ, ℤ, ◌-◌, ◌<◌, ◌≡◌, ◌↔◌, List, [], ◌∷◌, get_or, length, map, unsigned_abs}, List.{All, range_with_len}}
use Rattle.gs_model.specs.{Game.{Game, round_count}, Isomorphism.{Isomorphic}, Signals.{child_count, first_child, last_edge, signal_at, signals}}
use Rattle.gs_model.specs.{Signatures.{IsSignature}, ViewTree.{leaves}}
use Rattle.gs_iso.specs.Orders.{leaf_mark, mark_lt}

-- numbers of the signals of a round that are equal exactly where the signals are isomorphic
pub record IsNumbering (g : Game) (round : ℕ) (numbers : List ℕ) : Type 0 where
  pub long : length numbers ≡ length (signals g round)
  pub same : (i j : ℕ) → i < length numbers → j < length numbers → (get_or numbers i 0 ≡ get_or numbers j 0)
      ↔ Isomorphic g round (signal_at g round i) (signal_at g round j)

-- the key that decides a signal's class: the class of its parent, and its number. `above` has the classes of the round before
abbrev pub class_key : List ℕ → List ℕ → List ℕ → ℕ → ℕ × ℕ
class_key above parents numbers i = (get_or above (get_or parents i 0) 0, get_or numbers i 0)

-- the last of some class lists; if there is none, the list of the root alone, which has class 1
abbrev pub classes_above : List (List ℕ) → List ℕ
classes_above lists = get_or ((1 ∷ []) ∷ lists) (length lists) []

-- what signal `x` adds to its parent's signature: the weight of the edge to it, and its number
abbrev pub child_part : Game → ℕ → List ℕ → ℕ → ℕ × ℕ
child_part g round numbers x = (last_edge g.copies (signal_at g round x), get_or numbers x 0)

-- marks of the signals of a round: equal exactly where the weights of the edges to the signals are equal and their numbers are equal
pub record AreMarks (g : Game) (round : ℕ) (numbers marks : List ℕ) : Type 0 where
  pub long : length marks ≡ length (signals g round)
  pub same : (x y : ℕ) → x < length marks → y < length marks → (get_or marks x 0 ≡ get_or marks y 0)
      ↔ (child_part g round numbers x ≡ child_part g round numbers y)

-- the marks of the children of signal `i` of the round, in the order of their places; `marks` has those of the next round
abbrev pub marks_under : Game → ℕ → List ℕ → ℕ → List ℕ
marks_under g round marks i = map (λ x. get_or marks x 0) (range_with_len (first_child g round i) (child_count g round i))

-- the marks of the leaves under a last-round signal, in ascending order; every outcome is smaller than 256 in size
pub record IsLeafSignature (g : Game) (i : ℕ) (signature : List ℕ) : Type 0 where
  pub signs : IsSignature mark_lt (map leaf_mark (leaves g (signal_at g (round_count g) i))) signature
  pub small : All (λ (l : ℕ × ℤ). unsigned_abs l.1 < 256) (leaves g (signal_at g (round_count g) i))

-- for each round, the last one first, numbers of its signals that are equal exactly where the signals are isomorphic
pub record AreNumberings (g : Game) (numbers : List (List ℕ)) : Type 0 where
  pub rounds : length numbers ≡ round_count g
  pub each : (k : ℕ) → k < length numbers → IsNumbering g (round_count g - k) (get_or numbers k [])
