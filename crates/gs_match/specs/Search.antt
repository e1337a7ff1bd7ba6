-- Matchings by right node, and the search for an augmenting path. Source: the augmenting paths of Kuhn (1955) and Hall (1935).
use Rattle.std.specs.Prelude.{ℕ, ◌+◌, ◌<◌, ◌≤◌, ◌≡◌, ◌≢◌, true, false, Bool, List, length, get_or, Option, Some, None, map, count_by}
use Rattle.gs_match.specs.{declared.search.Visit.{Visit}, declared.search.Found.{Found}, declared.search.Found.TheVariants.{Free, Closed}, Adjacency.{Near}}

-- the left node that a right node is matched with
abbrev pub holder : List (Option ℕ) → ℕ → Option ℕ
holder holders b = get_or holders b None

-- a right node other than `but` is matched with the left node `a`
pub record IsHeldBut (holders : List (Option ℕ)) (but a : ℕ) : Type 0 where
  pub at : ℕ
  pub is : holder holders at ≡ Some a
  pub other : at ≢ but

-- without the right node `but`: a matching along edges, of exactly the left nodes below `size`
pub record IsMatchingBut (adjacent : List (List ℕ)) (holders : List (Option ℕ)) (size but : ℕ) : Type 0 where
  pub once : (b c a : ℕ) → b ≢ but → c ≢ but → holder holders b ≡ Some a → holder holders c ≡ Some a → b ≡ c
  pub along : (b a : ℕ) → b ≢ but → holder holders b ≡ Some a → Near adjacent a b
  pub below : (b a : ℕ) → b ≢ but → holder holders b ≡ Some a → a < size
  pub all : (a : ℕ) → a < size → IsHeldBut holders but a

-- a matching along edges, of exactly the left nodes below `size`; no right node is left out
abbrev pub IsMatching : List (List ℕ) → List (Option ℕ) → ℕ → Type 0
IsMatching adjacent holders size = IsMatchingBut adjacent holders size (length holders)

-- the visit at a place
abbrev pub visit : List Visit → ℕ → Visit
visit visits k = get_or visits k (record { left = 0; right = 0; from = 0 })

-- whether a right node was reached
abbrev pub is_reached : List Bool → ℕ → Bool
is_reached reached b = get_or reached b false

-- visit `k`, after the first: its left node is matched with its right node, which is a neighbour of an earlier visit's left node
pub record IsLinked (adjacent : List (List ℕ)) (holders : List (Option ℕ)) (visits : List Visit) (reached : List Bool) (k : ℕ) : Type 0 where
  pub earlier : (visit visits k).from < k
  pub held : holder holders (visit visits k).right ≡ Some (visit visits k).left
  pub marked : is_reached reached (visit visits k).right ≡ true
  pub near : Near adjacent (visit visits (visit visits k).from).left (visit visits k).right

-- alternating paths from the left node of the first visit. The visits have different left nodes, one more than the reached right nodes
pub record IsTree (adjacent : List (List ℕ)) (holders : List (Option ℕ)) (visits : List Visit) (reached : List Bool) : Type 0 where
  pub some : 0 < length visits
  pub wide : length reached ≡ length holders
  pub linked : (k : ℕ) → 0 < k → k < length visits → IsLinked adjacent holders visits reached k
  pub counted : count_by (λ x. x) reached + 1 ≡ length visits
  pub differ : (i j : ℕ) → i < j → j < length visits → (visit visits i).left ≢ (visit visits j).left

-- `more` starts with the visits `visits`, and `marked` still marks all that `reached` marks
pub record Extends (visits : List Visit) (reached : List Bool) (more : List Visit) (marked : List Bool) : Type 0 where
  pub longer : length visits ≤ length more
  pub kept : (k : ℕ) → k < length visits → visit more k ≡ visit visits k
  pub marks : (b : ℕ) → is_reached reached b ≡ true → is_reached marked b ≡ true

-- all neighbours of the left nodes of the first `n` visits are reached
abbrev pub AreExplored : List (List ℕ) → List Visit → List Bool → ℕ → Type 0
AreExplored adjacent visits reached n = (k b : ℕ) → k < n → Near adjacent (visit visits k).left b → is_reached reached b ≡ true

-- `Some b` is a free neighbour of the visit's left node; with `None`, all neighbours of that left node are reached
abbrev pub IsRowEnd : List (List ℕ) → List (Option ℕ) → List Visit → List Bool → ℕ → Option ℕ → Type 0
IsRowEnd adjacent holders visits reached place None = (b : ℕ) → Near adjacent (visit visits place).left b → is_reached reached b ≡ true
IsRowEnd adjacent holders visits reached place (Some b) = (holder holders b ≡ None) × (b < length holders) × Near adjacent (visit visits place).left b

-- an augmenting path: visits that lead to the free right node `right`, a neighbour of the left node of the visit at `place`
pub record IsAugmentingPath (adjacent : List (List ℕ)) (holders : List (Option ℕ)) (visits : List Visit) (place right : ℕ) : Type 0 where
  pub reached : List Bool
  pub tree : IsTree adjacent holders visits reached
  pub within : place < length visits
  pub free : holder holders right ≡ None
  pub right_in : right < length holders
  pub near : Near adjacent (visit visits place).left right

-- all neighbours of all visited left nodes are reached
pub record IsClosed (adjacent : List (List ℕ)) (holders : List (Option ℕ)) (visits : List Visit) : Type 0 where
  pub reached : List Bool
  pub tree : IsTree adjacent holders visits reached
  pub explored : AreExplored adjacent visits reached (length visits)

-- what a search from the left node `root` found: a path to a free right node, or that all neighbours of all visited left nodes are reached
abbrev pub IsFound : List (List ℕ) → List (Option ℕ) → ℕ → Found → Type 0
IsFound adjacent holders root (Free visits place right) = ((visit visits.items 0).left ≡ root) × IsAugmentingPath adjacent holders visits.items place right
IsFound adjacent holders root (Closed visits) = ((visit visits.items 0).left ≡ root) × IsClosed adjacent holders visits.items

-- a search from the left node `root` that reached all neighbours of all visited left nodes
abbrev pub HasClosed : List (List ℕ) → List (Option ℕ) → ℕ → List Visit → Type 0
HasClosed adjacent holders root visits = ((visit visits 0).left ≡ root) × IsClosed adjacent holders visits

-- the left nodes of some visits
abbrev pub lefts : List Visit → List ℕ
lefts visits = map (λ (v : Visit). v.left) visits
