-- Bijections between the children of two signals, by places.
use Rattle.std.specs.Prelude.{ℕ, ℤ, ◌<◌, ◌≡◌, Bool, true, List, [], ◌∷◌, drop, get_or, length, All, Option, None, Some}
use Rattle.gs_model.specs.{Game.{Game, Round}, Isomorphism.{IsomorphicFor}, Matching.{AllDiffer, Edges, has_edge}, Signals.{Signal, children}}
use Rattle.gs_model.specs.ViewTree.{leaves}

-- `to` names for each member of `xs`, in order, a different place of `ys`. The lists have the same length, and `R` relates each member to the one named
pub record IsPairingOf {X : Type 0} (R : X → X → Type 0) (xs ys : List X) (to : List ℕ) : Type 0 where
  pub as_many : length ys ≡ length xs
  pub one_each : length to ≡ length xs
  pub in_range : All (λ k. k < length ys) to
  pub differ : AllDiffer to
  pub related : (k : ℕ) (d : X) → k < length xs → R (get_or xs k d) (get_or ys (get_or to k 0) d)

-- a pairing of the children of two signals, by the rounds that follow theirs: paired children have equal edge weights and are isomorphic.
-- If no round follows, a pairing of equal leaves
abbrev pub IsPairingFor : Game → List Round → Signal → Signal → List ℕ → Type 0
IsPairingFor g [] s t to = IsPairingOf (λ (a : ℕ × ℤ) (b : ℕ × ℤ). a ≡ b) (leaves g s) (leaves g t) to
IsPairingFor g (r ∷ rs) s t to = IsPairingOf (λ (a : ℕ × Signal) (b : ℕ × Signal). (a.0 ≡ b.0)
    × IsomorphicFor g rs a.1 b.1) (children g r s) (children g r t) to

-- the answer to a search for such a pairing: with `None` the two signals are not isomorphic; otherwise they are, and `to` is a pairing
abbrev pub IsPairedFor : Game → List Round → Signal → Signal → Option (List ℕ) → Type 0
IsPairedFor g rest s t None = IsomorphicFor g rest s t → ⊥
IsPairedFor g rest s t (Some to) = IsomorphicFor g rest s t × IsPairingFor g rest s t to

-- the answer to a search for a pairing of two signals of a round
abbrev pub IsPaired : Game → ℕ → Signal → Signal → Option (List ℕ) → Type 0
IsPaired g round s t = IsPairedFor g (drop round g.rounds) s t

-- a pairing of members that the test `eq` accepts, or `None` if there is no such pairing
abbrev pub IsPairingAnswer : {X : Type 0} → (X → X → Bool) → List X → List X → Option (List ℕ) → Type 0
IsPairingAnswer eq xs ys None = (to : List ℕ) → IsPairingOf (λ x y. eq x y ≡ true) xs ys to → ⊥
IsPairingAnswer eq xs ys (Some to) = IsPairingOf (λ x y. eq x y ≡ true) xs ys to

-- the edge joins places of equal members
abbrev pub JoinsEqual : {X : Type 0} → (X → X → Bool) → List X → List X → ℕ × ℕ → Type 0
JoinsEqual {X} eq xs ys e = (e.0 < length xs) × (e.1 < length ys) × ((d : X) → eq (get_or xs e.0 d) (get_or ys e.1 d) ≡ true)

-- whether an edge joins two places
abbrev pub joins : List (ℕ × ℕ) → ℕ → ℕ → Bool
joins edges a b = has_edge (record { left = 0; right = 0; edges = edges }) a b

-- every edge joins equal members, and no such edge of the first `n` members of `xs` is missing
pub record AreEqualEdges {X : Type 0} (eq : X → X → Bool) (xs ys : List X) (n : ℕ) (edges : List (ℕ × ℕ)) : Type 0 where
  pub only : All (JoinsEqual eq xs ys) edges
  pub all : (a b : ℕ) (d : X) → a < n → b < length ys → eq (get_or xs a d) (get_or ys b d) ≡ true → joins edges a b ≡ true

-- the bipartite graph between `xs` and `ys` whose edges join all equal members
pub record IsEqualGraph {X : Type 0} (eq : X → X → Bool) (xs ys : List X) (g : Edges) : Type 0 where
  pub left : g.left ≡ length xs
  pub right : g.right ≡ length ys
  pub edges : AreEqualEdges eq xs ys (length xs) g.edges
