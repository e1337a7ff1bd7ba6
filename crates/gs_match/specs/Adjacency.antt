-- Adjacency lists of a bipartite graph: for each left node its neighbours.
use Rattle.std.specs.{Prelude.{ℕ, ◌<◌, ◌≡◌, ◌==◌, List, [], length, get_or, All}, List.{list_any}}
use Rattle.gs_model.specs.Matching.{Edges, has_edge}

-- every edge joins a left node and a right node
abbrev pub AreEdgesInRange : Edges → Type 0
AreEdgesInRange g = All (λ e. (e.0 < g.left) × (e.1 < g.right)) g.edges

-- the neighbours of a left node
abbrev pub row_of : List (List ℕ) → ℕ → List ℕ
row_of adjacent a = get_or adjacent a []

-- for each left node a list of exactly the right nodes to which it has an edge
pub record AreNeighbours (g : Edges) (adjacent : List (List ℕ)) : Type 0 where
  pub long : length adjacent ≡ g.left
  pub same : (a b : ℕ) → a < g.left → list_any (λ x. x == b) (row_of adjacent a) ≡ has_edge g a b
  pub in_range : (a k : ℕ) → k < length (row_of adjacent a) → get_or (row_of adjacent a) k 0 < g.right

-- `b` stands in the list of `a`
pub record Near (adjacent : List (List ℕ)) (a b : ℕ) : Type 0 where
  pub at : ℕ
  pub within : at < length (row_of adjacent a)
  pub here : get_or (row_of adjacent a) at 0 ≡ b

-- every neighbour is a right node below `width`
abbrev pub AreNeighboursBelow : List (List ℕ) → ℕ → Type 0
AreNeighboursBelow adjacent width = (a k : ℕ) → k < length (row_of adjacent a) → get_or (row_of adjacent a) k 0 < width
