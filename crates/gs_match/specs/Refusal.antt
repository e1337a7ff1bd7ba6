-- Why there is no perfect matching.
use Rattle.std.specs.Prelude.{◌≡◌, ◌≢◌, IfErr, IfOk, List, Result, ℕ}
use Rattle.gs_model.specs.Matching.{Edges, IsHall, IsPerfect}
use Rattle.gs_match.specs.{declared.graph.NoMatch.{NoMatch}, declared.graph.NoMatch.TheVariants.{Sides, Hall}}
use Rattle.gs_match.specs.{declared.graph.MatchError.{MatchError}, declared.graph.MatchError.TheVariants.{Fault, Memory}}

-- the sides have different sizes, `left` and `right`; or they have the same size, `set` is a Hall violator, and no perfect matching exists
abbrev pub IsRefusalOf : Edges → NoMatch → Type 0
IsRefusalOf g (Sides left right) = (left ≡ g.left) × (right ≡ g.right) × (left ≢ right)
IsRefusalOf g (Hall set) = (g.left ≡ g.right) × IsHall g set.items × ((to : List ℕ) → IsPerfect g to → ⊥)

-- why `perfect` gives no matching; memory may run out for any graph
abbrev pub IsMatchError : Edges → MatchError → Type 0
IsMatchError g Memory = Unit {0}
IsMatchError g (Fault why) = IsRefusalOf g why

-- what `perfect` answers: a perfect matching of sides of one size, or why there is none
pub record IsMatchAnswer (g : Edges) (r : Result (List ℕ) MatchError) : Type 0 where
  pub equal : IfOk r (λ _. g.left ≡ g.right)
  pub matched : IfOk r (λ to. IsPerfect g to)
  pub refused : IfErr r (IsMatchError g)
