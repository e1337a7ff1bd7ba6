-- Laws of the end of a path, and of an unbounded path, for every program.
use Rattle.std.specs.{Prelude.{ℕ, ◌<◌, ◌≡◌, List, ℤ, pos, ◌-ℤ◌, ◌*ℤ◌, ◌≤ℤ◌, ◌<ℤ◌}, List.{HoldsAt}}
use Rattle.gs_frac.specs.declared.value.Fraction.{Fraction}
use Rattle.gs_simplex.specs.{declared.program.Program.{Program}, Sums.{sum_to}, Program.{number, aim_of, Listing, IsOpening, IsFeasible}}
use Rattle.gs_simplex.specs.{Path.{unbounded, PathStops}, declared.answer.Best.{Best}, Answer.{IsBest}}

-- the first `count` fractions are the numbers v over d
abbrev pub AreOver : ℕ → List Fraction → ℤ → (ℕ → ℤ) → Type 0
AreOver count xs d v = (j : ℕ) → j < count → HoldsAt (λ f. f.num *ℤ d ≡ v j *ℤ f.den) xs j

-- at the end of the path the values are a feasible solution, and no price is negative
abbrev pub EndIsFeasible : Type 0
EndIsFeasible = (p : Program) (o : Listing) (limit : ℕ) (b : Best) → IsOpening p o → IsBest p o limit b
    → ((d : ℤ) × (v : ℕ → ℤ) × (IsFeasible p d v) × AreOver p.cols b.value.items d v)
    × ((j : ℕ) → j < p.cols → HoldsAt (λ f. pos 0 <ℤ f.den → pos 0 ≤ℤ f.num) b.price.items j)

-- Each program row has a multiplier y i over s. A column's price is the sum of each multiplier times the column's number in its row, less the column's
-- number in the aim. The values are a feasible solution v over d, and its aim is the sum of each multiplier times its row's right side.
abbrev pub PricesHaveMultipliers : Type 0
PricesHaveMultipliers = (p : Program) (o : Listing) (limit : ℕ) (b : Best) → IsOpening p o → IsBest p o limit b
    → (s : ℤ) × (y : ℕ → ℤ) × (pos 0 <ℤ s) × ((j : ℕ) → j < p.cols → HoldsAt (λ f. f.num *ℤ s
    ≡ f.den *ℤ (sum_to p.rows (λ i. y i *ℤ number p i j) -ℤ s *ℤ aim_of p j)) b.price.items j)
    × ((d : ℤ) × (v : ℕ → ℤ) × (IsFeasible p d v) × (AreOver p.cols b.value.items d v)
    × (s *ℤ sum_to p.cols (λ j. aim_of p j *ℤ v j) ≡ d *ℤ sum_to p.rows (λ i. y i *ℤ number p i p.cols)))

-- if the path is unbounded, then for each whole number n there is a feasible solution v over d whose aim is above n
abbrev pub AimHasNoBound : Type 0
AimHasNoBound = (p : Program) (o : Listing) (limit col : ℕ) → IsOpening p o → PathStops p o limit (unbounded col)
    → (n : ℤ) → (d : ℤ) × (v : ℕ → ℤ) × (IsFeasible p d v) × ((n *ℤ d) <ℤ sum_to p.cols (λ j. aim_of p j *ℤ v j))
