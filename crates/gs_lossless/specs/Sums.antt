-- Weights added up by class and outcome.
use Rattle.std.specs.{Prelude.{ℕ, ◌+◌, ◌<◌, ◌≡◌, ◌==◌, ◌&&◌, ℤ, Bool, List, [], ◌∷◌, if◌then◌else◌, sum_by}, List.{AllByRecursion}}
use Rattle.std.specs.{Ordering.{int_cmp, int_eq, nat_cmp, ordering_then}, declared.cmp.Ordering.{Ordering}, declared.cmp.Ordering.TheVariants.{Less}}
use Rattle.gs_lossless.specs.declared.parts.Part.{Part}

-- the weight of a part if it has this class and this outcome, else 0
abbrev pub weight_at : ℕ → ℤ → Part → ℕ
weight_at c o p = if int_eq p.outcome o then (if p.class == c then p.weight else 0) else 0

-- the total weight of the parts with this class and this outcome
abbrev pub sum_at : List Part → ℕ → ℤ → ℕ
sum_at parts c o = sum_by (weight_at c o) parts

-- whether two parts have the same class and outcome
abbrev pub is_at : Part → Part → Bool
is_at p q = (p.class == q.class) && int_eq p.outcome q.outcome

-- the order of parts by class, then by outcome
abbrev pub key_cmp : Part → Part → Ordering
key_cmp p q = ordering_then (nat_cmp p.class q.class) (int_cmp p.outcome q.outcome)

-- every weight is above 0, and the parts are in ascending order, no two of them with the same class and outcome
abbrev pub PartsRise : List Part → Type 0
PartsRise [] = Unit {0}
PartsRise (p ∷ ps) = (0 < p.weight) × AllByRecursion (λ q. key_cmp p q ≡ Less) ps × PartsRise ps

-- `sums` has the same totals as `parts`, in ascending order of class and outcome
pub record AreSumsOf (parts sums : List Part) : Type 0 where
  pub rises : PartsRise sums
  pub sum : (c : ℕ) (o : ℤ) → sum_at sums c o ≡ sum_at parts c o

-- puts a part before others, or adds its weight to the first of them if both have the same class and outcome
abbrev pub put : Part → List Part → List Part
put p [] = p ∷ []
put p (q ∷ qs) = if is_at q p then record q { weight = q.weight + p.weight } ∷ qs else p ∷ q ∷ qs

-- puts a part behind others, or adds its weight to the last of them if both have the same class and outcome
abbrev pub put_last : Part → List Part → List Part
put_last p [] = p ∷ []
put_last p (q ∷ []) = if is_at q p then record q { weight = q.weight + p.weight } ∷ [] else q ∷ p ∷ []
put_last p (q ∷ r ∷ rs) = q ∷ put_last p (r ∷ rs)

-- joins neighbouring parts that have the same class and outcome
abbrev pub merged : List Part → List Part
merged [] = []
merged (p ∷ ps) = put p (merged ps)
