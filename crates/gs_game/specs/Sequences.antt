-- Groups of cards dealt one after another. Source: drawing without replacement.
use Rattle.std.specs.Prelude.{ℕ, zero, suc, ◌-◌, ◌*◌, List, [], ◌∷◌, ◌++◌, sum_by, flat_map, map}
use Rattle.gs_model.specs.{Cards.{choose, groups, left_after}, Game.{Round}}

-- the number of sequences of groups of these sizes that the copies left allow
abbrev pub count_sequences : List ℕ → List ℕ → ℕ
count_sequences left [] = 1
count_sequences left (size ∷ sizes) = sum_by (λ g. count_sequences (left_after left g) sizes) (groups left size)

-- the ways to draw groups of these sizes, one after another, from n copies
abbrev pub draws : ℕ → List ℕ → ℕ
draws n [] = 1
draws n (size ∷ sizes) = choose n size * draws (n - size) sizes

-- b to the power n
abbrev pub power : ℕ → ℕ → ℕ
power b zero = 1
power b (suc n) = b * power b n

-- the sizes of the groups that a player sees: in each round the own group, then the public group
abbrev pub seen_sizes : List Round → List ℕ
seen_sizes rs = flat_map (λ (r : Round). r.private ∷ r.public ∷ []) rs

-- the sizes of a player's own groups
abbrev pub privates : List Round → List ℕ
privates rs = map (λ (r : Round). r.private) rs

-- the sizes of the groups of a deal: all that player 1 sees, then player 2's own groups
abbrev pub deal_sizes : List Round → List ℕ
deal_sizes rs = seen_sizes rs ++ privates rs
