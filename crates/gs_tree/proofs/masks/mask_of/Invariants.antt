use Rattle.std.proofs.Common.{◌≡◌, ◌==◌, ℕ, count_by, min, take}
use Rattle.std.specs.Int.{bit_at}
use Rattle.gs_tree.proofs.masks.mask_of.Given as goal

abbrev pub invariant-loop-card : goal.invariant-loop-card
invariant-loop-card l = (card : ℕ) → bit_at l.mask card ≡ min (count_by (λ other. other == card) (take l.card-index l.cards)) 1
