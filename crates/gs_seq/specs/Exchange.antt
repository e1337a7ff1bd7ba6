-- The pairs of classes, seen from the other player's side.
use Rattle.std.specs.Prelude.{ℕ, ◌≡◌, neg_ℤ}
use Rattle.gs_model.specs.{Classes.{ClassLists}, Frame.{frame_of}, Game.{Game}}
use Rattle.gs_seq.specs.Cells.{pair_signed, pair_weight}

-- exchanging the players keeps the weight of a pair of classes and negates its signed weight
abbrev pub PairsAreExchanged : Type 0
PairsAreExchanged =
    (g : Game) (lists : ClassLists) (round c e : ℕ)
    → (pair_weight (frame_of g) lists round c e ≡ pair_weight (frame_of g) lists round e c)
    × (pair_signed (frame_of g) lists round c e ≡ neg_ℤ (pair_signed (frame_of g) lists round e c))
