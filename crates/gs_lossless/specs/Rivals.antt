-- Rivals: the signals on a board as the other signals on it meet them, where each bonus is 1.
use Rattle.std.specs.Prelude.{ℕ, ◌≡◌, ◌==◌, Bool, true, false, List, cond, map, nat_lt, slice_index, sum_by, ℤ, pos, neg_ℤ}
use Rattle.gs_model.specs.Game.{Game}
use Rattle.gs_tree.specs.{Boards.{signals_on}, Plain.{IsPlain}}
use Rattle.gs_lossless.specs.{Boards.{PaysOnce, strengths_of}, declared.parts.Part.{Part}, declared.rivals.Rival.{Rival}, declared.rivals.RivalTable.{RivalTable}}

-- a last-round signal as a rival: its key, and the strength of its hand
abbrev pub rival_of : Game → List ℕ → ℕ → Rival
rival_of g keys i = record { class = slice_index keys i; strength = slice_index (strengths_of g) i; signal = i }

-- whether a rival is another signal than `signal`
abbrev pub is_other : ℕ → Rival → Bool
is_other signal r = cond (r.signal == signal) false true

-- the outcome for a hand of strength `a` against one of strength `b`, where each bonus is 1
abbrev pub paid_once : ℕ → ℕ → ℤ
paid_once a b = cond (nat_lt b a) (pos 1) (cond (nat_lt a b) (neg_ℤ (pos 1)) (pos 0))

-- the deal of a signal of this strength against a rival, as a part
abbrev pub part_against : ℕ → Rival → Part
part_against strength r = record { class = r.class; outcome = paid_once strength r.strength; weight = 1 }

-- the rivals on the board of the table's first signal: any total over them is that over the signals on the board.
-- Every card is single, each player is dealt one private card, and each bonus is 1
pub record IsRivalTable (g : Game) (keys : List ℕ) (table : RivalTable) : Type 0 where
  pub plain : IsPlain g
  pub once : PaysOnce g
  pub rivals : (h : Rival → ℕ) → sum_by h table.rivals.items ≡ sum_by h (map (rival_of g keys) (signals_on g table.first))
