-- Why a strategy is not confirmed. The checks are made in this order: a trouble applies if no earlier one does.
use Rattle.std.specs.Prelude.{◌≡◌, ◌≢◌, ◌⊎◌, ℕ, List, codes}
use Rattle.gs_model.specs.Lossless.{IsLossless}
use Rattle.gs_reply.specs.{Replies.{Reply, Refuses}, Refusals.{Refusal, Unlike_pair, Too_large, Wrong_number}, Troubles.{IsUnlikePair, Passes}}
use Rattle.gs_reply.specs.declared.refusals.Limit.{Limit}
use Rattle.gs_seq.specs.Stops.{IsSmall}
use Rattle.gs_strategy.specs.{Confirmed.{AreNumbersOf, strategy_frame}, Values.{Numbers, FractionParts, Strategy}}

-- the classes are lossless, the game is too large, and this is the first limit that it passes
pub record IsTooLarge (s : Strategy) (limit : Limit) : Type 0 where
  pub lossless : IsLossless (strategy_frame s) s.classes
  pub passed : Passes s.game s.classes limit

-- the name of the first of the three stated numbers that differs from the computed one, with both
abbrev pub IsFirstWrong : Numbers → Numbers → List ℕ → FractionParts → FractionParts → Type 0
IsFirstWrong stated found name one other =
    ((name ≡ codes "value") × (one ≡ stated.value) × (other ≡ found.value) × (stated.value ≢ found.value))
    ⊎ (((name ≡ codes "gap1") × (one ≡ stated.gap1) × (other ≡ found.gap1) × (stated.value ≡ found.value) × (stated.gap1 ≢ found.gap1))
    ⊎ ((name ≡ codes "gap2") × (one ≡ stated.gap2) × (other ≡ found.gap2) × (stated.value ≡ found.value) × (stated.gap1 ≡ found.gap1)
    × (stated.gap2 ≢ found.gap2)))

-- the classes are lossless, the game is within the limits, and this is the first stated number that is not that of the plans
pub record IsWrongNumber (s : Strategy) (name : List ℕ) (stated found : FractionParts) : Type 0 where
  pub lossless : IsLossless (strategy_frame s) s.classes
  pub small : IsSmall (strategy_frame s) s.classes
  pub numbers : Numbers
  pub are : AreNumbersOf s numbers
  pub first : IsFirstWrong s.numbers numbers name stated found

-- this refusal applies to a strategy that is not confirmed; no other refusal does
abbrev pub IsTrouble : Strategy → Refusal → Type 0
IsTrouble s (Unlike_pair round one two) = IsUnlikePair s.game s.classes round one two
IsTrouble s (Too_large limit) = IsTooLarge s limit
IsTrouble s (Wrong_number name stated found) = IsWrongNumber s name stated found
IsTrouble s other = ⊥

-- the reply refuses the strategy with its trouble
abbrev pub IsUnconfirmed : Strategy → Reply → Type 0
IsUnconfirmed s reply = (why : Refusal) × IsTrouble s why × (reply ≡ Refuses why)

-- ---- the refusal for one of them

-- the classes are lossless, and the reply refuses the game with the first limit that it passes
abbrev pub SaysTooLarge : Strategy → Reply → Type 0
SaysTooLarge s reply = (limit : Limit) × IsTooLarge s limit × (reply ≡ Refuses (Too_large limit))

-- the reply refuses a strategy with its first wrong number
abbrev pub SaysWrong : Strategy → Reply → Type 0
SaysWrong s reply = (name : List ℕ) × (stated : FractionParts) × (found : FractionParts) × IsWrongNumber s name stated found
    × (reply ≡ Refuses (Wrong_number name stated found))
