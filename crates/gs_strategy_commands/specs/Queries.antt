-- What a query of a strategy asks for: the information set that its words name, and the player's mixture there.
use Rattle.std.specs.Prelude.{◌≡◌, ◌≢◌, ℕ, ◌<◌, ◌≤◌, List, ◌==◌, if◌then◌else◌, Some}
use Rattle.gs_file.specs.Reading.{FileGame, file_rules}
use Rattle.gs_frac.specs.declared.value.Fraction.{Fraction}
use Rattle.gs_game.specs.Lines.{lines, text_at}
use Rattle.gs_lift.specs.{Mixtures.{IsMixture}, declared.fault.QueryFault.{QueryFault}, declared.fault.QueryFault.TheVariants.{Line, Player, Signal, Round}}
use Rattle.gs_model.specs.{Frame.{last_round, player_at, point_count, round_of, signal_count, trees_of}, Positions.{at_point}, Signals.{signal_at}}
use Rattle.gs_strategy.specs.{Confirmed.{strategy_frame, raw_plan}, Values.{FractionParts, Strategy, Weights, file_frame}}
use Rattle.gs_reply.specs.VerdictText.{mix_text}
use Rattle.gs_tree.specs.Texts.{signal_text}

-- the text is the line of this point of the game
abbrev pub NamesPoint : FileGame → List ℕ → ℕ → Type 0
NamesPoint g line q = text_at (lines (trees_of (file_rules g))) (at_point q) ≡ Some line

-- the text is the line of this point of the game, and the point is the player's
pub record NamesOwnPoint (g : FileGame) (player : ℕ) (line : List ℕ) (q : ℕ) : Type 0 where
  pub in_range : q < point_count (file_frame g)
  pub named : NamesPoint g line q
  pub own : player_at (file_frame g) q ≡ player

-- the text is that of this raw signal of the round
pub record NamesSignal (g : FileGame) (round : ℕ) (text : List ℕ) (i : ℕ) : Type 0 where
  pub in_range : i < signal_count (file_frame g) round
  pub named : text ≡ signal_text g.deck (signal_at (file_rules g) round i)

-- the text is that of a raw signal of some round
abbrev pub NamesSomeSignal : FileGame → List ℕ → Type 0
NamesSomeSignal g text = (round : ℕ) × (0 < round) × (round ≤ last_round (file_frame g)) × (i : ℕ) × NamesSignal g round text i

-- the first rule that the words of a query break
abbrev pub IsBadQuery : FileGame → ℕ → List ℕ → List ℕ → QueryFault → Type 0
IsBadQuery g player line text Line = (q : ℕ) → NamesPoint g line q → ⊥
IsBadQuery g player line text Player = (q : ℕ) × NamesPoint g line q × (player_at (file_frame g) q ≢ player)
IsBadQuery g player line text Signal = (q : ℕ) × NamesOwnPoint g player line q × (NamesSomeSignal g text → ⊥)
IsBadQuery g player line text Round =
    (q : ℕ) × NamesOwnPoint g player line q × NamesSomeSignal g text × ((i : ℕ) → NamesSignal g (round_of (file_frame g) (at_point q)) text i → ⊥)

-- a player's plan in a strategy
abbrev pub weights_of_player : Strategy → ℕ → Weights
weights_of_player s player = if player == 1 then s.one else s.two

-- the player's gap in the strategy
abbrev pub gap_of_player : Strategy → ℕ → FractionParts
gap_of_player s player = if player == 1 then s.numbers.gap1 else s.numbers.gap2

-- the text is the mixture of the player's raw plan at a point and a raw signal, and then the player's gap
pub record IsToldAt (s : Strategy) (player point place : ℕ) (text : List ℕ) : Type 0 where
  pub moves : List (ℕ × Fraction)
  pub mixture : IsMixture (strategy_frame s) (raw_plan s (weights_of_player s player)) point place moves
  pub printed : text ≡ mix_text moves (gap_of_player s player)

-- the text is the mixture and the gap at the player's point and the raw signal that the texts name
pub record IsQueried (s : Strategy) (player : ℕ) (line signal text : List ℕ) : Type 0 where
  pub point : ℕ
  pub place : ℕ
  pub own : NamesOwnPoint s.game player line point
  pub named : NamesSignal s.game (round_of (strategy_frame s) (at_point point)) signal place
  pub told : IsToldAt s player point place text
