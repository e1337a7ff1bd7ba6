-- What a line and a raw signal's text name. Source: this project's texts.
use Rattle.std.specs.Prelude.{ℕ, ◌≡◌, ◌≢◌, ◌<◌, ◌≤◌, List, Some}
use Rattle.gs_game.specs.{Games.{game_of}, Lines.{lines, text_at}, declared.valid.ValidGame.{ValidGame}}
use Rattle.gs_model.specs.{Frame.{last_round, player_at, point_count, round_of, signal_count, trees_of}, Positions.{at_point}, Signals.{signal_at}}
use Rattle.gs_seq.specs.{Games.{frame_in}, declared.form.Abstract.{Abstract}}
use Rattle.gs_tree.specs.{Texts.{signal_text}, Trees.{deck_of, rules_of}, declared.signals.Signals.{Signals}}
use Rattle.gs_lift.specs.{declared.fault.QueryFault.{QueryFault}, declared.fault.QueryFault.TheVariants.{Line, Player, Signal, Round}}
use Rattle.gs_lift.specs.declared.spot.Spot.{Spot}

-- the signals of a game in sequence form
abbrev pub signals_of : Abstract → Signals
signals_of a = a.lossless.now.signals.now

-- a text is the line of a point
abbrev pub IsLineOfPoint : ValidGame → List ℕ → ℕ → Type 0
IsLineOfPoint g line q = text_at (lines (trees_of (game_of g.game))) (at_point q) ≡ Some line

-- a text is the line of a point of a player
pub record IsLineOfOwnPoint (g : ValidGame) (player : ℕ) (line : List ℕ) (q : ℕ) : Type 0 where
  pub in_range : q < point_count (frame_in g)
  pub named : IsLineOfPoint g line q
  pub own : player_at (frame_in g) q ≡ player

-- a text is the text of raw signal `i` of a round
pub record IsTextOfSignal (s : Signals) (round : ℕ) (text : List ℕ) (i : ℕ) : Type 0 where
  pub in_range : i < signal_count (frame_in s.game.now) round
  pub named : text ≡ signal_text (deck_of s) (signal_at (rules_of s) round i)

-- a text is the text of a raw signal of some round
abbrev pub IsTextOfSomeSignal : Signals → List ℕ → Type 0
IsTextOfSomeSignal s text = (round : ℕ) × (0 < round) × (round ≤ last_round (frame_in s.game.now)) × (i : ℕ) × IsTextOfSignal s round text i

-- a line and a text name a point of a player and a raw signal of its round
pub record IsQuerySpot (s : Signals) (player : ℕ) (line text : List ℕ) (spot : Spot) : Type 0 where
  pub point : IsLineOfOwnPoint s.game.now player line spot.point
  pub signal : IsTextOfSignal s (round_of (frame_in s.game.now) (at_point spot.point)) text spot.signal

-- the first rule that a line and a text break: no point has the line; the point is not the player's; no raw signal has the text;
-- a raw signal has the text, but none of the point's round does
abbrev pub IsFaultOf : Signals → ℕ → List ℕ → List ℕ → QueryFault → Type 0
IsFaultOf s player line text Line = (q : ℕ) → IsLineOfPoint s.game.now line q → ⊥
IsFaultOf s player line text Player = (q : ℕ) × IsLineOfPoint s.game.now line q × (player_at (frame_in s.game.now) q ≢ player)
IsFaultOf s player line text Signal = (q : ℕ) × IsLineOfOwnPoint s.game.now player line q × (IsTextOfSomeSignal s text → ⊥)
IsFaultOf s player line text Round =
    (q : ℕ) × IsLineOfOwnPoint s.game.now player line q × IsTextOfSomeSignal s text
    × ((i : ℕ) → IsTextOfSignal s (round_of (frame_in s.game.now) (at_point q)) text i → ⊥)

-- ---- of private functions

-- why a line names no point of a player
abbrev pub IsPointFault : ValidGame → ℕ → List ℕ → QueryFault → Type 0
IsPointFault g player line Line = (q : ℕ) → IsLineOfPoint g line q → ⊥
IsPointFault g player line Player = (q : ℕ) × IsLineOfPoint g line q × (player_at (frame_in g) q ≢ player)
IsPointFault g player line Signal = ⊥
IsPointFault g player line Round = ⊥
