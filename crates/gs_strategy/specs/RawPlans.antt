-- The plans of strategies are raw plans: of strategies that were read, and of any two strategies of one game.
use Rattle.std.specs.Prelude.{◌≡◌, ◌<◌, ℕ, List, Ok}
use Rattle.gs_file.specs.declared.version.Version.{Version}
use Rattle.gs_model.specs.{Frame.{total_weight}, Plans.{IsRawPlan}}
use Rattle.gs_strategy.specs.{Checks.{Reads}, Confirmed.{raw_plan}, Laws.{IsStrategy}, Texts.{strategy_text}, Values.{Strategy, file_frame}}

-- Player 1's plan of one strategy and player 2's plan of another stand for raw plans of these players in one game. Totals are above 0. At each point of
-- the player and each raw signal the numbers of the moves add up to the number of the player's last move before. Without such a move they add up to the
-- total. And the game has deals.
pub record AreRawPlans (one two : Strategy) : Type 0 where
  pub first : IsRawPlan (file_frame one.game) 1 (raw_plan one one.one)
  pub second : IsRawPlan (file_frame one.game) 2 (raw_plan two two.two)
  pub deals : 0 < total_weight (file_frame one.game)

-- if bytes are read as `s`, then `s` is a strategy and the bytes are its text in some version
abbrev pub ReadAreStrategies : Type 0
ReadAreStrategies = (bytes : List ℕ) (s : Strategy) → Reads bytes (Ok s) → (version : Version) × IsStrategy version s × (bytes ≡ strategy_text version s)

-- the plans of two strategies of one game stand for raw plans
abbrev pub StrategiesAreRaw : Type 0
StrategiesAreRaw = (v w : Version) (one two : Strategy) → IsStrategy v one → IsStrategy w two → one.game ≡ two.game → AreRawPlans one two

-- the plans of two strategies of one game that were read stand for raw plans
abbrev pub ReadAreRaw : Type 0
ReadAreRaw = (first second : List ℕ) (one two : Strategy) → Reads first (Ok one) → Reads second (Ok two) → one.game ≡ two.game → AreRawPlans one two
