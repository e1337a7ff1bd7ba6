-- Two strategies judged on raw cards: player 1's plan of the first against player 2's of the second, each over the classes of its own strategy,
-- lossless or not.
use Rattle.std.specs.{Prelude.{◌≡◌, ◌++◌, ◌<◌, ℕ, List, codes, get_or, length, pos}, List.{flat_map, range_with_len}}
use Rattle.gs_card.specs.Decks.{DeckValue}
use Rattle.gs_frac.specs.Texts.{number_line}
use Rattle.gs_model.specs.{Frame.{signal_count}, Game.{Game}, Payoff.{IsHandValue}, Plans.{Plan}, Signals.{signal_at}, Verdict.{IsJudgedVerdict}}
use Rattle.gs_seq.specs.Slots.{plan_of}
use Rattle.gs_strategy.specs.{Confirmed.{strategy_frame, over, raw_plan}, Values.{AreFractions, IsFractionOf, Numbers, FractionParts, Strategy, Weights}}
use Rattle.gs_tree.specs.Texts.{signal_text}

-- the weights as a plan over the strategy's classes
abbrev pub plan_in : Strategy → Weights → Plan
plan_in s w = plan_of (strategy_frame s) s.classes w.total w.weights

-- reduced fractions that are the value of the two plans, and what each player could still gain by any raw plan
pub record AreJudged (one two : Strategy) (n : Numbers) : Type 0 where
  pub fractions : AreFractions n
  pub verdict : IsJudgedVerdict (strategy_frame one) one.classes (plan_in one one.one) two.classes (plan_in two two.two)
      (over n.value) (over n.gap1) (over n.gap2)

-- the reduced fraction is the value of a raw signal of round 1 to player 1
pub record IsHandFraction (one two : Strategy) (signal : ℕ) (p : FractionParts) : Type 0 where
  pub reduced : IsFractionOf p
  pub value : IsHandValue (strategy_frame one) (raw_plan one one.one) (raw_plan two two.two) signal (over p).0 (over p).1

-- the values of all raw signals of round 1, in order
pub record AreHandValues (one two : Strategy) (hands : List FractionParts) : Type 0 where
  pub long : length hands ≡ signal_count (strategy_frame one) 1
  pub each : (signal : ℕ) (d : FractionParts) → signal < signal_count (strategy_frame one) 1 → IsHandFraction one two signal (get_or hands signal d)

-- the line of a raw signal of round 1: its text and its value
abbrev pub hand_line : DeckValue → Game → ℕ → FractionParts → List ℕ
hand_line d g signal p = number_line (codes "hand " ++ signal_text d (signal_at g 1 signal)) p

-- the lines of all raw signals of round 1
abbrev pub hands_text : DeckValue → Game → List FractionParts → List ℕ
hands_text d g hands = flat_map (λ signal. hand_line d g signal (get_or hands signal (pos 0, pos 1))) (range_with_len 0 (length hands))
