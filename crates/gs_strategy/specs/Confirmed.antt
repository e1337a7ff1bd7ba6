-- Strategies that are confirmed: the classes are lossless, the game in sequence form keeps its limits, and the numbers are the verdict on the plans.
use Rattle.std.specs.Prelude.{ℕ, ℤ, unsigned_abs}
use Rattle.gs_model.specs.{Frame.{Frame}, Lossless.{IsLossless}, Plans.{Plan, lift}, Verdict.{IsVerdict}}
use Rattle.gs_seq.specs.{Slots.{plan_of}, Stops.{IsSmall}}
use Rattle.gs_strategy.specs.Values.{AreFractions, Numbers, FractionParts, Strategy, Weights, file_frame}

-- the frame of a strategy's game
abbrev pub strategy_frame : Strategy → Frame
strategy_frame s = file_frame s.game

-- the raw plan that a player's weights stand for: at a raw signal the weights of its class
abbrev pub raw_plan : Strategy → Weights → Plan
raw_plan s w = lift (strategy_frame s) s.classes (plan_of (strategy_frame s) s.classes w.total w.weights)

-- a fraction as a signed numerator and an unsigned denominator
abbrev pub over : FractionParts → ℤ × ℕ
over p = (p.0, unsigned_abs p.1)

-- reduced fractions that are the value of the strategy's plans and what each player could still gain by any raw plan
pub record AreNumbersOf (s : Strategy) (n : Numbers) : Type 0 where
  pub fractions : AreFractions n
  pub verdict : IsVerdict (strategy_frame s) (raw_plan s s.one) (raw_plan s s.two) (over n.value) (over n.gap1) (over n.gap2)

-- the classes are lossless, the game over them keeps the limits, and the strategy's numbers are those of its plans
pub record IsConfirmed (s : Strategy) : Type 0 where
  pub lossless : IsLossless (strategy_frame s) s.classes
  pub small : IsSmall (strategy_frame s) s.classes
  pub numbers : AreNumbersOf s s.numbers
