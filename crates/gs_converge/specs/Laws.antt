-- The gaps of fictitious play converge to 0, as laws. Each is the clause of a function with an empty body. Source: Robinson 1951.
use Rattle.std.specs.Prelude.{ℕ, ◌*◌, ◌<◌, ◌≤◌, ℤ, pos, ◌+ℤ◌, ◌*ℤ◌, ◌≤ℤ◌}
use Rattle.gs_model.specs.{Classes.{ClassLists, IsClasses}, Frame.{Frame, frame_of, total_weight}, FrameFacts.{InRange, IsExchanged, IsWalked}, Lossless.{IsLossless}}
use Rattle.gs_model.specs.Game.{Game, IsPlayable}
use Rattle.gs_converge.specs.BestTurns.{AreBestTurns}
use Rattle.gs_model.specs.{Plans.{Plan, lift}, Play.{IsFictitiousPlay}, Verdict.{IsVerdict}}

-- the sum of two fractions is at most p / q. Each fraction has a signed numerator and a denominator above 0
abbrev pub AreTogetherAtMost : ℤ × ℕ → ℤ × ℕ → ℕ → ℕ → Type 0
AreTogetherAtMost a b p q = (pos q *ℤ (pos b.1 *ℤ a.0 +ℤ pos a.1 *ℤ b.0)) ≤ℤ pos (p * (a.1 * b.1))

-- for each fraction p / q above 0 there is a number of turns from which on the sum of both gaps is at most p / q, whichever best answers the turns take
abbrev pub BestTurnsConverge : Type 0
BestTurnsConverge =
    (f : Frame) (lists : ClassLists) → InRange f → IsWalked f 1 → IsWalked f 2 → IsExchanged f 1 → IsClasses f.parents lists
    → 0 < total_weight f → (p q : ℕ) → 0 < p
    → (turns : ℕ) × ((n : ℕ) (x y : Plan) (value gap1 gap2 : ℤ × ℕ) → turns ≤ n → AreBestTurns f lists n x y
    → IsVerdict f (lift f lists x) (lift f lists y) value gap1 gap2 → AreTogetherAtMost gap1 gap2 p q)

-- over lossless classes: for each fraction p / q above 0 there is a number of turns of fictitious play from which on the sum of both gaps is at most p / q
abbrev pub PlayConverges : Type 0
PlayConverges =
    (f : Frame) (lists : ClassLists) → InRange f → IsWalked f 1 → IsWalked f 2 → IsExchanged f 1 → IsClasses f.parents lists → IsLossless f lists
    → 0 < total_weight f → (p q : ℕ) → 0 < p
    → (turns : ℕ) × ((n : ℕ) (x y : Plan) (value gap1 gap2 : ℤ × ℕ) → turns ≤ n → IsFictitiousPlay f lists n x y
    → IsVerdict f (lift f lists x) (lift f lists y) value gap1 gap2 → AreTogetherAtMost gap1 gap2 p q)

-- in every playable game that has a deal, with lossless classes: for each fraction p / q above 0 there is a number of turns of fictitious play from which on
-- the sum of both gaps is at most p / q
abbrev pub GapsConverge : Type 0
GapsConverge =
    (g : Game) (lists : ClassLists) → let f = frame_of g in IsPlayable g → IsClasses f.parents lists → IsLossless f lists
    → 0 < total_weight f → (p q : ℕ) → 0 < p
    → (turns : ℕ) × ((n : ℕ) (x y : Plan) (value gap1 gap2 : ℤ × ℕ) → turns ≤ n → IsFictitiousPlay f lists n x y
    → IsVerdict f (lift f lists x) (lift f lists y) value gap1 gap2 → AreTogetherAtMost gap1 gap2 p q)
