-- Bytes have one reading, and the text of a strategy is read. Two raw plans have one verdict, and a raw signal has one value.
use Rattle.std.specs.Prelude.{◌≡◌, ◌<◌, ◌*◌, ℕ, List, Ok}
use Rattle.gs_file.specs.declared.version.Version.{Version}
use Rattle.gs_model.specs.{Frame.{Frame, total_weight}, Payoff.{IsHandValue, hand_weight}, Plans.{Plan}, Verdict.{IsVerdict}}
use Rattle.gs_strategy.specs.{Checks.{ReadResult, Reads}, Confirmed.{over}, Laws.{IsStrategy}, Texts.{strategy_text}}
use Rattle.gs_strategy.specs.Values.{AreFractions, FractionParts, IsFractionOf, Numbers, Strategy}

-- bytes have only one reading: a strategy or a first fault
abbrev pub ReadingsAreOne : Type 0
ReadingsAreOne = (bytes : List ℕ) (one two : ReadResult) → Reads bytes one → Reads bytes two → one ≡ two

-- the text of a strategy is read as that strategy
abbrev pub TextsAreRead : Type 0
TextsAreRead = (version : Version) (s : Strategy) → IsStrategy version s → Reads (strategy_text version s) (Ok s)

-- two raw plans have only one verdict in reduced fractions, if the weight of all deals and both totals are above 0
abbrev pub VerdictsAreOne : Type 0
VerdictsAreOne =
    (f : Frame) (x y : Plan) (n m : Numbers) → 0 < total_weight f * x.total * y.total → AreFractions n → AreFractions m
    → IsVerdict f x y (over n.value) (over n.gap1) (over n.gap2) → IsVerdict f x y (over m.value) (over m.gap1) (over m.gap2) → n ≡ m

-- a raw signal has only one value in reduced fractions, if the weight of its deals and both totals are above 0
abbrev pub HandsAreOne : Type 0
HandsAreOne =
    (f : Frame) (x y : Plan) (s : ℕ) (p q : FractionParts) → 0 < hand_weight f s * x.total * y.total → IsFractionOf p → IsFractionOf q
    → IsHandValue f x y s (over p).0 (over p).1 → IsHandValue f x y s (over q).0 (over q).1 → p ≡ q
