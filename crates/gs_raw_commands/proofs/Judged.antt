-- What the raw verdict and the hand values say of two strategies.
use Rattle.std.proofs.{Common.{◌≡◌, ℕ, ◌<◌, [], ◌∷◌, List, map, length, get_or, sym, ap, ◌∙◌, subst, arith}, lemmas.List.{get_or-map, length-map}}
use Rattle.gs_best.specs.Judged.{parts}
use Rattle.gs_frac.specs.{declared.value.Fraction.{Fraction}, declared.value.Verdict.{Verdict}}
use Rattle.gs_model.specs.{Frame.{Frame, signal_count}, Payoff.{IsHandValue}, Verdict.{IsJudgedVerdict}}
use Rattle.gs_raw.specs.Answers.{AreHandValuesOf, IsHandValueOf, IsJudgedOf}
use Rattle.gs_seq.specs.Plans.{class_plan, lifted}
use Rattle.gs_strategy.specs.{Confirmed.{strategy_frame}, Views.{numbers_of, parts_of, stored_view}, declared.stored.Stored.{Stored}}
use Rattle.gs_raw_commands.specs.Judging.{AreHandValues, AreJudged, IsHandFraction}

pub are_judged : (f : Frame) (one two : Stored) (v : Verdict) → f ≡ strategy_frame (stored_view one) → f ≡ strategy_frame (stored_view two)
    → IsJudgedOf f one.classes.lists one.one two.classes.lists two.two v
    → AreJudged (stored_view one) (stored_view two) (numbers_of v)
are_judged f one two v first second j = record {
  fractions = record { value = v.value.reduced; gap1 = v.gap1.reduced; gap2 = v.gap2.reduced };
  verdict = subst (λ (h : Frame). IsJudgedVerdict (strategy_frame (stored_view one)) one.classes.lists
      (class_plan (strategy_frame (stored_view one)) one.classes.lists one.one) two.classes.lists (class_plan h two.classes.lists two.two) (parts v.value)
      (parts v.gap1) (parts v.gap2))
      second (subst (λ (h : Frame). IsJudgedVerdict h one.classes.lists (class_plan h one.classes.lists one.one) two.classes.lists
      (class_plan f two.classes.lists two.two) (parts v.value) (parts v.gap1) (parts v.gap2)) first j);
}

pub is_hand : (f : Frame) (one two : Stored) (signal : ℕ) (v : Fraction) → f ≡ strategy_frame (stored_view one) → f ≡ strategy_frame (stored_view two)
    → IsHandValueOf f one.classes.lists one.one two.classes.lists two.two signal v
    → IsHandFraction (stored_view one) (stored_view two) signal (parts_of v)
is_hand f one two signal v first second h = record {
  reduced = v.reduced;
  value = subst (λ (h : Frame). IsHandValue (strategy_frame (stored_view one)) (lifted (strategy_frame (stored_view one)) one.classes.lists one.one)
      (lifted h two.classes.lists two.two) signal (parts v).0 (parts v).1)
      second (subst (λ (h : Frame). IsHandValue h (lifted h one.classes.lists one.one) (lifted f two.classes.lists two.two) signal (parts v).0 (parts v).1)
      first h);
}

-- one of some
some_of : {X : Type 0} (xs : List X) → 0 < length xs → X
some_of [] l = absurd (omega arith)
some_of (x ∷ xs) l = x

pub are_hands : (f : Frame) (one two : Stored) (hands : List Fraction) → f ≡ strategy_frame (stored_view one) → f ≡ strategy_frame (stored_view two)
    → AreHandValuesOf f one.classes.lists one.one two.classes.lists two.two hands
    → AreHandValues (stored_view one) (stored_view two) (map parts_of hands)
are_hands f one two hands first second h =
    let count = ap (λ (g : Frame). signal_count g 1) first in
    record {
      long = length-map hands parts_of ∙ h.long ∙ count;
      each = λ s d l.
          (let some : 0 < length hands = omega (arith, l, count, h.long) in
          let none = some_of hands some in
          let here : s < signal_count f 1 = omega (arith, l, count) in
          let v = get_or hands s none in
          subst (IsHandFraction (stored_view one) (stored_view two) s) (sym (get_or-map parts_of hands s none d (omega (arith, here, h.long))))
          (is_hand f one two s v first second (h.each s none here)));
    }
