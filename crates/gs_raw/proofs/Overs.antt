-- Two plans over their own classes, and the sequence form over single signals of the same game.
use Rattle.std.proofs.Common.{◌≡◌, ℕ, List, get_or, ap, sym, ◌∙◌, subst, arith, Result, Err}
use Rattle.std.specs.Prelude.{IfErr}
use Rattle.gs_filter.specs.Filter.{Filter, single_classes}
use Rattle.gs_frac.specs.{declared.value.Fraction.{Fraction}, declared.value.Verdict.{Verdict}}
use Rattle.gs_game.specs.Games.{game_of}
use Rattle.gs_lossless.specs.declared.checking.Lossless.{Lossless}
use Rattle.gs_model.specs.{Classes.{ClassLists}, Frame.{Frame}}
use Rattle.gs_model.proofs.Ranges.{in_range}
use Rattle.gs_best.specs.Judged.{parts}
use Rattle.gs_seq.specs.{Abstracts.{abstract_frame, lists_of}, Games.{frame_in}, Plans.{IsPlanOf, lifted}, declared.form.Abstract.{Abstract}}
use Rattle.gs_seq.specs.declared.plan.Plan.{Plan}
use Rattle.gs_tree.specs.declared.signals.Signals.{Signals}
use Rattle.gs_seq.proofs.Points.{playable, walked}
use Rattle.gs_raw.specs.{Answers.{AreHandValuesOf, IsJudgedOf, IsRawStopOf}, Lifts.{AreSame}, declared.stop.RawStop.{RawStop}}
use Rattle.gs_raw.proofs.Same.{hand_same, verdict_same}

same_frame : (a : Abstract) (l : Lossless) (s : Signals) → a.lossless.now ≡ l → l.signals.now ≡ s → abstract_frame a ≡ frame_in s.game.now
same_frame a l s held signals = ap (λ (x : Lossless). frame_in x.signals.now.game.now) held ∙ ap (λ (x : Signals). frame_in x.game.now) signals

-- what holds of two plans over single signals of the game holds of them over the form's classes
pub record AreSpread (a : Abstract) (one two : Plan) : Type 0 where
  pub singles : lists_of a ≡ single_classes (abstract_frame a).parents
  pub one_plan : IsPlanOf (abstract_frame a) (lists_of a) 1 one
  pub two_plan : IsPlanOf (abstract_frame a) (lists_of a) 2 two

module _ (a : Abstract) (l : Lossless) (s : Signals) (alone : Filter) (held : a.lossless.now ≡ l) (signals : l.signals.now ≡ s)
    (classes : l.classes.now ≡ alone) (singles : alone.lists ≡ single_classes (frame_in s.game.now).parents) where
  here : abstract_frame a ≡ frame_in s.game.now
  here = same_frame a l s held signals

  lists_are : lists_of a ≡ single_classes (frame_in s.game.now).parents
  lists_are = ap (λ (x : Lossless). x.classes.now.lists) held ∙ ap (λ (x : Filter). x.lists) classes ∙ singles

  plan_over : (p : ℕ) (x : Plan) → IsPlanOf (frame_in s.game.now) (single_classes (frame_in s.game.now).parents) p x
      → IsPlanOf (abstract_frame a) (lists_of a) p x
  plan_over p x h = subst (λ (f : Frame). IsPlanOf f (lists_of a) p x) (sym here) (subst (λ ls. IsPlanOf (frame_in s.game.now) ls p x) (sym lists_are) h)

  pub are_spread : (one two : Plan) → IsPlanOf (frame_in s.game.now) (single_classes (frame_in s.game.now).parents) 1 one
      → IsPlanOf (frame_in s.game.now) (single_classes (frame_in s.game.now).parents) 2 two → AreSpread a one two
  are_spread one two h k = record {
    singles = subst (λ (f : Frame). lists_of a ≡ single_classes f.parents) (sym here) lists_are;
    one_plan = plan_over 1 one h;
    two_plan = plan_over 2 two k;
  }

  -- what is said of the spread plans holds of those that were spread
  module _ (first second : ClassLists) (x y one two : Plan)
      (same_one : AreSame (frame_in s.game.now) 1 (lifted (frame_in s.game.now) (single_classes (frame_in s.game.now).parents) one)
      (lifted (frame_in s.game.now) first x))
      (same_two : AreSame (frame_in s.game.now) 2 (lifted (frame_in s.game.now) (single_classes (frame_in s.game.now).parents) two)
      (lifted (frame_in s.game.now) second y)) where
    pub judged_alike : (v : Verdict) → IsJudgedOf (abstract_frame a) (lists_of a) one (lists_of a) two v → IsJudgedOf (frame_in s.game.now) first x second y v
    judged_alike v h =
        let g = s.game.now in
        let f = frame_in g in
        verdict_same f (in_range (game_of g.game) (playable g)) (walked g 1 (omega arith) (omega arith)) (walked g 2 (omega arith) (omega arith)) _ _ _ _
        (parts v.value) (parts v.gap1) (parts v.gap2) same_one same_two
        (subst (λ ls. IsJudgedOf f ls one ls two v) lists_are (subst (λ (f : Frame). IsJudgedOf f (lists_of a) one (lists_of a) two v) here h))

    pub hands_alike : (v : List Fraction) → AreHandValuesOf (abstract_frame a) (lists_of a) one (lists_of a) two v
        → AreHandValuesOf (frame_in s.game.now) first x second y v
    hands_alike v h =
        let g = s.game.now in
        let f = frame_in g in
        let w = subst (λ ls. AreHandValuesOf f ls one ls two v) lists_are
        (subst (λ (f : Frame). AreHandValuesOf f (lists_of a) one (lists_of a) two v) here h) in
        record {
          long = w.long;
          each = λ i d l.
              hand_same f (in_range (game_of g.game) (playable g)) (walked g 1 (omega arith) (omega arith)) (walked g 2 (omega arith) (omega arith)) _ _ _ _ i
              (parts (get_or v i d)).0 (parts (get_or v i d)).1 same_one same_two (w.each i d l);
        }

-- a stop of the form is a stop of the game
pub stopped : {X : Type 0} (l : Lossless) (s : Signals) (r : Result X RawStop) (e stop : RawStop) → r ≡ Err e → e ≡ stop → l.signals.now ≡ s
    → IsRawStopOf (frame_in l.signals.now.game.now) stop → IfErr r (IsRawStopOf (frame_in s.game.now))
stopped l s r e stop is same held h =
    let f = frame_in s.game.now in subst (λ r. IfErr r (IsRawStopOf f)) (sym is)
    (subst (IsRawStopOf f) (sym same) (subst (λ (x : Signals). IsRawStopOf (frame_in x.game.now) stop) held h))
