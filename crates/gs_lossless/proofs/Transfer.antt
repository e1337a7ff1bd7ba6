-- The first signal whose deals weigh otherwise is the same where the game stops after the round.
use Rattle.std.proofs.{Common.{◌≡◌, ◌≢◌, ℕ, ℤ, pos, ◌*◌, ◌<◌, ◌≤◌, Bool, cond, List, [], ◌∷◌, sym, ap, ◌∙◌, arith}, lemmas.Bool.{ne_eqb}}
use Rattle.std.proofs.Math.Nat.{mul-div_cancel_left}
use Rattle.std.specs.{Prelude.{◌/◌, None, Option, Some}, Ordering.{int_eq}}
use Rattle.gs_game.specs.{GoingOn.{StopsAfter, ways_on}, Refusals.{first_refusal}}
use Rattle.gs_game.proofs.{SomeWays.{some_ways}, StopLaws.{against_stopped, stops_later}}
use Rattle.gs_model.specs.{Classes.{ClassLists, class_of, first_member, list_of}, Frame.{Frame, frame_of, last_round}, Game.{Game, round_count}}
use Rattle.gs_model.specs.Lossless.{weight_against, weight_with}
use Rattle.gs_model.proofs.Walked.{last_round_of}
use Rattle.gs_lossless.specs.{Amounts.{AgreesWithFirst, amount}, Scans.{IsFirstApart}, declared.aspects.Aspect.TheVariants.{Deals}}

-- before the last round no outcome counts
pub amount_before_last : (f : Frame) (lists : ClassLists) (round x c : ℕ) (o : ℤ) → round < last_round f
    → amount f lists Deals round x c o ≡ cond (int_eq (pos 0) o) (weight_against f lists round x c) 0
amount_before_last f lists round x c o l =
    let other : round ≢ last_round f = λ e. absurd (omega (arith, e, l)) in
    ap (λ (b : Bool). cond b (weight_with f lists x c o) (cond (int_eq (pos 0) o) (weight_against f lists round x c) 0)) (ne_eqb round (last_round f) other)

-- the first member of a signal's class
abbrev first_of : ClassLists → ℕ → ℕ → ℕ
first_of lists round s = first_member lists round (class_of lists round s)

weights_of : (f : Frame) (lists : ClassLists) (round s : ℕ) → round < last_round f → AgreesWithFirst f lists Deals round s
    → (c : ℕ) → weight_against f lists round (first_of lists round s) c ≡ weight_against f lists round s c
weights_of f lists round s l a c = sym (amount_before_last f lists round (first_of lists round s) c (pos 0) l) ∙ a c (pos 0)
    ∙ amount_before_last f lists round s c (pos 0) l

agrees_by : (f : Frame) (lists : ClassLists) (round s : ℕ) → round < last_round f
    → ((c : ℕ) → weight_against f lists round (first_of lists round s) c ≡ weight_against f lists round s c) → AgreesWithFirst f lists Deals round s
agrees_by f lists round s l h c o =
    amount_before_last f lists round (first_of lists round s) c o l ∙ ap (λ (n : ℕ). cond (int_eq (pos 0) o) n 0) (h c)
    ∙ sym (amount_before_last f lists round s c o l)

same_factor : (w a b : ℕ) → 0 < w → w * a ≡ w * b → a ≡ b
same_factor w a b some e = sym (mul-div_cancel_left a some) ∙ ap (λ (n : ℕ). n / w) e ∙ mul-div_cancel_left b some

module _ (g h : Game) (round : ℕ) (lists others : ClassLists) (some : 0 < round) (before : round < round_count g) (valid : first_refusal g
    ≡ None) (stops : StopsAfter g round h)
    (same : list_of others round ≡ list_of lists round) where
  top : round ≤ round_count g
  top = omega arith

  one_less : round < last_round (frame_of g)
  one_less = omega (arith, last_round_of g)

  less : round < last_round (frame_of h)
  less = omega (arith, last_round_of h, stops_later g h round top stops)

  goes_on : (s c : ℕ) → weight_against (frame_of g) lists round s c ≡ ways_on g round * weight_against (frame_of h) others round s c
  goes_on = against_stopped g h round lists others some top stops same

  first_same : (s : ℕ) → first_of others round s ≡ first_of lists round s
  first_same s = ap (λ (l : List ℕ). first_member (l ∷ []) 1 (class_of (l ∷ []) 1 s)) same

  agrees_there : (s : ℕ) → AgreesWithFirst (frame_of h) others Deals round s → AgreesWithFirst (frame_of g) lists Deals round s
  agrees_there s a = agrees_by (frame_of g) lists round s one_less (λ c.
      ap (λ (x : ℕ). weight_against (frame_of g) lists round x c) (sym (first_same s))
      ∙ goes_on (first_of others round s) c ∙ ap (λ (n : ℕ). ways_on g round * n) (weights_of (frame_of h) others round s less a c) ∙ sym (goes_on s c))

  agrees_here : (s : ℕ) → AgreesWithFirst (frame_of g) lists Deals round s → AgreesWithFirst (frame_of h) others Deals round s
  agrees_here s a = agrees_by (frame_of h) others round s less (λ c.
      same_factor (ways_on g round) (weight_against (frame_of h) others round (first_of others round s) c) (weight_against (frame_of h) others round s c)
      (some_ways g round valid)
      (sym (goes_on (first_of others round s) c) ∙ ap (λ (x : ℕ). weight_against (frame_of g) lists round x c) (first_same s)
      ∙ weights_of (frame_of g) lists round s one_less a c ∙ goes_on s c))

  pub apart_from : (end : ℕ) (r : Option ℕ) → IsFirstApart (frame_of h) others Deals round end r → IsFirstApart (frame_of g) lists Deals round end r
  apart_from end None a = λ s l. agrees_there s (a s l)
  apart_from end (Some s) a = (a.0, (λ t l. agrees_there t (a.1 t l)), (λ b. a.2 (agrees_here s b)))
