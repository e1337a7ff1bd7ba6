-- What holds of a game in sequence form holds of the strategy that it was made of; and what is told is an answer.
use Rattle.std.proofs.{Common.{◌≡◌, ℤ, Result, Ok, Err, sym, subst}, lemmas.Result.{IfOk-at_ok}}
use Rattle.std.specs.Prelude.{IfOk, MatchResult}
use Rattle.gs_certificate.specs.{Checks.{IsFault, IsSound, IsStop}, Promises.{BoundsAll}}
use Rattle.gs_certificate.specs.{declared.certificate.Certificate.{Certificate}, declared.fault.CertFault.{CertFault}, declared.stop.CertError.{CertError}}
use Rattle.gs_certificate.specs.declared.stop.CertError.TheVariants as stop
use Rattle.gs_strategy_commands.specs.{Held.{HoldsStrategy}, Troubles.{SaysTooLarge}, Verifying.{SaysChecked}}
use Rattle.gs_lossless.specs.declared.checking.Lossless.{Lossless}
use Rattle.gs_model.specs.{Classes.{ClassLists}, Frame.{Frame}}
use Rattle.gs_reply.proofs.Refused.{stops_more}
use Rattle.gs_reply.specs.{Replies.{Reply, StopsFor}, Troubles.{SaysUnlike}, declared.refusals.Stop.{Stop}}
use Rattle.gs_seq.specs.{Games.{frame_in}, Plans.{IsPlanOf, lifted}}
use Rattle.gs_strategy.specs.{Values.{Strategy}, declared.stored.Stored.{Stored}}

pub moved : (P : Frame → ClassLists → Type 0) (l : Lossless) (s : Stored) → HoldsStrategy l s → P (frame_in l.signals.now.game.now) l.classes.now.lists
    → P (frame_in s.game) s.classes.lists
moved P l s h x = subst (λ k. P (frame_in s.game) k.lists) h.classes (subst (λ g. P (frame_in g) l.classes.now.lists) h.game x)

-- and the other way
pub moved_back : (P : Frame → ClassLists → Type 0) (l : Lossless) (s : Stored) → HoldsStrategy l s → P (frame_in s.game) s.classes.lists
    → P (frame_in l.signals.now.game.now) l.classes.now.lists
moved_back P l s h x = subst (λ k. P (frame_in l.signals.now.game.now) k.lists) (sym h.classes)
    (subst (λ g. P (frame_in g) s.classes.lists) (sym h.game) x)

-- the plans of a strategy are plans over the game in sequence form
pub first_plan : (l : Lossless) (s : Stored) → HoldsStrategy l s → IsPlanOf (frame_in l.signals.now.game.now) l.classes.now.lists 1 s.one
first_plan l s h = moved_back (λ f n. IsPlanOf f n 1 s.one) l s h s.first

pub second_plan : (l : Lossless) (s : Stored) → HoldsStrategy l s → IsPlanOf (frame_in l.signals.now.game.now) l.classes.now.lists 2 s.two
second_plan l s h = moved_back (λ f n. IsPlanOf f n 2 s.two) l s h s.second

-- a certificate of the strategy's plans over a frame and classes: it is sound, has a fault, or bounds
abbrev SoundIn : Stored → Certificate → Frame → ClassLists → Type 0
SoundIn s k f n = IsSound f n (lifted f n s.one) (lifted f n s.two) k

abbrev FaultIn : Stored → Certificate → CertFault → Frame → ClassLists → Type 0
FaultIn s k why f n = IsFault f n (lifted f n s.one) (lifted f n s.two) k why

abbrev BoundsIn : Stored → Certificate → Frame → ClassLists → Type 0
BoundsIn s k f n = BoundsAll f (lifted f n s.one) (lifted f n s.two) k

module _ (l : Lossless) (s : Stored) (k : Certificate) (held : HoldsStrategy l s) where
  abbrev Exact : Result ℤ CertError → Type 0
  Exact r = let f = frame_in l.signals.now.game.now in let n = l.classes.now.lists in
      MatchResult r (λ _. SoundIn s k f n) (IsStop f n (lifted f n s.one) (lifted f n s.two) k)

  pub sound_moved : (r : Result ℤ CertError) (paid : ℤ) → r ≡ Ok paid → Exact r → SoundIn s k (frame_in s.game) s.classes.lists
  sound_moved r paid is h = moved (SoundIn s k) l s held (subst Exact is h)

  pub fault_moved : (r : Result ℤ CertError) (why : CertFault) → r ≡ Err (stop.Fault why) → Exact r → FaultIn s k why (frame_in s.game) s.classes.lists
  fault_moved r why is h = moved (FaultIn s k why) l s held (subst Exact is h)

  pub bounds_moved : (r : Result ℤ CertError) (paid : ℤ) → r ≡ Ok paid → IfOk r (λ _. BoundsIn s k (frame_in l.signals.now.game.now) l.classes.now.lists)
      → BoundsIn s k (frame_in s.game) s.classes.lists
  bounds_moved r paid is h = moved (BoundsIn s k) l s held (IfOk-at_ok (λ (paid : ℤ). BoundsIn s k (frame_in l.signals.now.game.now) l.classes.now.lists) is
      h)

-- an unlike pair, and a game that is too large, are refused by `verify`
pub unlike_said : (s : Strategy) (c : Certificate) (e : Stop) → StopsFor (SaysUnlike s.game s.classes) e → StopsFor (SaysChecked s c) e
unlike_said s c = stops_more (SaysUnlike s.game s.classes) (SaysChecked s c) (λ r h. subst (λ (x : Reply). SaysChecked s c x) (sym h.4) h.3)

pub large_said : (s : Strategy) (c : Certificate) (e : Stop) → StopsFor (SaysTooLarge s) e → StopsFor (SaysChecked s c) e
large_said s c = stops_more (SaysTooLarge s) (SaysChecked s c) (λ r h. subst (λ (x : Reply). SaysChecked s c x) (sym h.2) h.1)
