-- What the checks of a strategy find is what a command answers.
use Rattle.std.proofs.Common.{◌≡◌, ℕ, Result, Vec, inl, inr, refl, sym, subst}
use Rattle.std.specs.declared.alloc.Global.{Global}
use Rattle.gs_best.specs.Judged.{parts}
use Rattle.gs_file.specs.Views.{valid_view}
use Rattle.gs_filter.specs.Filter.{Filter}
use Rattle.gs_frac.specs.declared.value.Verdict.{Verdict}
use Rattle.gs_game.specs.declared.valid.ValidGame.{ValidGame}
use Rattle.gs_lossless.specs.declared.checking.Lossless.{Lossless}
use Rattle.gs_model.specs.{Lossless.{IsLossless}, Verdict.{IsVerdict}}
use Rattle.gs_reply.proofs.Refused.{answers_more, stops_more}
use Rattle.gs_reply.specs.{Refusals.{Too_large, Unlike_pair, Wrong_number}, Replies.{Answers, Reply, StopsFor, Tells}, Troubles.{SaysLarge, SaysUnlike}}
use Rattle.gs_reply.specs.{declared.refusals.Stop.{Stop}, declared.refusals.WrongNumber.{WrongNumber}}
use Rattle.gs_reply.specs.declared.refusals.Refusal.TheVariants as told
use Rattle.gs_seq.specs.{Games.{frame_in}, Plans.{lifted}, Stops.{IsSmall}}
use Rattle.gs_strategy.specs.{Confirmed.{AreNumbersOf, IsConfirmed, strategy_frame}, Values.{Strategy}, Views.{numbers_of, parts_of, stored_view}}
use Rattle.gs_strategy.specs.declared.stored.Stored.{Stored}
use Rattle.gs_strategy_commands.specs.{Held.{HoldsStrategy}, Commands.{OfConfirmed}, Troubles.{IsFirstWrong, IsUnconfirmed, SaysTooLarge, SaysWrong}}

-- ---- refusals

-- an unlike pair, too large a game and a wrong number are troubles of the strategy
pub unlike : (s : Strategy) (e : Stop) → StopsFor (SaysUnlike s.game s.classes) e → StopsFor (IsUnconfirmed s) e
unlike s = stops_more (SaysUnlike s.game s.classes) (IsUnconfirmed s) (λ r said. (Unlike_pair said.0 said.1 said.2, said.3, said.4))

pub large : (s : Strategy) (e : Stop) → StopsFor (SaysTooLarge s) e → StopsFor (IsUnconfirmed s) e
large s = stops_more (SaysTooLarge s) (IsUnconfirmed s) (λ r said. (Too_large said.0, said.1, said.2))

pub wrong : (s : Strategy) (e : Stop) → StopsFor (SaysWrong s) e → StopsFor (IsUnconfirmed s) e
wrong s = stops_more (SaysWrong s) (IsUnconfirmed s) (λ r said. (Wrong_number said.0 said.1 said.2, said.3, said.4))

-- a strategy that is not confirmed is refused
pub refused : (says : Strategy → Reply → Type 0) (s : Strategy) (e : Stop) → StopsFor (IsUnconfirmed s) e → StopsFor (OfConfirmed says s) e
refused says s = stops_more (IsUnconfirmed s) (OfConfirmed says s) (λ r said. inr said)

-- of one that is confirmed the command's answer is given
pub answered : (says : Strategy → Reply → Type 0) (s : Strategy) (a : Result (Vec ℕ Global) Stop) → IsConfirmed s → Answers (says s) a
    → Answers (OfConfirmed says s) a
answered says s a confirmed = answers_more (says s) (OfConfirmed says s) (λ r said. inl (confirmed, said)) a

-- too large a game over lossless classes is that of the strategy
pub large_told : (s : Stored) (l : Lossless) (e : Stop) → HoldsStrategy l s → IsLossless (strategy_frame (stored_view s)) s.classes.lists
    → StopsFor (SaysLarge (valid_view l.signals.now.game.now) l.classes.now.lists) e → StopsFor (SaysTooLarge (stored_view s)) e
large_told s l e held lossless h =
    let at_game = subst (λ (x : ValidGame). StopsFor (SaysLarge (valid_view x) l.classes.now.lists) e) held.game h in
    let at_classes = subst (λ (x : Filter). StopsFor (SaysLarge (valid_view s.game) x.lists) e) held.classes at_game in
    stops_more (SaysLarge (valid_view s.game) s.classes.lists) (SaysTooLarge (stored_view s))
    (λ r said. (said.0, record { lossless = lossless; passed = said.1 }, said.2)) e at_classes

-- ---- numbers

-- the verdict on the plans over a game and classes, which are those of the strategy
pub numbers_are : (s : Stored) (w : ValidGame) (k : Filter) (n : Verdict) → w ≡ s.game → k ≡ s.classes
    → IsVerdict (frame_in w) (lifted (frame_in w) k.lists s.one) (lifted (frame_in w) k.lists s.two) (parts n.value) (parts n.gap1) (parts n.gap2)
    → AreNumbersOf (stored_view s) (numbers_of n)
numbers_are s w k n e f h =
    let at_game = subst (λ (x : ValidGame). IsVerdict (frame_in x) (lifted (frame_in x) k.lists s.one) (lifted (frame_in x) k.lists s.two) (parts n.value)
    (parts n.gap1) (parts n.gap2)) e h in
    let at_classes = subst (λ (x : Filter). IsVerdict (frame_in s.game) (lifted (frame_in s.game) x.lists s.one) (lifted (frame_in s.game) x.lists s.two)
    (parts n.value) (parts n.gap1) (parts n.gap2)) f at_game in
    record { fractions = record { value = n.value.reduced; gap1 = n.gap1.reduced; gap2 = n.gap2.reduced }; verdict = at_classes }

pub wrong_told : (s : Stored) (n : Verdict) (w : WrongNumber) → IsLossless (strategy_frame (stored_view s)) s.classes.lists
    → IsSmall (strategy_frame (stored_view s)) s.classes.lists
    → AreNumbersOf (stored_view s) (numbers_of n) → IsFirstWrong (numbers_of s.verdict) (numbers_of n) w.name.now (parts_of w.stated) (parts_of w.found)
    → Tells (SaysWrong (stored_view s)) (told.WrongNumber w)
wrong_told s n w lossless small are first =
    let stated = parts_of w.stated in
    let found = parts_of w.found in (
      Wrong_number w.name.now stated found,
      (w.name.now, stated, found, record { lossless = lossless; small = small; numbers = numbers_of n; are = are; first = first }, refl),
      refl,
    )

pub confirmed : (s : Stored) (n : Verdict) → IsLossless (strategy_frame (stored_view s)) s.classes.lists
    → IsSmall (strategy_frame (stored_view s)) s.classes.lists
    → AreNumbersOf (stored_view s) (numbers_of n) → numbers_of s.verdict ≡ numbers_of n → IsConfirmed (stored_view s)
confirmed s n lossless small are same = record { lossless = lossless; small = small; numbers = subst (AreNumbersOf (stored_view s)) (sym same) are }
