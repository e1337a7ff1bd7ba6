-- What is said of a game over classes, as it is said of the game.
use Rattle.std.proofs.Common.{◌≡◌, ℕ, Result, Vec, IsErrAnd, inl, inr, sym, ap, subst}
use Rattle.std.specs.declared.alloc.Global.{Global}
use Rattle.gs_file.specs.{Reading.{FileGame}, Views.{valid_view}}
use Rattle.gs_filter.specs.Filter.{Filter}
use Rattle.gs_game_commands.specs.{Checking.{IsGrouping, SaysNotLossless}, Settling.{OfGrouping, file_game_in}}
use Rattle.gs_lossless.specs.declared.Lossless.{Lossless}
use Rattle.gs_model.specs.{Classes.{ClassLists}, Frame.{frame_of}, Lossless.{IsLossless}}
use Rattle.gs_reply.specs.{Replies.{Answers, Reply, StopsFor}, Troubles.{SaysLarge}, declared.refusals.Stop.{Stop}}
use Rattle.gs_reply.proofs.Refused.{answers_more, exits, stops_more}
use Rattle.gs_seq.specs.{Abstracts.{abstract_frame, lists_of}, Stops.{IsSmall}, declared.form.Abstract.{Abstract}}
use Rattle.gs_tree.specs.{Trees.{rules_of}, declared.signals.Signals.{Signals}}
use Rattle.gs_words.specs.declared.request.Grouping.{Grouping}

-- the classes of a grouping over the game are lossless
pub record IsOver (grouping : Grouping) (g : FileGame) (l : Lossless) : Type 0 where
  pub game : valid_view l.signals.now.game.now ≡ g
  pub are : IsGrouping grouping (rules_of l.signals.now) l.classes.now.lists
  pub lossless : IsLossless (frame_of (rules_of l.signals.now)) l.classes.now.lists

pub is_over : (grouping : Grouping) (signals : Signals) (classes : Filter) (l : Lossless) → IsGrouping grouping (rules_of signals) classes.lists
    → l.signals.now ≡ signals → l.classes.now ≡ classes → IsLossless (frame_of (rules_of signals)) classes.lists
    → IsOver grouping (valid_view signals.game.now) l
is_over grouping signals classes l are same_signals same_classes lossless = record {
  game = ap (λ (s : Signals). valid_view s.game.now) same_signals;
  are = subst (λ (s : Signals). IsGrouping grouping (rules_of s) l.classes.now.lists) (sym same_signals)
      (subst (λ (k : Filter). IsGrouping grouping (rules_of signals) k.lists) (sym same_classes) are);
  lossless = subst (λ (s : Signals). IsLossless (frame_of (rules_of s)) l.classes.now.lists) (sym same_signals)
      (subst (λ (k : Filter). IsLossless (frame_of (rules_of signals)) k.lists) (sym same_classes) lossless);
}

-- what is returned at each exit
module _ (says : FileGame → ClassLists → Reply → Type 0) (grouping : Grouping) (g : FileGame) (a : Result (Vec ℕ Global) Stop) where
  -- classes that are not lossless are refused
  pub unlike : (e : Stop) → IsErrAnd a (λ x. x ≡ e) → StopsFor (SaysNotLossless grouping g) e → Answers (OfGrouping grouping says g) a
  unlike e is h = exits (OfGrouping grouping says g) a e is (stops_more (SaysNotLossless grouping g) (OfGrouping grouping says g) (λ r said. inl said) e h)

  module _ (l : Lossless) (o : IsOver grouping g l) where
    -- a game over lossless classes that is too large is refused
    pub large : (e : Stop) → IsErrAnd a (λ x. x ≡ e) → StopsFor (SaysLarge (valid_view l.signals.now.game.now) l.classes.now.lists) e
        → Answers (OfGrouping grouping says g) a
    large e is h =
        let here = valid_view l.signals.now.game.now in
        let lists = l.classes.now.lists in
        exits (OfGrouping grouping says g) a e is (subst (λ x. StopsFor (OfGrouping grouping says x) e) o.game
        (stops_more (SaysLarge here lists) (OfGrouping grouping says here) (λ r said. inr (lists, o.are, o.lossless, inl said)) e h))

    -- of a game in sequence form the answer is given
    pub said : (form : Abstract) → form.lossless.now ≡ l → IsSmall (abstract_frame form) (lists_of form)
        → Answers (says (file_game_in form) (lists_of form)) a → Answers (OfGrouping grouping says g) a
    said form held small h =
        let here = valid_view l.signals.now.game.now in
        let lists = l.classes.now.lists in
        let is_small : IsSmall (frame_of (rules_of l.signals.now)) lists =
        subst (λ (x : Lossless). IsSmall (frame_of (rules_of x.signals.now)) x.classes.now.lists) held small in
        let says_here : Answers (says here lists) a = subst (λ (x : Lossless). Answers (says (valid_view x.signals.now.game.now) x.classes.now.lists) a) held h in
        subst (λ x. Answers (OfGrouping grouping says x) a) o.game
        (answers_more (says here lists) (OfGrouping grouping says here) (λ r said. inr (lists, o.are, o.lossless, inr (is_small, said))) a says_here)
