-- The hand of a signal: cards of the deck, as many as its rounds give.
use Rattle.std.proofs.Common.{◌≡◌, ℕ, zero, suc, ◌+◌, ◌-◌, ◌<◌, ◌≤◌, ◌++◌, List, [], ◌∷◌, length, take, take_all, get_or, refl, sym, ap, ◌∙◌, arith, subst, All}
use Rattle.std.proofs.Common.{append-nil, length-append}
use Rattle.std.proofs.{lemmas.Bool.{eqb-true}, lemmas.List.Concat.{flat_map-append}, lemmas.List.Elements.{All-append}, lemmas.List.Sums.{sum_by_more}}
use Rattle.std.specs.Prelude.{true}
use Rattle.gs_card.specs.Decks.{DeckValue, kinds}
use Rattle.gs_game.specs.{Limits.{IsDealable}, Refusals.{ranks, own_card_total as own_count, public_card_total as public_count}}
use Rattle.gs_model.specs.{Betting.{even}, Game.{Game, Round, Ranking, High, Pair, Three, round_at, round_count}}
use Rattle.gs_model.specs.Signals.{Seen, Signal, signals, signal_at, parents, own_cards, public_cards}
use Rattle.gs_rank.specs.Hands.{IsHand, IsSized}
use Rattle.gs_tree.specs.Layers.{last_seen}
use Rattle.gs_tree.proofs.{Dealt.{last_is_shown}, Lookups.{grown_from}}

pub own_cards-push : (s : Signal) (p : Seen) → own_cards (s ++ p ∷ []) ≡ own_cards s ++ p.own
own_cards-push s p = flat_map-append (λ (q : Seen). q.own) s (p ∷ []) ∙ ap (λ x. own_cards s ++ x) (append-nil p.own)

pub public_cards-push : (s : Signal) (p : Seen) → public_cards (s ++ p ∷ []) ≡ public_cards s ++ p.public
public_cards-push s p = flat_map-append (λ (q : Seen). q.public) s (p ∷ []) ∙ ap (λ x. public_cards s ++ x) (append-nil p.public)

-- the cards of a signal of round n
pub record IsDealtTo (g : Game) (n : ℕ) (s : Signal) : Type 0 where
  pub own_in : All (λ c. c < length g.copies) (own_cards s)
  pub public_in : All (λ c. c < length g.copies) (public_cards s)
  pub own_n : length (own_cards s) ≡ own_count (take n g.rounds)
  pub public_n : length (public_cards s) ≡ public_count (take n g.rounds)

pub dealt : (g : Game) (n i : ℕ) → n ≤ round_count g → i < length (signals g n) → IsDealtTo g n (signal_at g n i)
dealt g zero zero le l = record { own_in = λ k d m. absurd (omega arith); public_in = λ k d m. absurd (omega arith); own_n = refl; public_n = refl }
dealt g zero (suc i) le l = absurd (omega arith)
dealt g (suc n) i le l =
    let c = grown_from g n i l in
    let h = last_is_shown g (suc n) i (omega arith) l in
    let before : suc n - 1 ≡ n = omega arith in
    let front : Signal = signal_at g n (get_or (parents g (suc n)) i 0) in
    let last : Seen = last_seen (signal_at g (suc n) i) in
    let r = dealt g n (get_or (parents g (suc n)) i 0) (omega arith) c.within in
    let none : Round = record { private = 0; public = 0; tree = even } in
    let at : round_at g (suc n) ≡ get_or g.rounds n none = ap (λ k. get_or g.rounds k none) before in
    let next : suc n ≡ n + 1 = omega arith in
    let privates = sum_by_more (λ (r : Round). r.private) g.rounds n none (omega arith) in
    let publics = sum_by_more (λ (r : Round). r.public) g.rounds n none (omega arith) in
    let P : List ℕ → Type 0 = λ xs. All (λ c. c < length g.copies) xs in
    let own : own_cards (signal_at g (suc n) i) ≡ own_cards front ++ last.own = ap own_cards c.is ∙ own_cards-push front last in
    let public : public_cards (signal_at g (suc n) i) ≡ public_cards front ++ last.public = ap public_cards c.is ∙ public_cards-push front last in
    record {
      own_in = subst P (sym own) (All-append (λ c. c < length g.copies) (own_cards front) last.own r.own_in h.own_in);
      public_in = subst P (sym public) (All-append (λ c. c < length g.copies) (public_cards front) last.public r.public_in h.public_in);
      own_n = ap (λ (x : List ℕ). length x) own ∙ length-append (own_cards front) last.own
          ∙ omega (arith, r.own_n, h.own_counted, ap (λ (r : Round). r.private) at, privates, ap (λ k. own_count (take k g.rounds)) next);
      public_n = ap (λ (x : List ℕ). length x) public ∙ length-append (public_cards front) last.public
          ∙ omega (arith, r.public_n, h.public_counted, ap (λ (r : Round). r.public) at, publics, ap (λ k. public_count (take k g.rounds)) next);
    }

-- the hand of a last-round signal is one that the ranking can rank
pub is_hand : (g : Game) (d : DeckValue) (i : ℕ) → IsDealable g → length g.copies ≡ kinds d → i < length (signals g (round_count g))
    → IsHand d g.ranking (own_cards (signal_at g (round_count g) i)) (public_cards (signal_at g (round_count g) i))
is_hand g d i h e l =
    let s : Signal = signal_at g (round_count g) i in
    let r = dealt g (round_count g) i (omega arith) l in
    let all : take (round_count g) g.rounds ≡ g.rounds = take_all (round_count g) g.rounds (omega arith) in
    let own : length (own_cards s) ≡ own_count g.rounds = r.own_n ∙ ap own_count all in
    let public : length (public_cards s) ≡ public_count g.rounds = r.public_n ∙ ap public_count all in
    let P : ℕ → Type 0 = λ n. All (λ c. c < n) (own_cards s) in
    let Q : ℕ → Type 0 = λ n. All (λ c. c < n) (public_cards s) in
    record {
      own_of_deck = subst P e r.own_in;
      public_of_deck = subst Q e r.public_in;
      sized = sized g.ranking (length (own_cards s)) (length (public_cards s)) (own_count g.rounds) (public_count g.rounds) own public h.ranked;
    }
  where
    sized : (r : Ranking) (own public a b : ℕ) → own ≡ a → public ≡ b → ranks r a (a + b) ≡ true → IsSized r own public
    sized High own public a b e f h = e ∙ eqb-true _ _ h
    sized Pair own public a b e f h = e ∙ eqb-true _ _ h
    sized Three own public a b e f h = omega (arith, e, f, eqb-true _ _ h)
