use Rattle.std.proofs.Common.{◌≡◌, ◌+◌, ◌*◌, ◌≤◌, ℕ, List, length, drop, take, sym, ap, ◌∙◌, subst}
use Rattle.gs_card.specs.{Decks.{DeckValue}, Rankings.{ranking_of}}
use Rattle.gs_game.specs.Games.{game_of}
use Rattle.gs_model.specs.{Game.{Game, round_count}, Outcome.{strength}, Signals.{signal_at, own_cards, public_cards}}
use Rattle.gs_rank.specs.Hands.{IsHand}
use Rattle.gs_tree.proofs.{Hands.{is_hand}, Parts.{own_part, own_room, public_part, public_room}, ranked.strength_of.Goals.{After-part-own, After-part-public}}
use Rattle.gs_tree.proofs.ranked.strength_of.Goals as goal

pub part-own-requires : goal.part-own-requires
part-own-requires c =
    let h = c.args.hands.now in
    let P : List ℕ → Type 0 = λ x. c.args.signal * h.own + h.own ≤ length x in
    subst P (sym c.deref.ensures.value) (own_room (game_of c.args.valid.now.game) (round_count (game_of c.args.valid.now.game)) h.paths h.owns.items
    h.publics.items h.own h.public c.requires.hands c.args.signal c.requires.signal_in)

pub part-public-requires : goal.part-public-requires
part-public-requires c =
    let h = c.args.hands.now in
    let P : List ℕ → Type 0 = λ x. c.args.signal * h.public + h.public ≤ length x in
    subst P (sym c.deref-2.ensures.value) (public_room (game_of c.args.valid.now.game) (round_count (game_of c.args.valid.now.game)) h.paths h.owns.items
    h.publics.items h.own h.public c.requires.hands c.args.signal c.requires.signal_in)

-- the parts are the signal's cards
own : (c : After-part-own) → c.part-own.result.now ≡ own_cards (signal_at (game_of c.args.valid.now.game) (round_count (game_of c.args.valid.now.game))
    c.args.signal)
own c = c.part-own.ensures ∙ ap (λ (x : List ℕ). take c.args.hands.now.own (drop (c.args.signal * c.args.hands.now.own) x)) c.deref.ensures.value
    ∙ own_part (game_of c.args.valid.now.game) (round_count (game_of c.args.valid.now.game)) c.args.hands.now.paths c.args.hands.now.owns.items
    c.args.hands.now.publics.items c.args.hands.now.own c.args.hands.now.public c.requires.hands c.args.signal c.requires.signal_in

public : (c : After-part-public) → c.part-public.result.now ≡ public_cards
    (signal_at (game_of c.args.valid.now.game) (round_count (game_of c.args.valid.now.game)) c.args.signal)
public c =
    c.part-public.ensures ∙ ap (λ (x : List ℕ). take c.args.hands.now.public (drop (c.args.signal * c.args.hands.now.public) x)) c.deref-2.ensures.value
    ∙ public_part (game_of c.args.valid.now.game) (round_count (game_of c.args.valid.now.game)) c.args.hands.now.paths c.args.hands.now.owns.items
    c.args.hands.now.publics.items c.args.hands.now.own c.args.hands.now.public c.requires.hands c.args.signal c.requires.signal_in

pub strength-requires : goal.strength-requires
strength-requires c =
    let w = goal.at.strength-requires c in
    let g : Game = game_of c.args.valid.now.game in
    let d : DeckValue = c.args.valid.now.game.deck in
    let h = is_hand g d c.args.signal c.args.valid.now.dealable c.args.valid.now.deck.counted c.requires.signal_in in
    let P : List ℕ → Type 0 = λ x. IsHand d (ranking_of c.args.valid.now.game.ranking) x (public_cards (signal_at g (round_count g) c.args.signal)) in
    let Q : List ℕ → Type 0 = λ x. IsHand d (ranking_of c.args.valid.now.game.ranking) c.part-own.result.now x in
    let R : DeckValue → Type 0 = λ e. IsHand e (ranking_of c.args.valid.now.game.ranking) c.part-own.result.now c.part-public.result.now in
    subst R (sym c.requires.deck) (subst Q (sym (public w.After-part-public)) (subst P (sym (own w.After-part-own)) h))

pub returns-clause-value : goal.returns-clause-value
returns-clause-value c =
    let w = goal.at.returns-clause-value c in
    let g : Game = game_of c.args.valid.now.game in
    c.strength.ensures.value
    ∙ ap (λ (e : DeckValue). strength (length e.suits) g.ranking c.part-own.result.now c.part-public.result.now) c.requires.deck
    ∙ ap (λ x. strength g.suits g.ranking x c.part-public.result.now) (own w.After-part-own)
    ∙ ap (strength g.suits g.ranking (own_cards (signal_at g (round_count g) c.args.signal))) (public w.After-part-public)
