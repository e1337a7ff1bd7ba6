use Rattle.std.proofs.Common.{◌≡◌, ◌++◌, ◌∷◌, [], ◌-◌, ℕ, List, get_or, refl, sym, ap, ◌∙◌, subst, arith}
use Rattle.std.specs.Prelude.{OnOk, string_bytes}
use Rattle.gs_card.specs.Decks.{DeckValue, kinds}
use Rattle.gs_model.specs.{Game.{Game}, Signals.{signal_at, parents}}
use Rattle.gs_tree.specs.{Shown.{seen_of}, Texts.{signal_text, seen_text}, Trees.{deck_of, rules_of}}
use Rattle.gs_tree.proofs.{Lookups.{IsSeen, seen_read, shown_long}, Rests.{text_behind, text_grown}}
use Rattle.gs_tree.proofs.signals.Signals.push_text_below.Goals.{After-index-layer, After-index-shown}
use Rattle.gs_tree.proofs.signals.Signals.push_text_below.Goals as goal

-- the layer of the round
at_layer : (c : After-index-layer) → c.index-layer.result.now ≡ get_or c.args.self.now.tables.layers.items (c.args.round - 1) c.index-layer.result.now
at_layer c = c.index-layer.ensures ∙ ap (λ k. get_or c.args.self.now.tables.layers.items (k - 1) c.index-layer.result.now) c.from.ensures

-- what the signal shows last
seen : (c : After-index-shown) → c.index-layer.result.now ≡ get_or c.args.self.now.tables.layers.items (c.args.round - 1) c.index-layer.result.now
    → IsSeen (rules_of c.args.self.now) c.args.round c.args.signal (kinds c.deck-deck.result.now) c.index-shown.result.now
seen c at =
    let s = c.args.self.now in
    seen_read (rules_of c.args.self.now) s.tables.parents.items s.tables.layers.items c.args.round c.args.signal
    (kinds c.deck-deck.result.now) c.index-layer.result.now c.index-shown.result.now s.sound.listed (omega (arith, c.requires.later))
    (omega (arith, s.sound.counted, c.requires.last)) at c.requires.in_range c.index-shown.ensures
    (s.game.now.deck.counted ∙ sym (ap kinds c.deck-deck.ensures))

pub index-shown-requires : goal.index-shown-requires
index-shown-requires c =
    let s = c.args.self.now in
    shown_long (rules_of c.args.self.now) s.tables.parents.items s.tables.layers.items c.args.round c.args.signal c.index-layer.result.now s.sound.listed
    (omega (arith, c.requires.later)) (omega (arith, s.sound.counted, c.requires.last)) (at_layer (goal.at.index-shown-requires c).After-index-layer)
    c.requires.in_range

pub push_seen-requires : goal.push_seen-requires
push_seen-requires c =
    let w = goal.at.push_seen-requires c in
    let h = seen w.After-index-shown (at_layer w.After-index-layer) in
    record { own = h.own; public = h.public }

pub returns : goal.returns
returns c =
    let w = goal.at.returns c in
    let g : Game = rules_of c.args.self.now in
    let d : DeckValue = deck_of c.args.self.now in
    let i : ℕ = c.args.signal in
    let shown = c.index-shown.result.now in
    let shows = (seen w.After-index-shown (at_layer w.After-index-layer)).shows in
    let before : List ℕ = string_bytes c.args.text.now in
    let front : List ℕ = signal_text d (signal_at g (c.args.round - 1) (get_or (parents g c.args.round) i 0)) in
    let slash : string_bytes c.push.new.self ≡ (before ++ front) ++ 47 ∷ [] =
    c.in_ok-push.ensures.bytes ∙ ap (λ x. string_bytes c.push_str.new.self ++ x) (c.in_ok-push.ensures.ascii (omega arith))
    ∙ ap (λ x. x ++ 47 ∷ []) (c.in_ok-push_str.ensures.bytes ∙ ap (λ x. before ++ x) c.requires.parent) in
    let text : string_bytes c.push.new.self ++ seen_text c.deck-deck.result.now (seen_of shown) ≡ before ++ signal_text d (signal_at g c.args.round i) =
    ap (λ x. x ++ seen_text c.deck-deck.result.now (seen_of shown)) slash
    ∙ ap (λ k. ((before ++ front) ++ 47 ∷ []) ++ seen_text k (seen_of shown)) c.deck-deck.ensures
    ∙ text_behind before front (seen_text d (seen_of shown)) (signal_text d (signal_at g c.args.round i))
    (text_grown g d c.args.round i (get_or (parents g c.args.round) i 0) shown (omega (arith, c.requires.later)) c.requires.in_range refl shows) in
    let Q : List ℕ → Type 0 = λ x. OnOk c.push_seen.result (string_bytes c.push_seen.new.text ≡ x) in
    subst Q text c.push_seen.ensures
