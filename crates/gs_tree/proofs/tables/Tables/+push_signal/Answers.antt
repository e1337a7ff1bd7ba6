use Rattle.std.proofs.Common.{◌≡◌, ◌++◌, ◌∷◌, [], ◌-◌, ℕ, List, ap, ◌∙◌, subst, arith}
use Rattle.std.specs.Prelude.{OnOk, string_bytes}
use Rattle.gs_card.specs.Decks.{DeckValue, kinds}
use Rattle.gs_game.specs.Games.{game_of}
use Rattle.gs_model.specs.{Game.{Game}, Signals.{signal_at}}
use Rattle.gs_tree.specs.{Shown.{seen_of}, Texts.{signal_text, seen_text}}
use Rattle.gs_tree.proofs.{Lookups.{IsParent, IsSeen, parent_is, row_within, seen_read, shown_first, shown_long}, Rests.{text_behind, text_grown}}
use Rattle.gs_tree.proofs.tables.Tables.+push_signal.Goals as goal
use Rattle.gs_tree.proofs.tables.Tables.+push_signal.Goals.{After-index-parent, After-index-shown}

pub index-shown-requires : goal.index-shown-requires
index-shown-requires t c = shown_long (game_of c.args.valid.now.game) c.args.self.now.parents.items c.args.self.now.layers.items c.args.round c.args.signal
    c.index-layer.result.now c.requires.tables c.requires.some c.requires.round_in c.index-layer.ensures c.requires.signal_in

-- what the signal shows last
seen : (t : ℕ) (c : After-index-shown t) → IsSeen (game_of c.args.valid.now.game) c.args.round c.args.signal (kinds c.args.valid.now.game.deck)
    c.index-shown.result.now
seen t c =
    seen_read (game_of c.args.valid.now.game) c.args.self.now.parents.items c.args.self.now.layers.items c.args.round c.args.signal
    (kinds c.args.valid.now.game.deck) c.index-layer.result.now c.index-shown.result.now c.requires.tables c.requires.some c.requires.round_in
    c.index-layer.ensures c.requires.signal_in c.index-shown.ensures c.args.valid.now.deck.counted

pub push_seen-requires : goal.push_seen-requires
push_seen-requires t c = let h = seen t (goal.at.push_seen-requires t c).After-index-shown in record { own = h.own; public = h.public }

pub push_seen-requires-2 : goal.push_seen-requires-2
push_seen-requires-2 t c = let h = seen t (goal.at.push_seen-requires-2 t c).After-index-shown in record { own = h.own; public = h.public }

pub returns-then-round-eq1 : goal.returns-then-round-eq1
returns-then-round-eq1 t c =
    let Q : List ℕ → Type 0 = λ x. OnOk c.push_seen.result (string_bytes c.push_seen.new.text ≡ string_bytes c.args.text.now ++ x) in
    subst Q (shown_first (game_of c.args.valid.now.game) c.args.valid.now.game.deck c.args.round c.args.signal c.index-shown.result.now c.if-round-eq1.true
    c.requires.signal_in (seen t (goal.at.returns-then-round-eq1 t c).After-index-shown).shows) c.push_seen.ensures

-- its parent
above : (t : ℕ) (c : After-index-parent t) → IsParent (game_of c.args.valid.now.game) c.args.round c.args.signal c.index-parent.result.now
above t c = parent_is (game_of c.args.valid.now.game) c.args.self.now.parents.items c.args.self.now.layers.items c.args.round c.args.signal c.index.result.now
    c.requires.tables c.requires.some c.requires.round_in c.index.ensures c.requires.signal_in c.index-parent.result.now c.index-parent.ensures

pub index-parent-requires : goal.index-parent-requires
index-parent-requires t c = row_within (game_of c.args.valid.now.game) c.args.self.now.parents.items c.args.self.now.layers.items c.args.round c.args.signal
    c.index.result.now c.requires.tables c.requires.some c.requires.round_in c.index.ensures c.requires.signal_in

pub push_signal-requires : goal.push_signal-requires
push_signal-requires t c = (
  omega arith,
  (
    c.requires.tables,
    (
      omega (arith, c.requires.some),
      (omega (arith, c.requires.round_in), (above t (goal.at.push_signal-requires t c).After-index-parent).within),
    ),
  ),
)

pub returns : goal.returns
returns t c =
    let w = goal.at.returns t c in
    let g : Game = game_of c.args.valid.now.game in
    let shown = c.index-shown.result.now in
    let d : DeckValue = c.args.valid.now.game.deck in
    let before : List ℕ = string_bytes c.args.text.now in
    let front : List ℕ = signal_text d (signal_at g (c.args.round - 1) c.index-parent.result.now) in
    let slash : string_bytes c.push.new.self ≡ (before ++ front) ++ 47 ∷ [] = c.in_ok-push.ensures.bytes
    ∙ ap (λ x. string_bytes c.push_signal.new.text ++ x) (c.in_ok-push.ensures.ascii (omega arith)) ∙ ap (λ x. x ++ 47 ∷ []) c.in_ok-push_signal.ensures in
    let text : string_bytes c.push.new.self ++ seen_text d (seen_of shown) ≡ before ++ signal_text d (signal_at g c.args.round c.args.signal) =
    ap (λ x. x ++ seen_text d (seen_of shown)) slash
    ∙ text_behind before front (seen_text d (seen_of shown)) (signal_text d (signal_at g c.args.round c.args.signal))
    (text_grown g d c.args.round c.args.signal c.index-parent.result.now shown (omega (arith, c.requires.some, c.if-round-eq1.false)) c.requires.signal_in
    (above t w.After-index-parent).is (seen t w.After-index-shown).shows) in
    let Q : List ℕ → Type 0 = λ x. OnOk c.push_seen-2.result (string_bytes c.push_seen-2.new.text ≡ x) in
    subst Q text c.push_seen-2.ensures
