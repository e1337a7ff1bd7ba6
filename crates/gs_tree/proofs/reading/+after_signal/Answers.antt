use Rattle.std.proofs.{Common.{◌≡◌, ◌++◌, ◌∷◌, [], ◌-◌, ℕ, List, None, Option, Some, Bor, sym, subst, arith}, lemmas.Grind.{common_steps}}
use Rattle.gs_card.specs.Decks.{DeckValue, kinds}
use Rattle.gs_game.specs.Games.{game_of}
use Rattle.gs_model.specs.{Game.{Game}, Signals.{signal_at}}
use Rattle.gs_tree.specs.{Layers.{last_seen}, Shown.{seen_of}, Texts.{IsRest, signal_text, seen_text}}
use Rattle.gs_tree.proofs.{Lookups.{IsParent, IsSeen, parent_is, row_within, seen_read, shown_first}, Rests.{rest_both, rest_none, text_grown}}
use Rattle.gs_tree.proofs.reading.+after_signal.Goals as goal
use Rattle.gs_tree.proofs.reading.+after_signal.Goals.{After-index-parent, After-index-shown}

-- what the signal shows last
seen : (t : ℕ) (c : After-index-shown t) → IsSeen (game_of c.args.valid.now.game) c.args.round c.args.signal (kinds c.args.valid.now.game.deck)
    c.index-shown.result.now
seen t c =
    seen_read (game_of c.args.valid.now.game) c.args.tables.now.parents.items c.args.tables.now.layers.items c.args.round c.args.signal
    (kinds c.args.valid.now.game.deck) c.index-layer.result.now c.index-shown.result.now c.requires.tables c.requires.some c.requires.round_in
    c.index-layer.ensures c.requires.signal_in c.index-shown.ensures c.args.valid.now.deck.counted

-- its parent
above : (t : ℕ) (c : After-index-parent t) → IsParent (game_of c.args.valid.now.game) c.args.round c.args.signal c.index-parent.result.now
above t c = parent_is (game_of c.args.valid.now.game) c.args.tables.now.parents.items c.args.tables.now.layers.items c.args.round c.args.signal
    c.index.result.now
    c.requires.tables c.requires.some c.requires.round_in c.index.ensures c.requires.signal_in c.index-parent.result.now c.index-parent.ensures

-- its text is the parent's, a slash and what it shows last
whole_text : (t : ℕ) (c : After-index-parent t) → seen_of c.index-shown.result.now ≡ last_seen
    (signal_at (game_of c.args.valid.now.game) c.args.round c.args.signal)
    → (signal_text c.args.valid.now.game.deck (signal_at (game_of c.args.valid.now.game) (c.args.round - 1) c.index-parent.result.now) ++ 47 ∷ [])
    ++ seen_text c.args.valid.now.game.deck (seen_of c.index-shown.result.now) ≡ signal_text c.args.valid.now.game.deck
    (signal_at (game_of c.args.valid.now.game) c.args.round c.args.signal)
whole_text t c shows = text_grown (game_of c.args.valid.now.game) c.args.valid.now.game.deck c.args.round c.args.signal c.index-parent.result.now
    c.index-shown.result.now
    (omega (arith, c.requires.some, c.if-round-eq1.false)) c.requires.signal_in (above t c).is shows

pub after_seen-requires : goal.after_seen-requires
after_seen-requires t c = let h = seen t (goal.at.after_seen-requires t c).After-index-shown in record { own = h.own; public = h.public }

pub returns-then-round-eq1 : goal.returns-then-round-eq1
returns-then-round-eq1 t c =
    let g : Game = game_of c.args.valid.now.game in
    let shown = c.index-shown.result.now in
    let d : DeckValue = c.args.valid.now.game.deck in
    let whole : seen_text d (seen_of shown) ≡ signal_text d (signal_at g c.args.round c.args.signal) = shown_first g d c.args.round c.args.signal shown
    c.if-round-eq1.true c.requires.signal_in (seen t (goal.at.returns-then-round-eq1 t c).After-index-shown).shows in
    let Q : List ℕ → Type 0 = λ x. IsRest c.args.text.now x c.after_seen.result in
    subst Q whole c.after_seen.ensures

pub index-parent-requires : goal.index-parent-requires
index-parent-requires t c = row_within (game_of c.args.valid.now.game) c.args.tables.now.parents.items c.args.tables.now.layers.items c.args.round c.args.signal
    c.index.result.now c.requires.tables c.requires.some c.requires.round_in c.index.ensures c.requires.signal_in

pub after_signal-requires : goal.after_signal-requires
after_signal-requires t c = (
  omega arith,
  (
    c.requires.tables,
    (
      omega (arith, c.requires.some),
      (omega (arith, c.requires.round_in), (above t (goal.at.after_signal-requires t c).After-index-parent).within),
    ),
  ),
)

pub returns-in_err-rest : goal.returns-in_err-rest
returns-in_err-rest t c =
    let w = goal.at.returns-in_err-rest t c in
    let g : Game = game_of c.args.valid.now.game in
    let text : List ℕ = c.args.text.now in
    let front : List ℕ = signal_text c.args.valid.now.game.deck (signal_at g (c.args.round - 1) c.index-parent.result.now) in
    let last : List ℕ = seen_text c.args.valid.now.game.deck (seen_of c.index-shown.result.now) in
    let Q : List ℕ → Type 0 = λ x. IsRest text x None in
    let S : Option (Bor (List ℕ)) → Type 0 = λ o. IsRest text (signal_text c.args.valid.now.game.deck (signal_at g c.args.round c.args.signal)) o in
    subst S (sym c.from_residual.ensures) (subst Q (whole_text t w.After-index-parent (seen t w.After-index-shown).shows)
    (rest_none text (front ++ 47 ∷ []) last (rest_none text front (47 ∷ []) c.in_err-rest.ensures)))

pub returns-in_err-rest-2 : goal.returns-in_err-rest-2
returns-in_err-rest-2 t c =
    let w = goal.at.returns-in_err-rest-2 t c in
    let g : Game = game_of c.args.valid.now.game in
    let text : List ℕ = c.args.text.now in
    let front : List ℕ = signal_text c.args.valid.now.game.deck (signal_at g (c.args.round - 1) c.index-parent.result.now) in
    let both = rest_both text front (47 ∷ []) c.in_ok-rest.rest.now None c.in_ok-rest.ensures c.in_err-rest-2.ensures in
    let Q : List ℕ → Type 0 = λ x. IsRest text x None in
    let S : Option (Bor (List ℕ)) → Type 0 = λ o. IsRest text (signal_text c.args.valid.now.game.deck (signal_at g c.args.round c.args.signal)) o in
    subst S (sym c.from_residual-in_err-rest-2.ensures)
    (subst Q (whole_text t w.After-index-parent (seen t w.After-index-shown).shows)
    (rest_none text (front ++ 47 ∷ []) (seen_text c.args.valid.now.game.deck (seen_of c.index-shown.result.now)) both))

pub after_seen-requires-2 : goal.after_seen-requires-2
after_seen-requires-2 t c = let h = seen t (goal.at.after_seen-requires-2 t c).After-index-shown in record { own = h.own; public = h.public }

pub returns : goal.returns
returns t c =
    let w = goal.at.returns t c in
    let text : List ℕ = c.args.text.now in
    let front : List ℕ = signal_text c.args.valid.now.game.deck (signal_at (game_of c.args.valid.now.game) (c.args.round - 1) c.index-parent.result.now) in
    let Q : List ℕ → Type 0 = λ x. IsRest text x c.after_seen-2.result in
    let both : text ≡ (front ++ 47 ∷ []) ++ c.in_ok-rest-2.rest.now = rest_both text front (47 ∷ []) c.in_ok-rest.rest.now
    (Some c.in_ok-rest-2.rest) c.in_ok-rest.ensures c.in_ok-rest-2.ensures in
    subst Q (whole_text t w.After-index-parent (seen t w.After-index-shown).shows)
    (rest_both text (front ++ 47 ∷ []) (seen_text c.args.valid.now.game.deck (seen_of c.index-shown.result.now)) c.in_ok-rest-2.rest.now c.after_seen-2.result
    both c.after_seen-2.ensures)

pub index-shown-requires : goal.index-shown-requires
index-shown-requires t c = grind (arith, common_steps)
