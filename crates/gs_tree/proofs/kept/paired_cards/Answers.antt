use Rattle.std.proofs.Common.{◌≡◌, ◌<◌, ◌++◌, ◌∷◌, ℕ, List, [], suc, length, get_or, ap, ◌∙◌, append_assoc, arith}
use Rattle.std.proofs.lemmas.Grind.{get_or_default_zero}
use Rattle.std.specs.Prelude.{flat_map}
use Rattle.gs_game.specs.Games.{game_of}
use Rattle.gs_model.specs.{Game.{Game}, Signals.{Seen, Signal, signal_at, signals}}
use Rattle.gs_tree.specs.{Layers.{last_seen}, Shown.{cards_on, seen_of, seen_on}, declared.layer.Shown.{Shown}}
use Rattle.gs_tree.proofs.{Parts.{kept_long, kept_part}, Pushed.{joined_more}, Rounds.{IsTold, all_shown, row_covers, shown_at, told_at}, Piles.{paired}}
use Rattle.gs_tree.proofs.kept.paired_cards.Goals.{After-index-in-loop-signal, After-on}
use Rattle.gs_tree.proofs.kept.paired_cards.Goals as goal

-- what the tables tell of the signal
known : (c : After-index-in-loop-signal) → IsTold (game_of c.args.valid.now.game) c.args.round c.loop-signal.signal c.index-in-loop-signal.result.now
    c.index-parents.result.now.items c.index.result.now
known c = told_at c.requires.tables c.requires.round_in
    c.index-parents.result.now c.index.result.now c.loop-signal.signal c.index-in-loop-signal.result.now c.index-parents.ensures c.index.ensures
    (omega (arith, ap (λ (x : List Shown). length x) c.deref-last-items.ensures.value, c.loop-signal-test.true)) c.index-in-loop-signal.ensures

-- its parent has one card
parent_in : (c : After-index-in-loop-signal) → c.index-in-loop-signal.result.now < length c.args.before.now
parent_in c = omega (
  arith,
  (known c).parent_in,
  kept_long (cards_on c.args.pile) 1 (signals (game_of c.args.valid.now.game) c.args.round) c.args.before.now
      c.requires.before c.requires.each,
)

-- the cards that it shows last
shown_last : (c : After-on) → c.on.result.now ≡ seen_on c.args.pile (last_seen (signal_at (game_of c.args.valid.now.game) (suc c.args.round)
    c.loop-signal.signal))
shown_last c =
    let shown : Shown = c.last-item.result in
    let shows = shown_at c.requires.tables
    c.requires.round_in c.index.result.now c.loop-signal.signal c.index.ensures
    (omega (arith, ap (λ (x : List Shown). length x) c.deref-last-items.ensures.value, c.loop-signal-test.true)) shown in
    c.on.ensures ∙ ap (seen_on c.args.pile) (ap seen_of
    (c.last-item.is ∙ ap (λ (x : List Shown). get_or x c.loop-signal.signal shown) c.deref-last-items.ensures.value) ∙ shows)

pub index-requires-in-loop-signal : goal.index-requires-in-loop-signal
index-requires-in-loop-signal c = omega (
  arith,
  c.index-parents.result.now.ok.0,
  row_covers c.requires.tables c.requires.round_in c.index-parents.result.now c.index.result.now c.loop-signal.signal
      c.index-parents.ensures c.index.ensures (omega (arith, ap (λ (x : List Shown). length x) c.deref-last-items.ensures.value, c.loop-signal-test.true)),
)

pub bounds-before-index : goal.bounds-before-index
bounds-before-index c = parent_in (goal.at.bounds-before-index c).After-index-in-loop-signal

pub bounds-on-0 : goal.bounds-on-0
bounds-on-0 c =
    let w = goal.at.bounds-on-0 c in
    omega (arith, ap (λ (x : List ℕ). length x) (shown_last w.After-on), c.requires.more c.loop-signal.signal (known w.After-index-in-loop-signal).here)

pub loop-signal-preserved : goal.loop-signal-preserved
loop-signal-preserved c =
    let w = goal.at.loop-signal-preserved c in
    let g : Game = game_of c.args.valid.now.game in
    let n : ℕ = c.args.round in
    let i : ℕ = c.loop-signal.signal in
    let p : ℕ = c.index-in-loop-signal.result.now in
    let before : List ℕ = c.args.before.now in
    let h = known w.After-index-in-loop-signal in
    let here_in = parent_in w.After-index-in-loop-signal in
    let last : Seen = last_seen (signal_at g (suc n) i) in
    let f : Signal → List ℕ = cards_on c.args.pile in
    let a : ℕ = c.index-before-index.result in
    let b : ℕ = c.index-on-0.result in
    let one = c.requires.more i h.here in
    let first : a ≡ get_or before p 0 = c.index-before-index.is ∙ get_or_default_zero before p a here_in in
    let second : b ≡ get_or (seen_on c.args.pile last) 0 0 =
    c.index-on-0.is ∙ ap (λ (x : List ℕ). get_or x 0 b) (shown_last w.After-on) ∙ get_or_default_zero (seen_on c.args.pile last) 0 b (omega (arith, one)) in
    c.in_ok-push-2.ensures.items
    ∙ ap (λ (x : List ℕ). x ++ b ∷ []) c.in_ok-push.ensures.items
    ∙ append_assoc c.loop-signal.cards.items (a ∷ []) (b ∷ [])
    ∙ joined_more f [] c.loop-signal.cards.items (a ∷ b ∷ []) (signals g (suc n)) i [] h.here c.loop-signal.invariant
    (paired c.args.pile (signal_at g (suc n) i) (signal_at g n p) last before p a b h.signal_is here_in
    (kept_part f 1 (signals g n) before c.requires.before c.requires.each p h.parent_in) one first second)

pub returns : goal.returns
returns c =
    c.loop-signal.invariant
    ∙ ap (flat_map (cards_on c.args.pile)) (all_shown c.requires.tables c.requires.round_in c.index.result.now c.loop-signal.signal c.index.ensures
    (omega (arith, ap (λ (x : List Shown). length x) c.deref-last-items.ensures.value, c.loop-signal-test.false)))

pub offset_bounds-last-items-signal : goal.offset_bounds-last-items-signal
offset_bounds-last-items-signal c = omega arith
