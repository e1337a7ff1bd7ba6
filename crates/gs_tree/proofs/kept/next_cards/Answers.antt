use Rattle.std.proofs.Common.{◌≡◌, ◌*◌, ◌<◌, ◌++◌, ℕ, List, [], suc, length, map, drop, take, get_or, slice_index, refl, sym, ap, ◌∙◌, subst}
use Rattle.std.proofs.{lemmas.Grind.{common_steps, get_or_default_zero}, Common.{append_assoc, arith}, lemmas.List.{length-map}}
use Rattle.std.specs.Prelude.{flat_map, IfOk}
use Rattle.gs_model.specs.{Game.{Game}, Signals.{Seen, Signal, signal_at, signals}}
use Rattle.gs_game.specs.{Games.{game_of, round_rules}, declared.game.Round.{Round}}
use Rattle.gs_tree.specs.{Layers.{last_seen}, Shown.{cards_on, seen_of, seen_on}, declared.layer.Shown.{Shown}}
use Rattle.gs_tree.proofs.{Parts.{kept_long, kept_part, kept_room}, Pushed.{joined_more}, Rounds.{IsTold, all_shown, row_covers, row_is_long, told, told_at}}
use Rattle.gs_tree.proofs.{Piles.{alone, hand_on, parents_alone, shows_many}, kept.next_cards.Goals.{After-cards_shown-more, After-index-in-loop-signal}}
use Rattle.gs_tree.proofs.kept.next_cards.Goals as goal

-- each signal shows so many cards more
shows_more : (c : After-cards_shown-more) (i : ℕ) → i < length (signals (game_of c.args.valid.now.game) (suc c.args.round))
    → length (seen_on c.args.pile (last_seen (signal_at (game_of c.args.valid.now.game) (suc c.args.round) i))) ≡ c.cards_shown-more.result
shows_more c i here =
    let rounds : List Round = c.args.valid.now.game.rounds.items in
    shows_many (game_of c.args.valid.now.game) c.args.round i rounds c.index-now.result.now c.args.pile refl
    (omega (arith, c.requires.round_in, c.requires.all, length-map rounds round_rules)) c.index-now.ensures here ∙ sym c.cards_shown-more.ensures

pub parent_cards-requires : goal.parent_cards-requires
parent_cards-requires c =
    let row = c.index-parents.result.now in
    let one = kept_long (cards_on c.args.pile) c.args.each (signals (game_of c.args.valid.now.game) c.args.round) c.args.before.now c.requires.before
    c.requires.each
    ∙ ap (λ e. length (signals (game_of c.args.valid.now.game) c.args.round) * e) c.if-each-eq1.true in
    let long = row_is_long c.requires.tables
    c.requires.round_in row c.index-parents.ensures in
    λ k d m.
    let here : k < length (signals (game_of c.args.valid.now.game) (suc c.args.round)) =
    omega (arith, m, long, ap (λ (x : List ℕ). length x) c.deref.ensures.value) in
    let h = told c.requires.tables c.requires.round_in
    row c.index.result.now k c.index-parents.ensures c.index.ensures here in
    omega (arith, ap (λ (x : List ℕ). get_or x k d) c.deref.ensures.value, get_or_default_zero row.items k d h.row_long, h.parent_in, one)

pub returns-then-more-eq0 : goal.returns-then-more-eq0
returns-then-more-eq0 c =
    let g : Game = game_of c.args.valid.now.game in
    let row = c.index-parents.result.now in
    let n : ℕ = c.args.round in
    let before : List ℕ = c.args.before.now in
    let f : Signal → List ℕ = cards_on c.args.pile in
    let ss : List Signal = signals g (suc n) in
    let one = kept_long (cards_on c.args.pile) c.args.each (signals (game_of c.args.valid.now.game) c.args.round) c.args.before.now c.requires.before
    c.requires.each
    ∙ ap (λ e. length (signals g n) * e) c.if-each-eq1.true in
    let long = row_is_long c.requires.tables
    c.requires.round_in row c.index-parents.ensures in
    let value : map (slice_index before) c.deref.result.now ≡ flat_map f ss =
    ap (map (slice_index before)) c.deref.ensures.value
    ∙ parents_alone f (slice_index before) ss [] row.items long
    (λ i here.
    let h = told c.requires.tables c.requires.round_in
    row c.index.result.now i c.index-parents.ensures c.index.ensures here in
    let p : ℕ = get_or row.items i 0 in
    let part = kept_part (cards_on c.args.pile) c.args.each (signals (game_of c.args.valid.now.game) c.args.round) c.args.before.now c.requires.before
    c.requires.each p h.parent_in in
    let P : ℕ → Type 0 = λ e. take e (drop (p * e) before) ≡ f (signal_at g n p) in
    let none = shows_more (goal.at.returns-then-more-eq0 c).After-cards_shown-more i here ∙ c.if-more-eq0.true in
    alone c.args.pile (signal_at g (suc n) i) (signal_at g n p) (last_seen (signal_at g (suc n) i)) before p h.signal_is (omega (arith, h.parent_in, one))
    (subst P c.if-each-eq1.true part) none) in
    subst (λ (x : List ℕ). IfOk c.parent_cards.result (λ v. v.items ≡ x)) value c.parent_cards.ensures

pub paired_cards-requires-clause-more : goal.paired_cards-requires-clause-more
paired_cards-requires-clause-more c = λ i here. shows_more (goal.at.paired_cards-requires-clause-more c).After-cards_shown-more i here ∙ c.if-more-eq1.true

-- what the tables tell of the signal
known : (c : After-index-in-loop-signal) → IsTold (game_of c.args.valid.now.game) c.args.round c.loop-signal.signal c.index-in-loop-signal.result.now
    c.index-parents.result.now.items c.index.result.now
known c = told_at c.requires.tables c.requires.round_in
    c.index-parents.result.now c.index.result.now c.loop-signal.signal c.index-in-loop-signal.result.now c.index-parents.ensures c.index.ensures
    (omega (arith, ap (λ (x : List Shown). length x) c.deref-last-items.ensures.value, c.loop-signal-test.true)) c.index-in-loop-signal.ensures

pub index-requires-in-loop-signal : goal.index-requires-in-loop-signal
index-requires-in-loop-signal c = omega (
  arith,
  c.index-parents.result.now.ok.0,
  row_covers c.requires.tables c.requires.round_in c.index-parents.result.now c.index.result.now c.loop-signal.signal
      c.index-parents.ensures c.index.ensures (omega (arith, ap (λ (x : List Shown). length x) c.deref-last-items.ensures.value, c.loop-signal-test.true)),
)

pub part-parent-requires : goal.part-parent-requires
part-parent-requires c = kept_room (cards_on c.args.pile) c.args.each (signals (game_of c.args.valid.now.game) c.args.round) c.args.before.now c.requires.before
    c.requires.each c.index-in-loop-signal.result.now (known (goal.at.part-parent-requires c).After-index-in-loop-signal).parent_in

pub loop-signal-preserved : goal.loop-signal-preserved
loop-signal-preserved c =
    let g : Game = game_of c.args.valid.now.game in
    let n : ℕ = c.args.round in
    let i : ℕ = c.loop-signal.signal in
    let p : ℕ = c.index-in-loop-signal.result.now in
    let f : Signal → List ℕ = cards_on c.args.pile in
    let h = known (goal.at.loop-signal-preserved c).After-index-in-loop-signal in
    let last : Seen = last_seen (signal_at g (suc n) i) in
    let shown : Shown = c.last-item.result in
    let shows : seen_of shown ≡ last = ap seen_of (c.last-item.is ∙ ap (λ (x : List Shown). get_or x i shown) c.deref-last-items.ensures.value)
    ∙ h.shows shown in
    let part : c.part-parent.result.now ≡ f (signal_at g n p) = c.part-parent.ensures
    ∙ kept_part (cards_on c.args.pile) c.args.each (signals (game_of c.args.valid.now.game) c.args.round) c.args.before.now c.requires.before c.requires.each p
    h.parent_in in
    let cards : c.on.result.now ≡ seen_on c.args.pile last = c.on.ensures ∙ ap (seen_on c.args.pile) shows in
    c.in_ok-push_each-2.ensures
    ∙ ap (λ (x : List ℕ). x ++ c.on.result.now) c.in_ok-push_each.ensures
    ∙ append_assoc c.loop-signal.cards.items c.part-parent.result.now c.on.result.now
    ∙ joined_more f [] c.loop-signal.cards.items (c.part-parent.result.now ++ c.on.result.now) (signals g (suc n)) i [] h.here c.loop-signal.invariant
    (hand_on c.args.pile (signal_at g (suc n) i) (signal_at g n p) last c.part-parent.result.now c.on.result.now h.signal_is part cards)

pub returns : goal.returns
returns c =
    c.loop-signal.invariant
    ∙ ap (flat_map (cards_on c.args.pile)) (all_shown c.requires.tables c.requires.round_in c.index.result.now c.loop-signal.signal c.index.ensures
    (omega (arith, ap (λ (x : List Shown). length x) c.deref-last-items.ensures.value, c.loop-signal-test.false)))

pub paired_cards-requires-clause-each : goal.paired_cards-requires-clause-each
paired_cards-requires-clause-each c = grind (arith, common_steps)

pub index-now-requires : goal.index-now-requires
index-now-requires c = omega (
  arith,
  c.requires.round_in,
  c.requires.all,
  length-map c.args.valid.now.game.rounds.items round_rules,
  c.args.valid.now.game.rounds.ok.0,
)

pub bounds-last-items-signal : goal.bounds-last-items-signal
bounds-last-items-signal c = omega arith

pub offset_bounds-last-items-signal : goal.offset_bounds-last-items-signal
offset_bounds-last-items-signal c = omega arith
