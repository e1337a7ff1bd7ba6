use Rattle.std.proofs.lemmas.Grind.{common_steps}
use Rattle.std.proofs.Common.{◌≡◌, ℕ, List, length, get_or, ap, ◌∙◌, arith}
use Rattle.gs_model.specs.{Cards.{left_after}, Game.{Game}, Signals.{parents, signal_at}}
use Rattle.gs_model.proofs.Ranges.{length-parents}
use Rattle.gs_game.specs.Games.{game_of}
use Rattle.gs_tree.specs.{Layers.{last_seen}, Shown.{seen_of, cards_of}, declared.layer.Layer.{Layer}}
use Rattle.gs_tree.proofs.{Lookups.{layer_of, parents_of, is_child, left_step, parent_read}, tables.Tables.+copies_left.Goals.{After-index-2}}
use Rattle.gs_tree.proofs.tables.Tables.+copies_left.Goals as goal

pub index-shown-requires : goal.index-shown-requires
index-shown-requires t c =
    let l : Layer = c.index.result.now in
    let h = layer_of (game_of c.args.valid.now.game) c.args.self.now.parents.items c.args.self.now.layers.items c.args.round l c.requires.tables
    (omega arith) c.requires.round_in c.index.ensures in
    omega (arith, h.long, l.shown.ok.0, c.requires.signal_in)

-- the round's row is of the parents
row_is : (t : ℕ) (c : After-index-2 t) → c.index-2.result.now.items ≡ parents (game_of c.args.valid.now.game) c.args.round
row_is t c = parents_of (game_of c.args.valid.now.game) c.args.self.now.parents.items c.args.self.now.layers.items c.args.round c.index-2.result.now
    c.requires.tables
    (omega arith) c.requires.round_in c.index-2.ensures

pub index-parent-requires : goal.index-parent-requires
index-parent-requires t c =
    let h = row_is t (goal.at.index-parent-requires t c).After-index-2 in
    omega (arith, ap (λ (x : List ℕ). length x) h, length-parents (game_of c.args.valid.now.game) c.args.round, c.index-2.result.now.ok.0, c.requires.signal_in)

pub copies_left-requires : goal.copies_left-requires
copies_left-requires t c =
    let g : Game = game_of c.args.valid.now.game in
    let p = parent_read g c.index-2.result.now c.args.round c.args.signal c.index-parent.result.now (row_is t (goal.at.copies_left-requires t c).After-index-2)
    c.requires.signal_in c.index-parent.ensures in
    let child = is_child g c.args.round c.args.signal (omega arith) c.requires.signal_in in
    (omega arith, (c.requires.tables, (omega (arith, c.requires.round_in), omega (arith, p, child.parent_in))))

pub returns-clause-left : goal.returns-clause-left
returns-clause-left t c =
    let g : Game = game_of c.args.valid.now.game in
    let l : Layer = c.index.result.now in
    let p = parent_read g c.index-2.result.now c.args.round c.args.signal c.index-parent.result.now (row_is t (goal.at.returns-clause-left t c).After-index-2)
    c.requires.signal_in c.index-parent.ensures in
    let child = is_child g c.args.round c.args.signal (omega arith) c.requires.signal_in in
    let k = layer_of g c.args.self.now.parents.items c.args.self.now.layers.items c.args.round l c.requires.tables (omega arith) c.requires.round_in
    c.index.ensures in
    let shown = c.index-shown.result.now in
    let reads : shown ≡ get_or l.shown.items c.args.signal shown = c.index-shown.ensures in
    let shows : seen_of shown ≡ last_seen (signal_at g c.args.round c.args.signal) = ap seen_of reads ∙ k.shows c.args.signal shown c.requires.signal_in in
    let step = left_step g c.args.round c.args.signal c.index-parent.result.now c.in_ok-left.left.items shown child p c.in_ok-left.ensures.left shows in
    c.take_cards-2.ensures.value
    ∙ ap (λ x. left_after x c.cards-2.result.now) (c.take_cards.ensures.value ∙ ap (left_after c.in_ok-left.left.items) c.cards.ensures)
    ∙ ap (left_after (left_after c.in_ok-left.left.items (cards_of shown.own))) c.cards-2.ensures ∙ step

pub returns-clause-few : goal.returns-clause-few
returns-clause-few t c = c.take_cards-2.ensures.few

pub take_cards-requires-2 : goal.take_cards-requires-2
take_cards-requires-2 t c = c.take_cards.ensures.few

pub take_cards-requires : goal.take_cards-requires
take_cards-requires t c = c.in_ok-left.ensures.few

pub returns-clause-len : goal.returns-clause-len
returns-clause-len t c = c.take_cards-2.ensures.len ∙ c.take_cards.ensures.len ∙ c.in_ok-left.ensures.len

pub returns-then-round-eq0 : goal.returns-then-round-eq0
returns-then-round-eq0 c = grind (arith, common_steps)
