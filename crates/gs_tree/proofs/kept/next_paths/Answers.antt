use Rattle.std.proofs.lemmas.Grind.{common_steps}
use Rattle.std.proofs.{Common.{◌≡◌, ◌*◌, ◌<◌, ℕ, List, [], suc, length, get_or, sym, ap, ◌∙◌, arith}, lemmas.List.{get_or-map, length-map}}
use Rattle.gs_game.specs.Games.{game_of}
use Rattle.gs_model.specs.{Deals.{path_weight}, Game.{Game}, Signals.{signal_at, signals}}
use Rattle.gs_tree.proofs.{Pushed.{mapped_more}, Rounds.{IsTold, layer_long, one_way, path_fits, row_covers, told_at}}
use Rattle.gs_tree.proofs.kept.next_paths.Goals.{After-index-in-loop-signal, After-of-path, In-loop-signal}
use Rattle.gs_tree.proofs.kept.next_paths.Goals as goal

-- the signal is one of the layer
within : (c : In-loop-signal) → c.loop-signal.signal < length c.index.result.now.shown.items
within c =
    let long = layer_long c.requires.tables
    c.requires.round_in c.index.result.now c.index.ensures in
    omega (arith, long.0, long.1, c.len-signal-end.ensures, c.loop-signal-test.true)

-- what the tables tell of it
known : (c : After-index-in-loop-signal) → c.loop-signal.signal < length c.index.result.now.shown.items
    → IsTold (game_of c.args.valid.now.game) c.args.round c.loop-signal.signal c.index-in-loop-signal.result.now c.index-parents.result.now.items
    c.index.result.now
known c m = told_at c.requires.tables c.requires.round_in
    c.index-parents.result.now c.index.result.now c.loop-signal.signal c.index-in-loop-signal.result.now c.index-parents.ensures c.index.ensures m
    c.index-in-loop-signal.ensures

-- the ways to its parent
path : (c : After-of-path) → c.index-in-loop-signal.result.now < length (signals (game_of c.args.valid.now.game) c.args.round)
    → c.of-path.result ≡ path_weight (game_of c.args.valid.now.game).copies (signal_at (game_of c.args.valid.now.game) c.args.round
    c.index-in-loop-signal.result.now)
path c m =
    let g : Game = game_of c.args.valid.now.game in
    c.of-path.ensures ∙ ap (λ (x : List ℕ). get_or x c.index-in-loop-signal.result.now 0) c.requires.before
    ∙ get_or-map (path_weight g.copies) (signals g c.args.round) c.index-in-loop-signal.result.now [] 0 m

pub index-requires-in-loop-signal : goal.index-requires-in-loop-signal
index-requires-in-loop-signal c =
    omega (
      arith,
      c.index-parents.result.now.ok.0,
      row_covers c.requires.tables c.requires.round_in c.index-parents.result.now c.index.result.now c.loop-signal.signal c.index-parents.ensures
          c.index.ensures (within (goal.at.index-requires-in-loop-signal c).In-loop-signal),
    )

pub of-path-requires : goal.of-path-requires
of-path-requires c =
    let w = goal.at.of-path-requires c in
    let g : Game = game_of c.args.valid.now.game in
    omega (
      arith,
      (known w.After-index-in-loop-signal (within w.In-loop-signal)).parent_in,
      ap (λ (x : List ℕ). length x) c.requires.before,
      length-map
          (signals g c.args.round) (path_weight g.copies),
    )

pub overflow_mul-path : goal.overflow_mul-path
overflow_mul-path c =
    let w = goal.at.overflow_mul-path c in
    let h = known w.After-index-in-loop-signal (within w.In-loop-signal) in
    let fits = path_fits (game_of c.args.valid.now.game) c.args.round c.loop-signal.signal c.index-in-loop-signal.result.now c.of-path.result c.of.result
    c.args.valid.now.dealable c.args.valid.now.deck.copies (omega (arith, c.requires.round_in, c.requires.all)) c.args.valid.now.limits.few_rounds h.here
    h.parent_in (path w.After-of-path h.parent_in) (c.of.ensures ∙ h.edge_is) in
    omega (arith, fits)

pub loop-signal-preserved : goal.loop-signal-preserved
loop-signal-preserved c =
    let w = goal.at.loop-signal-preserved c in
    let g : Game = game_of c.args.valid.now.game in
    let n : ℕ = c.args.round in
    let h = known w.After-index-in-loop-signal (within w.In-loop-signal) in
    let value : c.of-path.result * c.of.result ≡ path_weight g.copies (signal_at g (suc n) c.loop-signal.signal) =
    ap (λ k. k * c.of.result) (path w.After-of-path h.parent_in)
    ∙ ap (λ k. path_weight g.copies (signal_at g n c.index-in-loop-signal.result.now) * k) (c.of.ensures ∙ h.edge_is) ∙ sym h.path_is in
    c.in_ok-push.ensures ∙ mapped_more (path_weight g.copies) [] c.loop-signal.paths (signals g (suc n)) c.loop-signal.signal []
    (c.of-path.result * c.of.result) h.here c.loop-signal.invariant value

pub returns-in-Some-Some : goal.returns-in-Some-Some
returns-in-Some-Some c =
    let g : Game = game_of c.args.valid.now.game in
    let t = c.args.tables.now in
    let ones = c.in-Some-Some in
    c.all_ones.ensures ∙ one_way g t.parents.items t.layers.items c.args.round c.requires.tables c.requires.round_in c.index-parents.result.now
    c.index.result.now c.index-parents.ensures c.index.ensures ones.field-0-0 ones.count (sym c.requires.before ∙ ones.ensures) ones.ensures'

pub returns : goal.returns
returns c = grind (arith, common_steps)
