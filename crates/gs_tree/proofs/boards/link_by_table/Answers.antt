use Rattle.std.proofs.{Common.{◌≡◌, ◌+◌, ◌<◌, ◌^◌, ℕ, List, set, length, refl, sym, ap, ◌∙◌, subst, arith}, lemmas.Grind.{common_steps}}
use Rattle.gs_model.specs.{Game.{Game, round_count}, Signals.{public_cards, signal_at}}
use Rattle.gs_card.specs.Decks.{kinds}
use Rattle.gs_game.specs.Games.{game_of}
use Rattle.gs_tree.specs.Walk.{last_count}
use Rattle.gs_tree.proofs.Coded.{IsBoardOf, IsTableOf, board_in, none_in_table, shown_board, table_more, table_read}
use Rattle.gs_tree.proofs.{Linked.{are_boards, last_in, last_place, linked_more, start_linked}, Parts.{hands_counted}}
use Rattle.gs_tree.proofs.boards.link_by_table.Goals.{After-board_code-code, After-len-count, After-seen_last-before, In-loop-signal}
use Rattle.gs_tree.proofs.boards.link_by_table.Goals as goal

-- the public cards of a signal
abbrev board : Game → ℕ → List ℕ
board g i = public_cards (signal_at g (round_count g) i)

-- a place for each signal
counted : (c : After-len-count) → c.len-count.result ≡ last_count (game_of c.args.valid.now.game)
counted c = hands_counted (game_of c.args.valid.now.game) c.args.hands.now c.len-count.result c.requires.hands c.len-count.ensures

-- the next signal shows a board
shown : (c : In-loop-signal) → c.len-count.result ≡ last_count (game_of c.args.valid.now.game) → IsBoardOf (kinds c.args.valid.now.game.deck)
    c.args.hands.now.public
    (board (game_of c.args.valid.now.game) c.loop-signal.signal)
shown c count = shown_board (game_of c.args.valid.now.game) c.args.valid.now.game.deck c.args.hands.now.paths c.args.hands.now.owns.items
    c.args.hands.now.publics.items
    c.args.hands.now.own c.args.hands.now.public c.loop-signal.signal c.kinds.ensures.deck refl c.requires.hands (omega (arith, count, c.loop-signal-test.true))

-- its code has a place in the table
code_in : (c : After-board_code-code) → IsBoardOf (kinds c.args.valid.now.game.deck) c.args.hands.now.public
    (board (game_of c.args.valid.now.game) c.loop-signal.signal)
    → c.board_code-code.result < length c.loop-signal.last.items
code_in c h = omega (
  arith,
  board_in (kinds c.args.valid.now.game.deck) c.args.hands.now.public (length c.loop-signal.last.items)
      (board (game_of c.args.valid.now.game) c.loop-signal.signal) h c.loop-signal.invariant.kept.wide,
  c.board_code-code.ensures,
)

-- what stands there is the last signal before that shows this board
last_before : (c : After-seen_last-before) → IsBoardOf (kinds c.args.valid.now.game.deck) c.args.hands.now.public
    (board (game_of c.args.valid.now.game) c.loop-signal.signal) → c.seen_last-before.result ≡ last_place (board (game_of c.args.valid.now.game))
    c.loop-signal.signal
    (board (game_of c.args.valid.now.game) c.loop-signal.signal)
last_before c h =
    c.seen_last-before.ensures
    ∙ table_read (board (game_of c.args.valid.now.game)) c.loop-signal.signal c.len-count.result (kinds c.args.valid.now.game.deck) c.args.hands.now.public
    c.board_code-code.result c.index.result.now c.loop-signal.last.items c.loop-signal.invariant.kept h c.board_code-code.ensures c.index.ensures

pub loop-signal-init : goal.loop-signal-init
loop-signal-init c =
    let g : Game = game_of c.args.valid.now.game in
    let key : ℕ → List ℕ = board g in
    let k : ℕ = kinds c.args.valid.now.game.deck in
    let wide : c.code_count.result ≡ k ^ c.args.hands.now.public = c.code_count.ensures
    ∙ ap (λ n. n ^ c.args.hands.now.public) (c.from-kinds.ensures ∙ c.kinds.ensures.number) in
    record {
      linked = start_linked key c.len-count.result c.in_ok-boards.boards.firsts.items c.in_ok-boards.boards.nexts.items c.in_ok-boards.ensures.firsts
          c.in_ok-boards.ensures.nexts;
      kept = none_in_table key c.len-count.result k c.args.hands.now.public c.code_count.result c.in_ok-last.last.items c.in_ok-last.ensures wide;
    }

pub board_code-code-requires-clause-signal_in : goal.board_code-code-requires-clause-signal_in
board_code-code-requires-clause-signal_in c = omega
    (arith, counted (goal.at.board_code-code-requires-clause-signal_in c).After-len-count, c.loop-signal-test.true)

pub index-requires : goal.index-requires
index-requires c =
    let w = goal.at.index-requires c in
    omega (arith, code_in w.After-board_code-code (shown w.In-loop-signal (counted w.After-len-count)), c.loop-signal.last.ok.0)

pub index_mut-requires : goal.index_mut-requires
index_mut-requires c =
    let w = goal.at.index_mut-requires c in
    omega (arith, code_in w.After-board_code-code (shown w.In-loop-signal (counted w.After-len-count)), c.loop-signal.last.ok.0)

pub loop-signal-preserved : goal.loop-signal-preserved
loop-signal-preserved c =
    let w = goal.at.loop-signal-preserved c in
    let key : ℕ → List ℕ = board (game_of c.args.valid.now.game) in
    let n : ℕ = c.loop-signal.signal in
    let k : ℕ = kinds c.args.valid.now.game.deck in
    let size : ℕ = c.args.hands.now.public in
    let old = c.loop-signal.boards in
    let here = shown w.In-loop-signal (counted w.After-len-count) in
    let P : ℕ → Type 0 = λ code. IsTableOf key (n + 1) c.len-count.result k size (set c.loop-signal.last.items code n) in
    record {
      linked = linked_more key n c.len-count.result old.firsts.items old.nexts.items c.loop-signal.invariant.linked c.seen_last-before.result
          c.link.new.boards.firsts.items c.link.new.boards.nexts.items c.loop-signal-test.true (last_before w.After-seen_last-before here) c.link.ensures.firsts
          c.link.ensures.nexts;
      kept = subst P (sym c.board_code-code.ensures) (table_more key n c.len-count.result k size c.loop-signal.last.items c.loop-signal.invariant.kept
          c.loop-signal-test.true here);
    }

pub returns : goal.returns
returns c =
    let count = counted (goal.at.returns c).After-len-count in
    are_boards (game_of c.args.valid.now.game) c.loop-signal.signal c.len-count.result c.loop-signal.boards.firsts.items c.loop-signal.boards.nexts.items
    c.loop-signal.invariant.linked (omega (arith, count, c.loop-signal.auto.signal-end, c.loop-signal-test.false)) count

pub overflow_cast-count : goal.overflow_cast-count
overflow_cast-count c = grind (arith, common_steps)

pub link-requires : goal.link-requires
link-requires c = record {
  long = c.loop-signal.invariant.linked.nexts_whole ∙ sym c.loop-signal.invariant.linked.firsts_whole;
  signal_in = omega (arith, c.loop-signal.invariant.linked.firsts_whole, c.loop-signal-test.true);
  before_in = let w = goal.at.link-requires c in
      let key : ℕ → List ℕ = board (game_of c.args.valid.now.game) in
      last_in key c.loop-signal.signal (key c.loop-signal.signal) c.seen_last-before.result
      (last_before w.After-seen_last-before (shown w.In-loop-signal (counted w.After-len-count)));
}

pub board_code-code-requires-clause-hands : goal.board_code-code-requires-clause-hands
board_code-code-requires-clause-hands c = grind arith
