use Rattle.std.proofs.Common.{◌≡◌, suc, ◌+◌, ℕ, List, Option, Some, cond, ap, sym, ◌∙◌, arith}
use Rattle.std.specs.Prelude.{nat_eq}
use lib.Pointwise.{pointwise}
use Rattle.gs_model.specs.{Game.{Game, round_count}, Signals.{public_cards, signal_at}}
use Rattle.gs_game.specs.Games.{game_of}
use Rattle.gs_tree.specs.Walk.{last_count}
use Rattle.gs_tree.proofs.{Linked.{are_boards, last_in, last_place, linked_more, start_linked}, Parts.{hands_counted}}
use Rattle.gs_tree.proofs.boards.link_by_map.Goals.{After-len-count}
use Rattle.gs_tree.proofs.boards.link_by_map.Goals as goal

-- a place for each signal
counted : (c : After-len-count) → c.len-count.result ≡ last_count (game_of c.args.valid.now.game)
counted c = hands_counted (game_of c.args.valid.now.game) c.args.hands.now c.len-count.result c.requires.hands c.len-count.ensures

pub loop-signal-preserved : goal.loop-signal-preserved
loop-signal-preserved c =
    let g : Game = game_of c.args.valid.now.game in
    let key : ℕ → List ℕ = λ i. public_cards (signal_at g (round_count g) i) in
    let n : ℕ = c.loop-signal.signal in
    let old = c.loop-signal.boards in
    let board = c.in_ok-board.board in
    let is : board.items ≡ key n = c.in_ok-board.ensures in
    let last : c.in_ok-before.before ≡ last_place key n (key n) = c.in_ok-before.ensures.old ∙ c.loop-signal.invariant.found board ∙ ap (last_place key n) is in
    let next : suc n ≡ n + 1 = omega arith in
    record {
      linked = linked_more key n c.len-count.result old.firsts.items old.nexts.items c.loop-signal.invariant.linked c.in_ok-before.before
          c.link.new.boards.firsts.items c.link.new.boards.nexts.items c.loop-signal-test.true last c.link.ensures.firsts c.link.ensures.nexts;
      found = λ q.
          c.in_ok-before.ensures.updates.0 q
          ∙ ap (λ (o : Option ℕ). cond (pointwise nat_eq board.items q.items) (Some n) o) (c.loop-signal.invariant.found q)
          ∙ ap (λ (x : List ℕ). cond (pointwise nat_eq x q.items) (Some n) (last_place key n q.items)) is
          ∙ ap (λ k. last_place key k q.items) next;
    }

pub board_of-requires-clause-signal_in : goal.board_of-requires-clause-signal_in
board_of-requires-clause-signal_in c = omega (arith, counted (goal.at.board_of-requires-clause-signal_in c).After-len-count, c.loop-signal-test.true)

pub returns : goal.returns
returns c =
    let count = counted (goal.at.returns c).After-len-count in
    are_boards (game_of c.args.valid.now.game) c.loop-signal.signal c.len-count.result c.loop-signal.boards.firsts.items c.loop-signal.boards.nexts.items
    c.loop-signal.invariant.linked (omega (arith, count, c.loop-signal.auto.signal-end, c.loop-signal-test.false)) count

pub overflow_cast-count : goal.overflow_cast-count
overflow_cast-count c =
    let g : Game = game_of c.args.valid.now.game in
    omega (arith, counted c, c.args.valid.now.limits.signals_in (round_count g) (omega arith))

pub loop-signal-init : goal.loop-signal-init
loop-signal-init c =
    let g : Game = game_of c.args.valid.now.game in
    let key : ℕ → List ℕ = λ i. public_cards (signal_at g (round_count g) i) in
    record {
      linked = start_linked key c.len-count.result c.in_ok-boards.boards.firsts.items c.in_ok-boards.boards.nexts.items c.in_ok-boards.ensures.firsts
          c.in_ok-boards.ensures.nexts;
      found = λ q. grind (arith, c.new-seen.ensures.empty);
    }

pub link-requires : goal.link-requires
link-requires c = record {
  long = c.loop-signal.invariant.linked.nexts_whole ∙ sym c.loop-signal.invariant.linked.firsts_whole;
  signal_in = omega (arith, c.loop-signal.invariant.linked.firsts_whole, c.loop-signal-test.true);
  before_in = let g : Game = game_of c.args.valid.now.game in
      let key : ℕ → List ℕ = λ i. public_cards (signal_at g (round_count g) i) in
      let board = c.in_ok-board.board in
      let last : c.in_ok-before.before ≡ last_place key c.loop-signal.signal board.items = c.in_ok-before.ensures.old ∙ c.loop-signal.invariant.found board in
      last_in key c.loop-signal.signal board.items c.in_ok-before.before last;
}
