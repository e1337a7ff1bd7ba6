use Rattle.std.proofs.{Common.{◌≡◌, ◌-◌, ℕ, length, refl, Ok, true, arith}, lemmas.Result.{err_from_is_err_and}}
use Rattle.gs_model.specs.Betting.{none}
use Rattle.gs_bet.specs.{TreeView.{plain_moves}, Reading.{act_with, inner_at, act_at, moves_at, more_at, move_at}}
use Rattle.gs_bet.proofs.{TreeLaws.{plain-made}, ReadingLaws.{act_is, fails_here, inner_even, inner_fold, more_room, plain_push, Pushed, pushed_fails, pushed_ends, pushed_goes, pushed_long}}
use Rattle.gs_bet.proofs.reading.+reader.Goals as goal
use Rattle.gs_bet.proofs.reading.+reader.Goals.{moves_of-After-len}

pub act_of-returns : goal.act_of-returns
unfolding act_with
act_of-returns t c = rw (act_is, c.in_ok-player.ensures.read, c.in_ok-rest.ensures, c.in_ok-moves.ensures, plain-made) refl

pub moves_of-returns-in_err-next : goal.moves_of-returns-in_err-next
moves_of-returns-in_err-next t c =
    let p = err_from_is_err_and c.from_residual.result c.from_residual.ensures.1 in
    rw (p.1, p.2) (fails_here c.in_err-next.field-0.0 (inner_at (act_at c.args.left)) (26 - length c.loop-moves.moves.items)
    (plain_moves c.loop-moves.moves.items) c.loop-moves.rest.now _ (omega arith) c.loop-moves.invariant.read
    (rw c.deref.ensures.value at c.in_err-next.ensures))

-- the moves once one more is pushed, and their number
pushed : (t : ℕ) (c : moves_of-After-len t) → Pushed (inner_at (act_at c.args.left)) c.loop-moves.moves.items c.push.new.self.items c.loop-moves.rest.now
    c.in_ok-next.behind.now (moves_at (inner_at (act_at c.args.left)) 26 none c.args.bytes.now)
pushed t c = record {
  room = c.loop-moves.invariant.room;
  so_far = c.loop-moves.invariant.read;
  next = rw (c.in_ok-push.ensures.items, plain_push)
      (rw c.deref.ensures.value at c.in_ok-next.ensures);
}

counted : (t : ℕ) (c : moves_of-After-len t) → c.len.result ≡ length c.push.new.self.items
counted t c = omega (arith, c.len.ensures, c.push.new.self.ok.0)

pub moves_of-returns-in_err-more : goal.moves_of-returns-in_err-more
moves_of-returns-in_err-more t c =
    let p = err_from_is_err_and c.from_residual-in_err-more.result c.from_residual-in_err-more.ensures.1 in
    let w = (goal.at.moves_of-returns-in_err-more t c).After-len in
    rw (p.1, p.2) (pushed_fails c.in_err-more.field-0.0 (inner_at (act_at c.args.left)) c.loop-moves.moves.items c.push.new.self.items c.loop-moves.rest.now
    c.in_ok-next.behind.now _ (pushed t w) (rw (counted t w) at c.in_err-more.ensures))

pub moves_of-returns-then-not-more : goal.moves_of-returns-then-not-more
moves_of-returns-then-not-more t c =
    let w = (goal.at.moves_of-returns-then-not-more t c).After-len in
    pushed_ends (inner_at (act_at c.args.left)) c.loop-moves.moves.items c.push.new.self.items c.loop-moves.rest.now c.in_ok-next.behind.now
    c.in_ok-more.others.now _ (pushed t w) (rw (counted t w, c.if-not-more.true) at c.in_ok-more.ensures)

pub moves_of-loop-moves-preserved : goal.moves_of-loop-moves-preserved
moves_of-loop-moves-preserved t c =
    let w = (goal.at.moves_of-loop-moves-preserved t c).After-len in
    let h : more_at (length c.push.new.self.items) c.in_ok-next.behind.now ≡ Ok (true, c.in_ok-more.others.now) = rw (counted t w, c.if-not-more.false) at
    c.in_ok-more.ensures in
    let grown = pushed_long c.loop-moves.moves.items c.push.new.self.items _ c.in_ok-push.ensures.items in
    record {
      read = pushed_goes (inner_at (act_at c.args.left)) c.loop-moves.moves.items c.push.new.self.items c.loop-moves.rest.now c.in_ok-next.behind.now
          c.in_ok-more.others.now _ (pushed t w) grown h;
      room = more_room _ _ _ h;
    }

pub move_of-returns : goal.move_of-returns
unfolding move_at
move_of-returns t c = grind arith

pub act_of-returns-in_err-player : goal.act_of-returns-in_err-player
unfolding act_with
act_of-returns-in_err-player t c = grind (arith, act_is)

pub act_of-returns-in_err-rest : goal.act_of-returns-in_err-rest
unfolding act_with
act_of-returns-in_err-rest t c = grind (arith, act_is)

pub act_of-returns-in_err-moves : goal.act_of-returns-in_err-moves
unfolding act_with
act_of-returns-in_err-moves t c = grind (arith, act_is)

pub inner_of-returns-in-61 : goal.inner_of-returns-in-61
unfolding inner_at
inner_of-returns-in-61 t c = inner_even (act_at c.args.left) c.args.bytes.now c.in-61.len_at_least (omega arith)

pub inner_of-returns-in-33 : goal.inner_of-returns-in-33
unfolding inner_at
inner_of-returns-in-33 t c = inner_fold (act_at c.args.left) c.args.bytes.now c.in-33.len_at_least (omega arith)

pub move_of-returns-in_err-next : goal.move_of-returns-in_err-next
unfolding move_at
move_of-returns-in_err-next t c = grind arith

pub move_of-returns-in_err-rest : goal.move_of-returns-in_err-rest
unfolding move_at
move_of-returns-in_err-rest t c = grind arith

pub act_of-overflow_sub-left : goal.act_of-overflow_sub-left
act_of-overflow_sub-left t c = c.in_ok-player.ensures.room

pub act_of-moves_of-requires : goal.act_of-moves_of-requires
act_of-moves_of-requires t c = (omega (arith, c.decreases, c.in_ok-player.ensures.room), tt)

pub moves_of-loop-moves-smaller : goal.moves_of-loop-moves-smaller
moves_of-loop-moves-smaller t c = omega (
  arith,
  c.loop-moves.invariant.room,
  pushed_long c.loop-moves.moves.items c.push.new.self.items _ c.in_ok-push.ensures.items,
)

pub move_of-inner_of-requires : goal.move_of-inner_of-requires
move_of-inner_of-requires t c = grind arith

pub inner_of-bounds-bytes-0 : goal.inner_of-bounds-bytes-0
inner_of-bounds-bytes-0 t c = grind arith

pub moves_of-loop-moves-init : goal.moves_of-loop-moves-init
moves_of-loop-moves-init t c = grind arith
