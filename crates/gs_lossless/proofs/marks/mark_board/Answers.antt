use Rattle.std.proofs.Common.{◌<◌, ℕ, List, arith, get_or, length, subst, sym}
use Rattle.std.proofs.lemmas.Grind.{common_steps}
use Rattle.gs_lossless.specs.{Boards.{seat_signals}, declared.board.Seat.{Seat}}
use Rattle.gs_lossless.proofs.{Marked.{MayMark, may_none, may_seat}, Seats.{none}, marks.mark_board.Goals.{in-Some, in_default}}
use Rattle.gs_lossless.proofs.marks.mark_board.Goals as goal

pub loop-place-init : goal.loop-place-init
loop-place-init c = may_none (seat_signals c.args.seats.now) c.args.hands.now (seat_signals c.args.others.now) c.args.other_hands.now c.args.marks.now

pub loop-place-preserved : goal.loop-place-preserved
loop-place-preserved c =
    let seats : List Seat = c.args.seats.now in
    let others : List Seat = c.args.others.now in
    let hands : List ℕ = c.args.hands.now in
    let other_hands : List ℕ = c.args.other_hands.now in
    let old : List ℕ = c.args.marks.now in
    let now : List ℕ = c.loop-place.marks in
    let place : ℕ = c.loop-place.place in
    let M : List ℕ → Type 0 = λ m. MayMark (seat_signals seats) hands (seat_signals others) other_hands old m in
    elim c.match-find.branch [
      | in-Some w ↦
          let one : place < length seats = omega (arith, c.loop-place-test.true, c.requires.hands) in
          let two : w.in-Some.other < length others = omega (arith, w.in-Some.ensures.0, c.requires.other_hands) in
          let in' : (get_or seats place none).signal < length now = omega (arith, c.requires.within place none one, c.loop-place.invariant.long) in
          subst M (sym w.marks-is) (may_seat seats others hands other_hands old now place w.in-Some.other c.loop-place.invariant one two
          (sym w.in-Some.ensures.1) in')
      | in_default w ↦ subst M (sym w.marks-is) c.loop-place.invariant
    ]

pub returns-clause-each : goal.returns-clause-each
returns-clause-each c = c.loop-place.invariant.each

pub bounds-marks-seats : goal.bounds-marks-seats
bounds-marks-seats c = grind arith

pub bounds-seats-place : goal.bounds-seats-place
bounds-seats-place c = grind (arith, common_steps)

pub offset_bounds-marks-seats : goal.offset_bounds-marks-seats
offset_bounds-marks-seats c = grind arith
