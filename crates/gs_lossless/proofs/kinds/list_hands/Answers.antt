use Rattle.std.proofs.{Common.{◌≡◌, ◌+◌, ◌*◌, ◌<◌, ◌∙◌, ℕ, List, ap, arith, get_or, length, subst, sym}, lemmas.List.{get_or-map}}
use Rattle.gs_lossless.specs.{Boards.{levels_in, seat_signals}, declared.board.Seat.{Seat}}
use Rattle.gs_lossless.proofs.{Filled.{hand_of, none_filled, one_filled}, Seats.{none}}
use Rattle.gs_lossless.proofs.kinds.list_hands.Goals as goal

pub loop-place-init : goal.loop-place-init
loop-place-init c =
    let seats : List Seat = c.args.board.now.seats.items in
    none_filled (hand_of c.args.board.now c.args.keys.now) c.resize.new.self.items seats
    (omega (arith, c.in_ok-resize.ensures.len, c.len.ensures, c.resize.new.self.ok.0, c.args.board.now.seats.ok.0))

pub loop-place-preserved : goal.loop-place-preserved
loop-place-preserved c =
    let seats : List Seat = c.args.board.now.seats.items in
    let keys : List ℕ = c.args.keys.now in
    let n : ℕ = c.loop-place.place in
    let read : c.deref-seat-items.result.now ≡ seats = c.deref-seat-items.ensures.value in
    let l : n < length seats = subst (λ (s : List Seat). n < length s) read c.loop-place-test.true in
    let level : c.from.result ≡ get_or (levels_in seats) n 0 =
    c.from.ensures ∙ ap (λ (s : List Seat). (get_or s n none).level) read ∙ sym (get_or-map (λ (s : Seat). s.level) seats n none 0 l) in
    let key : c.from-in-loop-place.result ≡ get_or keys (get_or (seat_signals seats) n 0) 0 =
    c.from-in-loop-place.ensures ∙ ap (λ (s : List Seat). get_or keys (get_or s n none).signal 0) read
    ∙ ap (λ (k : ℕ). get_or keys k 0) (sym (get_or-map (λ (s : Seat). s.signal) seats n none 0 l)) in
    one_filled (hand_of c.args.board.now keys) c.loop-place.hands.items seats n (c.from.result * 4294967296 + c.from-in-loop-place.result)
    c.loop-place.invariant l (omega (arith, level, key))

pub bounds-keys-seat : goal.bounds-keys-seat
bounds-keys-seat c = grind arith

pub returns : goal.returns
returns c = grind arith
