use Rattle.std.proofs.{Common.{◌-◌, ◌<◌, ◌∙◌, ◌++◌, ◌∷◌, [], ◌≡◌, ℕ, List, length, subst, sym, ap, arith, get_or}, lemmas.List.{length-map}}
use Rattle.gs_model.specs.{Game.{Game, round_count}, Signals.{signals}, ViewTree.{signal_strength}}
use Rattle.gs_tree.specs.{Trees.{rules_of}, Walk.{last_count}}
use Rattle.gs_lossless.specs.{Boards.{seat_of}, declared.board.Seat.{Seat}}
use Rattle.gs_tree.proofs.Chain.{IsOnChain, chain_end, chain_more, chain_smaller, chain_start}
use Rattle.gs_lossless.proofs.board.seats_beside.Goals as goal

pub loop-signal-init : goal.loop-signal-init
loop-signal-init c =
    let g : Game = rules_of c.args.signals.now in
    let P : List Seat → Type 0 = IsOnChain g (seat_of g) c.args.first (get_or c.boards.result.0.now c.args.first 0) in
    subst P (sym c.in_ok-seats.ensures.items) (chain_start g (seat_of g) c.boards.result.0.now c.boards.result.1.now c.boards.ensures c.args.first c.requires)

pub bounds-strengths-signal : goal.bounds-strengths-signal
bounds-strengths-signal c =
    let g : Game = rules_of c.args.signals.now in
    let long : length c.strengths-strengths.result.now ≡ last_count g = ap (λ (xs : List ℕ). length xs) c.strengths-strengths.ensures
    ∙ length-map (signals g (round_count g)) (signal_strength g) in
    omega (arith, c.loop-signal-test.true, c.boards.ensures.nexts_long, long)

pub loop-signal-preserved : goal.loop-signal-preserved
loop-signal-preserved c =
    let g : Game = rules_of c.args.signals.now in
    let s : ℕ = c.loop-signal.signal in
    let old : List Seat = c.loop-signal.seats.items in
    let P : List Seat → Type 0 = IsOnChain g (seat_of g) c.args.first (get_or c.boards.result.1.now s 0) in
    let in' : s < last_count g = omega (arith, c.loop-signal-test.true, c.boards.ensures.nexts_long) in
    let seat : (old ++ (let one : Seat = record { level = get_or c.strengths-strengths.result.now s 0; signal = s } in one) ∷ []) ≡ old ++ seat_of g s ∷ [] =
    ap (λ (xs : List ℕ). old ++ (let one : Seat = record { level = get_or xs s 0; signal = s } in one) ∷ []) c.strengths-strengths.ensures in
    subst P (sym (c.in_ok-push.ensures.items ∙ seat)) (chain_more g (seat_of g) c.boards.result.0.now c.boards.result.1.now c.boards.ensures c.args.first s old
    in' c.loop-signal.invariant)

pub loop-signal-smaller : goal.loop-signal-smaller
loop-signal-smaller c = chain_smaller (rules_of c.args.signals.now) c.boards.ensures c.loop-signal.signal c.loop-signal-test.true

pub returns : goal.returns
returns c =
    let g : Game = rules_of c.args.signals.now in
    chain_end g (seat_of g) c.args.first c.loop-signal.signal c.loop-signal.seats.items (omega (arith, c.loop-signal-test.false, c.boards.ensures.nexts_long))
    c.loop-signal.invariant

pub overflow_cast-signal-in-loop-signal-3 : goal.overflow_cast-signal-in-loop-signal-3
overflow_cast-signal-in-loop-signal-3 c = grind arith

pub offset_bounds-nexts-signal : goal.offset_bounds-nexts-signal
offset_bounds-nexts-signal c = grind arith
