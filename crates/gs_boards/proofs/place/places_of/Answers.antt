use Rattle.std.proofs.Common.{◌≡◌, ◌+◌, ◌++◌, ◌∙◌, ℕ, List, Vec, ap, arith, get_or, subst, sym}
use Rattle.std.specs.declared.alloc.Global.{Global}
use Rattle.gs_model.specs.Game.{Game}
use Rattle.gs_tree.specs.{Boards.{signals_on}, Trees.{rules_of}}
use Rattle.gs_boards.specs.declared.place.Place.{Place}
use Rattle.gs_boards.proofs.Placed.{ArePlacedBefore, all_placed, board_placed, none_placed, passed_over}
use Rattle.gs_boards.proofs.place.places_of.Goals as goal
use Rattle.gs_boards.proofs.place.places_of.Goals.{then-first-signal+in_ok-board+in_ok-extend_from_slice, else-first-signal}

pub loop-signal-init : goal.loop-signal-init
loop-signal-init c =
    let g : Game = rules_of c.args.signals.now in
    let firsts : List ℕ = c.boards.result.0.now in
    subst (ArePlacedBefore g firsts 0) (sym c.in_ok-places.ensures.items) (none_placed g firsts c.boards.result.1.now c.boards.ensures)

pub loop-signal-preserved : goal.loop-signal-preserved
loop-signal-preserved c =
    let g : Game = rules_of c.args.signals.now in
    let firsts : List ℕ = c.boards.result.0.now in
    let nexts : List ℕ = c.boards.result.1.now in
    let n : ℕ = c.loop-signal.signal in
    let places : List Place = c.loop-signal.places.items in
    let P : List Place → Type 0 = ArePlacedBefore g firsts (n + 1) in
    elim c.if-first-signal.branch [
      | then-first-signal+in_ok-board+in_ok-extend_from_slice w ↦
          let own : get_or firsts n 0 ≡ n = omega (arith, w.if-first-signal.true) in
          let put = ap (λ (v : Vec Place Global). v.items) w.places-is ∙ w.in_ok-extend_from_slice.ensures.items
          ∙ ap (λ xs. places ++ xs) w.deref.ensures.value in
          subst P (sym put)
          (board_placed g firsts nexts c.boards.ensures n (omega (arith, c.loop-signal-test.true, c.boards.ensures.firsts_long)) own w.in_ok-board.board.items
          w.sort_places.new.places.items w.in_ok-board.ensures.each (w.in_ok-board.ensures.all ∙ ap (signals_on g) own) w.sort_places.ensures.moved places
          w.sort_places.ensures.rising c.loop-signal.invariant)
      | else-first-signal w ↦
          let other : get_or firsts n 0 ≡ n → ⊥ = λ e. w.if-first-signal.false e in
          subst P (sym (ap (λ (v : Vec Place Global). v.items) w.places-is))
          (passed_over g firsts nexts c.boards.ensures n places other c.loop-signal.invariant)
    ]

pub returns : goal.returns
returns c =
    all_placed (rules_of c.args.signals.now) c.boards.result.0.now c.boards.result.1.now c.boards.ensures c.loop-signal.signal c.loop-signal.places.items
    (omega (arith, c.loop-signal-test.false, c.boards.ensures.firsts_long)) c.loop-signal.invariant
