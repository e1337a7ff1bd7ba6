use Rattle.std.proofs.lemmas.Result.{IfOk-from_err}
use Rattle.std.proofs.Common.{◌≡◌, ◌<◌, ◌≤◌, ◌∙◌, ℕ, List, arith, length, subst, sym}
use Rattle.std.specs.Prelude.{All}
use Rattle.gs_model.specs.Game.{Game, round_count}
use Rattle.gs_tree.specs.{Trees.{rules_of}, Walk.{last_count}}
use Rattle.gs_boards.specs.{Places.{AreWalkable}, declared.place.Place.{Place}}
use Rattle.gs_boards.proofs.{BoardRemainders.{AreFoldedBefore, AreFoldedBehind, AreSorted, are_sorted, both_folded, no_place}, Once.{apart_from}}
use Rattle.gs_boards.proofs.remainders.board_remainders.Goals as goal
use Rattle.gs_boards.proofs.remainders.board_remainders.Goals.{After-sort_places}

-- the board, as it is sorted
sorted : (c : After-sort_places) → AreSorted (rules_of c.args.signals.now) c.args.first c.sort_places.new.places.items
sorted c =
    are_sorted (rules_of c.args.signals.now) c.args.first c.requires.first c.in_ok-board.board.items c.sort_places.new.places.items
    c.in_ok-board.ensures.each c.in_ok-board.ensures.all c.sort_places.ensures.moved c.sort_places.ensures.rising

-- what both walks rely on
ready : (c : After-sort_places) (sums : List ℕ) → length sums ≡ last_count (rules_of c.args.signals.now) → (board : List Place)
    → board ≡ c.sort_places.new.places.items → AreWalkable board (length c.args.numbers.now) (length sums)
ready c sums long board is =
    let g : Game = rules_of c.args.signals.now in
    let b = subst (AreSorted g c.args.first) (sym is) (sorted c) in
    record {
      order = b.order;
      apart = apart_from b.on.whole.once;
      numbers = λ i d l. omega (arith, b.on.whole.once.within i d l, c.requires.numbers);
      sums = λ i d l. omega (arith, b.on.whole.once.within i d l, long);
      few = omega (arith, b.few, c.args.signals.now.game.now.limits.signals_in (round_count g) (omega arith));
    }

pub climb-requires : goal.climb-requires
climb-requires c = ready (goal.at.climb-requires c).After-sort_places c.args.sums.now c.requires.sums c.deref.result.now c.deref.ensures.value

pub descend-requires : goal.descend-requires
descend-requires c =
    ready (goal.at.descend-requires c).After-sort_places c.climb.new.sums (omega arith) c.deref-2.result.now c.deref-2.ensures.value

pub returns-clause-here : goal.returns-clause-here
returns-clause-here c =
    let numbers : List ℕ = c.args.numbers.now in
    both_folded (rules_of c.args.signals.now) c.args.first c.sort_places.new.places.items (sorted (goal.at.returns-clause-here c).After-sort_places).on
    c.requires.plain numbers c.climb.new.sums c.descend.new.sums
    (subst (AreFoldedBefore numbers c.climb.new.sums) c.deref.ensures.value c.climb.ensures.paid)
    (subst (AreFoldedBehind numbers c.climb.new.sums c.descend.new.sums) c.deref-2.ensures.value c.descend.ensures.paid)

pub returns-clause-others : goal.returns-clause-others
returns-clause-others c s l other =
    let board = sorted (goal.at.returns-clause-others c).After-sort_places in
    let P : List Place → Type 0 = All (λ (p : Place). p.signal ≡ s → ⊥) in
    let none = no_place (rules_of c.args.signals.now) c.args.first c.sort_places.new.places.items board.on s l other in
    c.descend.ensures.others s (subst P (sym c.deref-2.ensures.value) none) ∙ c.climb.ensures.others s (subst P (sym c.deref.ensures.value) none)

pub returns-in_err-board : goal.returns-in_err-board
returns-in_err-board c = let failed = c.from_residual.ensures.0 in record {
  here = IfOk-from_err _ _ failed;
  others = IfOk-from_err _ _ failed;
}
