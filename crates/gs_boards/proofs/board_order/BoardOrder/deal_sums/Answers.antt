use Rattle.std.proofs.Common.{ℕ, List, subst, sym, arith}
use Rattle.gs_model.specs.Game.{Game}
use Rattle.gs_tree.specs.Trees.{rules_of}
use Rattle.gs_boards.specs.{Places.{AreApart, AreInOrder}, declared.place.Place.{Place}}
use Rattle.gs_boards.proofs.Deals.{ArePaidBefore, ArePaidBehind, are_apart, both_ways}
use Rattle.gs_boards.proofs.board_order.BoardOrder.deal_sums.Goals as goal

pub climb-requires : goal.climb-requires
climb-requires c = record {
  order = subst AreInOrder (sym c.deref.ensures.value) c.args.self.now.placed.order;
  apart = subst AreApart (sym c.deref.ensures.value) (are_apart (rules_of c.args.self.now.signals.now) c.args.self.now.places.items c.args.self.now.placed);
  numbers = grind arith;
  sums = grind arith;
  few = grind arith;
}

pub descend-requires : goal.descend-requires
descend-requires c = record {
  walkable = record {
    order = subst AreInOrder (sym c.deref-2.ensures.value) c.args.self.now.placed.order;
    apart = subst AreApart (sym c.deref-2.ensures.value) (are_apart (rules_of c.args.self.now.signals.now) c.args.self.now.places.items c.args.self.now.placed);
    numbers = grind arith;
    sums = grind arith;
    few = grind arith;
  };
  small = grind arith;
}

pub returns : goal.returns
returns c =
    let g : Game = rules_of c.args.self.now.signals.now in
    let places : List Place = c.args.self.now.places.items in
    let numbers : List ℕ = c.args.numbers.now in
    both_ways g c.args.self.now.plain places c.args.self.now.placed c.args.pays numbers c.climb.new.sums c.descend.new.sums
    (subst (λ (qs : List Place). ArePaidBefore qs c.args.pays numbers c.climb.new.sums) c.deref.ensures.value c.climb.ensures.paid)
    (subst (λ (qs : List Place). ArePaidBehind qs c.args.pays numbers c.climb.new.sums c.descend.new.sums) c.deref-2.ensures.value c.descend.ensures)
