use Rattle.std.proofs.{Common.{◌≡◌, true, List, get_or, set, arith, subst, sym, below_more}, lemmas.Grind.{common_steps}}
use Rattle.gs_match.specs.{declared.search.Visit.{Visit}, Search.{IsTree, Extends, is_reached}}
use Rattle.gs_model.specs.Rows.{rows}
use Rattle.gs_match.proofs.{SearchLaws.{extends_refl}, RowLaws.{right_in, near_now, reached_in, all_seen, turn_tree, turn_extends, turn_seen}}
use Rattle.gs_match.proofs.search.visit_row.Goals as goal

pub loop-right-init : goal.loop-right-init
loop-right-init c = record { tree = c.requires.tree; extends = extends_refl c.args.visits.now.items c.args.reached.now; seen = λ k l. absurd (omega arith) }

pub bounds-reached-right : goal.bounds-reached-right
bounds-reached-right c = reached_in c.args.adjacent.now c.args.holders.now c.args.visits.now.items c.args.reached.now c.args.place c.index.result.now
    c.index-adjacent-left.result c.deref-right-items.result.now c.requires.place c.requires.rows c.requires.left c.requires.matching c.index.ensures
    c.index-adjacent-left.is c.deref-right-items.ensures.value c.loop-right.visits.items c.loop-right.reached c.loop-right.invariant.tree
    c.loop-right.invariant.extends c.loop-right.right-index c.loop-right-test.true

pub loop-right-preserved-then-reached-right : goal.loop-right-preserved-then-reached-right
loop-right-preserved-then-reached-right c = record {
  tree = c.loop-right.invariant.tree;
  extends = c.loop-right.invariant.extends;
  seen = below_more (λ k. is_reached c.loop-right.reached (get_or c.deref-right-items.result.now k 0) ≡ true) c.loop-right.right-index
      c.loop-right.invariant.seen c.if-reached-right.true;
}

pub bounds : goal.bounds
bounds c = right_in c.args.adjacent.now c.args.holders.now c.args.visits.now.items c.args.reached.now c.args.place c.index.result.now
    c.index-adjacent-left.result c.deref-right-items.result.now c.requires.place c.requires.rows c.requires.left c.requires.matching c.index.ensures
    c.index-adjacent-left.is c.deref-right-items.ensures.value c.loop-right.right-index c.loop-right-test.true

pub returns-in-None-clause-end : goal.returns-in-None-clause-end
returns-in-None-clause-end c = (
  c.in-None.is,
  right_in c.args.adjacent.now c.args.holders.now c.args.visits.now.items c.args.reached.now c.args.place c.index.result.now c.index-adjacent-left.result
      c.deref-right-items.result.now c.requires.place c.requires.rows c.requires.left c.requires.matching c.index.ensures c.index-adjacent-left.is
      c.deref-right-items.ensures.value c.loop-right.right-index c.loop-right-test.true,
  near_now c.args.adjacent.now c.args.holders.now c.args.visits.now.items c.args.reached.now c.args.place c.index.result.now c.index-adjacent-left.result
      c.deref-right-items.result.now c.requires.place c.requires.rows c.requires.left c.requires.matching c.index.ensures c.index-adjacent-left.is
      c.deref-right-items.ensures.value c.loop-right.visits.items c.loop-right.reached c.loop-right.invariant.tree c.loop-right.invariant.extends
      c.loop-right.right-index c.loop-right-test.true,
)

pub loop-right-preserved : goal.loop-right-preserved
loop-right-preserved c =
    let items = c.in_ok-push-in-Some.ensures.items in
    record {
      tree = subst (λ (vs : List Visit). IsTree (rows c.args.adjacent.now) c.args.holders.now vs
          (set c.loop-right.reached (get_or c.deref-right-items.result.now c.loop-right.right-index 0) true)) (sym items)
          (turn_tree c.args.adjacent.now c.args.holders.now c.args.visits.now.items c.args.reached.now c.args.place c.index.result.now
          c.index-adjacent-left.result c.deref-right-items.result.now c.requires.place c.requires.rows c.requires.left c.requires.matching c.index.ensures
          c.index-adjacent-left.is c.deref-right-items.ensures.value c.loop-right.visits.items c.loop-right.reached c.loop-right.invariant.tree
          c.loop-right.invariant.extends c.loop-right.right-index c.in-Some.left c.loop-right-test.true c.if-reached-right.false c.in-Some.is
          c.loop-right.invariant.seen);
      extends = subst (λ (vs : List Visit). Extends c.args.visits.now.items c.args.reached.now vs
          (set c.loop-right.reached (get_or c.deref-right-items.result.now c.loop-right.right-index 0) true)) (sym items)
          (turn_extends c.args.adjacent.now c.args.holders.now c.args.visits.now.items c.args.reached.now c.args.place c.index.result.now
          c.index-adjacent-left.result c.deref-right-items.result.now c.requires.place c.requires.rows c.requires.left c.requires.matching c.index.ensures
          c.index-adjacent-left.is c.deref-right-items.ensures.value c.loop-right.visits.items c.loop-right.reached c.loop-right.invariant.tree
          c.loop-right.invariant.extends c.loop-right.right-index c.in-Some.left c.loop-right-test.true c.if-reached-right.false c.in-Some.is
          c.loop-right.invariant.seen);
      seen = turn_seen c.args.adjacent.now c.args.holders.now c.args.visits.now.items c.args.reached.now c.args.place c.index.result.now
          c.index-adjacent-left.result c.deref-right-items.result.now c.requires.place c.requires.rows c.requires.left c.requires.matching c.index.ensures
          c.index-adjacent-left.is c.deref-right-items.ensures.value c.loop-right.visits.items c.loop-right.reached c.loop-right.invariant.tree
          c.loop-right.invariant.extends c.loop-right.right-index c.in-Some.left c.loop-right-test.true c.if-reached-right.false c.in-Some.is
          c.loop-right.invariant.seen;
    }

pub returns-clause-end : goal.returns-clause-end
returns-clause-end c = all_seen c.args.adjacent.now c.args.holders.now c.args.visits.now.items c.args.reached.now c.args.place c.index.result.now
    c.index-adjacent-left.result c.deref-right-items.result.now c.requires.place c.requires.rows c.requires.left c.requires.matching c.index.ensures
    c.index-adjacent-left.is c.deref-right-items.ensures.value c.loop-right.visits.items c.loop-right.reached c.loop-right.invariant.tree
    c.loop-right.invariant.extends (λ k l. c.loop-right.invariant.seen k (omega arith))

pub bounds-reached-right-in-Some : goal.bounds-reached-right-in-Some
bounds-reached-right-in-Some c = grind (arith, common_steps)

pub bounds-holders : goal.bounds-holders
bounds-holders c = grind (arith, common_steps)

pub returns-in-None-clause-tree : goal.returns-in-None-clause-tree
returns-in-None-clause-tree c = c.loop-right.invariant.tree

pub returns-in-None-clause-extends : goal.returns-in-None-clause-extends
returns-in-None-clause-extends c = c.loop-right.invariant.extends
