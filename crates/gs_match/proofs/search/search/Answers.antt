use Rattle.std.proofs.{lemmas.Grind.{common_steps}, lemmas.List.{take_at}}
use Rattle.std.proofs.{Common.{◌≡◌, ◌+◌, ◌++◌, ℕ, Bool, List, length, take, drop, arith, subst, sym, ap, ◌∙◌, ⊎_elim, None, Option}, lemmas.Bool.{cases_eq}}
use Rattle.gs_match.specs.{declared.search.Visit.{Visit}, Adjacency.{Near}, Search.{IsTree, Extends, IsRowEnd, AreExplored, visit}}
use Rattle.gs_model.specs.Rows.{rows}
use Rattle.gs_match.proofs.SearchLaws.{explored_more}
use Rattle.gs_match.proofs.search.search.Goals as goal

pub loop-place-preserved : goal.loop-place-preserved
loop-place-preserved c =
    let old = c.loop-place.reached.items in
    let new = c.visit_row.new.reached in
    let n : length new ≡ c.loop-place.reached.len = omega (arith, c.loop-place.reached.ok.0) in
    let same : take c.loop-place.reached.len (new ++ drop (length new) old) ≡ new = take_at new (drop (length new) old) c.loop-place.reached.len n in
    let ext : Extends c.loop-place.visits.items old c.visit_row.new.visits.items new =
    subst (λ (rs : List Bool). Extends c.loop-place.visits.items rs c.visit_row.new.visits.items new) c.deref_mut.ensures.value c.in_ok-right.ensures.extends in
    let len = c.len.ensures in
    let ok = c.loop-place.visits.ok.0 in
    let longer = ext.longer in
    let within = c.loop-place-test.true in
    let row : IsRowEnd (rows c.args.adjacent.now) c.args.holders.now c.visit_row.new.visits.items new c.loop-place.place None =
    subst (λ (o : Option ℕ). IsRowEnd (rows c.args.adjacent.now) c.args.holders.now c.visit_row.new.visits.items new c.loop-place.place o) c.in_default.is
    c.in_ok-right.ensures.end in
    let explored : AreExplored (rows c.args.adjacent.now) c.visit_row.new.visits.items new (c.loop-place.place + 1) = λ k b lt near. ⊎_elim
    (λ (e : k ≡ c.loop-place.place). row b (subst (λ j. Near (rows c.args.adjacent.now) (visit c.visit_row.new.visits.items j).left b) e near))
    (λ ne. explored_more (rows c.args.adjacent.now) c.loop-place.visits.items old c.visit_row.new.visits.items new c.loop-place.place
    c.loop-place.invariant.within ext c.loop-place.invariant.explored k b (omega (arith, lt, ne)) near)
    (cases_eq k c.loop-place.place) in
    record {
      within = omega (arith, within, len, ok, longer);
      root = ap (λ (v : Visit). v.left) (ext.kept 0 c.loop-place.invariant.tree.some) ∙ c.loop-place.invariant.root;
      tree = subst (λ (rs : List Bool). IsTree (rows c.args.adjacent.now) c.args.holders.now c.visit_row.new.visits.items rs)
          (sym same) c.in_ok-right.ensures.tree;
      explored = subst (λ (rs : List Bool). AreExplored (rows c.args.adjacent.now) c.visit_row.new.visits.items rs (c.loop-place.place + 1))
          (sym same) explored;
    }

pub returns : goal.returns
returns c =
    let n = c.len.ensures in
    let ok = c.loop-place.visits.ok.0 in
    let t = c.loop-place-test.false in (
      c.loop-place.invariant.root,
      record {
        reached = c.loop-place.reached.items;
        tree = c.loop-place.invariant.tree;
        explored = λ k b lt near. c.loop-place.invariant.explored k b
            (omega (arith, lt, t, n, ok)) near;
      },
    )

pub returns-in-Some : goal.returns-in-Some
returns-in-Some c = grind arith

pub visit_row-requires-clause-rows : goal.visit_row-requires-clause-rows
visit_row-requires-clause-rows c = grind arith

pub visit_row-requires-clause-left : goal.visit_row-requires-clause-left
visit_row-requires-clause-left c = grind arith

pub visit_row-requires-clause-matching : goal.visit_row-requires-clause-matching
visit_row-requires-clause-matching c = grind arith

pub visit_row-requires-clause-tree : goal.visit_row-requires-clause-tree
visit_row-requires-clause-tree c = grind arith

pub loop-place-smaller : goal.loop-place-smaller
loop-place-smaller c = grind (arith, common_steps)

pub loop-place-init : goal.loop-place-init
loop-place-init c = grind (arith, common_steps)

pub overflow_add-place : goal.overflow_add-place
overflow_add-place c = omega (arith, c.loop-place-test.true, c.len.type_inv)
