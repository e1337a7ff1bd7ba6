use Rattle.std.proofs.lemmas.Grind.{common_steps}
use Rattle.std.proofs.Common.{◌≡◌, ℕ, ◌+◌, length, sym, subst, arith}
use Rattle.gs_simplex.specs.{Path.{PathStops, wide}, declared.answer.PathFault.{PathFault}, Table.{grid_of, IsHeld, stated}}
use Rattle.gs_simplex.specs.{State.{IsSoFar, IsPivoted, IsWidePivot}, Answer.{IsPathFault}}
use Rattle.gs_simplex.proofs.Paths.{rows_of_so_far, turn_at, none_of, if_none, pivots_stops, unbounded_stops, leaving_nonzero, pivot_next, pivot_wide}
use Rattle.gs_simplex.proofs.path.step.Goals as goal

pub choose-requires-clause-rows : goal.choose-requires-clause-rows
choose-requires-clause-rows c = rows_of_so_far c.requires.state.so_far

pub returns-in-Unbounded : goal.returns-in-Unbounded
returns-in-Unbounded c =
    let v = c.requires.state in let w = c.in-Unbounded.ensures in
    (c.requires.small, unbounded_stops c.args.made v.pairs v.so_far v.table c.requires.within w.0 w.1)

pub returns-then-made-limit : goal.returns-then-made-limit
returns-then-made-limit c =
    let p = c.args.p.now in let o = c.args.opening.now in let v = c.requires.state in let w = c.in-Leaves.ensures in
    let T : ℕ → Type 0 = λ k. IsSoFar p o (length o + k) c.args.basis.now (grid_of p c.args.table.now) in
    (c.requires.small, pivots_stops v.pairs (subst T c.if-made-limit.true v.so_far) v.table w.0 w.1.4)

pub returns-in-Some : goal.returns-in-Some
returns-in-Some c =
    let p = c.args.p.now in let o = c.args.opening.now in let v = c.requires.state in
    let w = c.in-Some.cell in let t = length o + c.args.made in let f = c.in-Leaves.ensures in
    let a : PathStops p o c.args.limit (wide (t + 1) (w.row + 1) (w.column + 1) (stated p w.row w.column w.number)) =
    pivot_wide c.in-Leaves.place (omega arith) v.pairs v.table v.so_far f.0 f.1 w.row w.column w.number c.in-Some.ensures.pivoted c.args.limit
    (omega (arith, c.requires.within, c.if-made-limit.false)) in
    let s : t + 1 ≡ p.rows + c.args.made + 1 = omega (arith, c.requires.task.opened.opens.long) in
    let Q : ℕ → Type 0 = λ k. PathStops p o c.args.limit (wide k (w.row + 1) (w.column + 1) (stated p w.row w.column w.number)) in
    let R : PathFault → Type 0 = λ x. IsPathFault p o c.args.limit x in
    subst R (sym c.wide_fault.ensures) (c.requires.small, subst Q s a)

pub returns-in_default : goal.returns-in_default
returns-in_default c =
    let p = c.args.p.now in let o = c.args.opening.now in let l = c.args.basis.now in let e = c.in-Leaves.column in let v = c.requires.state in
    let grid = grid_of p c.args.table.now in let t = length o + c.args.made in let next = c.pivot.new.basis in let q = c.in-Leaves.place in
    let new = grid_of p c.pivot.new.table in let f = c.in-Leaves.ensures in
    let w : IsPivoted p l next grid new q e = none_of c.pivot.result (IsPivoted p l next grid new q e)
    (λ x. IsWidePivot p l grid q e x.row x.column x.number) c.in_default.is c.pivot.ensures.pivoted in
    let n = pivot_next q (omega arith) v.pairs v.table v.so_far f.0 f.1 next new w in
    let s : t + 1 ≡ length o + (c.args.made + 1) = omega arith in
    let T : ℕ → Type 0 = λ k. IsSoFar p o k next new in
    record {
      state = record {
        laid = if_none c.pivot.result (IsHeld p c.pivot.new.table) c.in_default.is c.pivot.ensures.laid;
        table = n.0;
        pairs = n.1;
        so_far = subst T s n.2;
      };
      within = omega (arith, c.requires.within, c.if-made-limit.false);
      pivot = turn_at c.args.made q (c.pair_at-leaving.result.0) (c.pair_at-leaving.result.1) c.requires.task.opened.opens v.pairs v.so_far f.0 f.1
          c.pair_at-leaving.ensures.pair n.2;
    }

pub returns-in-Ends : goal.returns-in-Ends
returns-in-Ends c = grind arith

pub pivot-requires-clause-rises : goal.pivot-requires-clause-rises
pivot-requires-clause-rises c = leaving_nonzero c.in-Leaves.place c.in-Leaves.ensures.1

pub choose-requires-clause-shaped : goal.choose-requires-clause-shaped
choose-requires-clause-shaped c = c.requires.task.opened.shaped

pub pivot-requires-clause-table : goal.pivot-requires-clause-table
pivot-requires-clause-table c = c.requires.state.table

pub wide_fault-requires : goal.wide_fault-requires
wide_fault-requires c = grind (arith, common_steps)

pub overflow_cast-result-in-Leaves-2 : goal.overflow_cast-result-in-Leaves-2
overflow_cast-result-in-Leaves-2 c = omega arith

pub overflow_add-p : goal.overflow_add-p
overflow_add-p c = omega arith

pub pivot-requires-clause-small_rows : goal.pivot-requires-clause-small_rows
pivot-requires-clause-small_rows c = c.requires.task.opened.small_rows

pub pivot-requires-clause-small_cols : goal.pivot-requires-clause-small_cols
pivot-requires-clause-small_cols c = c.requires.task.opened.small_cols
