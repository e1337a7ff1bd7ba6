use Rattle.std.proofs.{Common.{◌+◌, sym, subst, arith}, lemmas.Grind.{elements}}
use Rattle.gs_simplex.specs.{declared.answer.PathFault.{PathFault}, Table.{grid_of, IsHeld, IsTableAfter, IsWideAfter}, Answer.{IsPathFault}}
use Rattle.gs_simplex.proofs.Paths.{so_far_start, none_of, if_none, open_nonzero, open_wide, open_pairs, open_next, opening_pairs, empty_pairs}
use Rattle.gs_simplex.proofs.path.open.Goals as goal

pub loop-step-init : goal.loop-step-init
loop-step-init c =
    let s = c.requires.start in let p = c.args.p.now in
    record {
      laid = s.laid;
      table = s.table;
      pairs = empty_pairs p;
      so_far = so_far_start p c.args.opening.now (grid_of p c.args.table.now) s.rows;
    }

pub pair_at-row-requires-clause-pairs : goal.pair_at-row-requires-clause-pairs
pair_at-row-requires-clause-pairs c = opening_pairs c.requires.opened.opens

pub list-requires-clause-nonzero : goal.list-requires-clause-nonzero
list-requires-clause-nonzero c =
    let v = c.loop-step.invariant in
    open_nonzero c.pair_at-row.result.0 c.pair_at-row.result.1 c.requires.opened.opens c.loop-step-test.true c.pair_at-row.ensures.pair v.table v.so_far

pub returns-in-Some : goal.returns-in-Some
returns-in-Some c = λ limit.
    let v = c.loop-step.invariant in let w = c.in-Some.cell in
    let P : PathFault → Type 0 = λ x. IsPathFault c.args.p.now c.args.opening.now limit x in
    subst P (sym c.wide_fault.ensures) (
      c.requires.small,
      open_wide c.pair_at-row.result.0 c.pair_at-row.result.1 c.requires.opened.opens c.loop-step-test.true c.pair_at-row.ensures.pair v.table v.so_far w.row
          w.column w.number
          c.in-Some.ensures.listed limit,
    )

pub loop-step-preserved : goal.loop-step-preserved
loop-step-preserved c =
    let p = c.args.p.now in let o = c.args.opening.now in let t = c.loop-step.step in let v = c.loop-step.invariant in
    let r = c.pair_at-row.result.0 in let k = c.pair_at-row.result.1 in let grid = grid_of p c.loop-step.table in let new = grid_of p c.list.new.self in
    let a : IsTableAfter p grid new r k = none_of c.list.result (IsTableAfter p grid new r k) (λ w. IsWideAfter p grid r k w.row w.column w.number)
    c.in_default.is
    c.list.ensures.listed in
    record {
      laid = if_none c.list.result (IsHeld p c.list.new.self) c.in_default.is c.list.ensures.laid;
      table = a.table;
      pairs = open_pairs r k c.requires.opened.opens c.loop-step-test.true c.pair_at-row.ensures.pair v.table v.so_far (t + 1) (omega (arith, c.loop-step-test.true));
      so_far = open_next r k c.requires.opened.opens c.loop-step-test.true c.pair_at-row.ensures.pair v.table v.so_far new a;
    }

pub returns : goal.returns
returns c = grind (arith, elements)

pub list-requires-clause-table : goal.list-requires-clause-table
list-requires-clause-table c = grind arith

pub wide_fault-requires-clause-small_rows : goal.wide_fault-requires-clause-small_rows
wide_fault-requires-clause-small_rows c = c.requires.opened.small_rows

pub wide_fault-requires-clause-small_cols : goal.wide_fault-requires-clause-small_cols
wide_fault-requires-clause-small_cols c = c.requires.opened.small_cols
