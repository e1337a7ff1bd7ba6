use Rattle.gs_simplex.specs.Table.{grid_of}
use Rattle.gs_simplex.proofs.Paths.{none_enters_from, enters_from}
use Rattle.gs_simplex.proofs.path.choose.Goals as goal

pub returns-in_default : goal.returns-in_default
returns-in_default c = let p = c.args.p.now in none_enters_from p (grid_of p c.args.table.now) c.args.basis.now c.in_default.ensures

pub returns-in-Some-leaving : goal.returns-in-Some-leaving
returns-in-Some-leaving c =
    let p = c.args.p.now in let w = c.in-Some.ensures in
    (enters_from p (grid_of p c.args.table.now) c.args.basis.now c.in-Some.column c.requires.rows w.0 w.1 w.2, c.in-Some-leaving.ensures)

pub returns-in-None : goal.returns-in-None
returns-in-None c =
    let p = c.args.p.now in let w = c.in-Some.ensures in
    (enters_from p (grid_of p c.args.table.now) c.args.basis.now c.in-Some.column c.requires.rows w.0 w.1 w.2, c.in-None.ensures)

pub leaving-requires-clause-shaped : goal.leaving-requires-clause-shaped
leaving-requires-clause-shaped c = c.requires.shaped
