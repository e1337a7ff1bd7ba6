use Rattle.std.proofs.Common.{◌≡◌, List, ℤ, ap, arith}
use Rattle.std.proofs.lemmas.Grind.{common_steps}
use Rattle.gs_simplex.specs.{declared.sparse.Program.{Program}, Numbers.{at}, Program.{number}}
use Rattle.gs_tests_strategies.proofs.Checks.{row_is}
use Rattle.gs_tests_strategies.proofs.openings.number_in.Goals as goal

pub index-requires : goal.index-requires
index-requires c =
    let row = row_is c.args.p.now c.p.inside.numbers.items c.args.row c.index-numbers.result.now (ap (λ (x : Program). x.parts.numbers) c.p.view_is)
    c.requires.shaped c.requires.row c.index-numbers.ensures in
    omega (arith, c.requires.column, row.1)

pub returns : goal.returns
returns c =
    let row = row_is c.args.p.now c.p.inside.numbers.items c.args.row c.index-numbers.result.now (ap (λ (x : Program). x.parts.numbers) c.p.view_is)
    c.requires.shaped c.requires.row c.index-numbers.ensures in
    let e : at c.index-numbers.result.now.items c.args.column ≡ number c.args.p.now c.args.row c.args.column =
    ap (λ (xs : List ℤ). at xs c.args.column) row.0 in
    grind (arith, common_steps)
