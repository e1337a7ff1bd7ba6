use Rattle.std.proofs.Common.{arith}
use Rattle.std.proofs.lemmas.Grind.{common_steps}
use Rattle.std.proofs.{Common.{rules, ◌∙◌, FitsSigned, to_z-of_z}, lemmas.List.{append-nil}}
use Rattle.std.specs.Int.{w64}
use Rattle.gs_simplex.proofs.Spread.{kept_more}
use Rattle.gs_simplex.proofs.sparse.Row.push.Goals as goal

pub returns-in_ok-push : goal.returns-in_ok-push
returns-in_ok-push c =
    let fits : FitsSigned w64 c.args.number = search rules in
    rw (c.in_ok-push.ensures.items, ← c.self.view_is, to_z-of_z {w = w64} {z = c.args.number} fits) (append-nil _ ∙ kept_more _ _ _)

pub returns-in_ok-self-inside : goal.returns-in_ok-self-inside
returns-in_ok-self-inside c = grind (arith, common_steps)
