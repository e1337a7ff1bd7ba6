use Rattle.std.proofs.{Common.{to_z, w64, sym, ap, ◌∙◌}, lemmas.Int.{to_z-of_z}}
use Rattle.gs_simplex.specs.Numbers.{at}
use Rattle.gs_simplex.proofs.Supports.{change_of_row, change_of_lead}
use Rattle.gs_simplex.proofs.row.touched.Goals as goal

pub returns-then-own-eq1 : goal.returns-then-own-eq1
returns-then-own-eq1 c = λ row far u.
    let l = c.args.lead.now in
    change_of_lead _ _ _ row (at l.numbers.now) c.args.own far (sym (to_z-of_z w64 c.args.own c.ranges.own) ∙ ap (to_z w64) c.if-own-eq1.true) l.support

pub returns : goal.returns
returns c = λ row far u. change_of_row _ _ _ row (at c.args.lead.now.numbers.now) c.args.own far u
