use Rattle.std.proofs.Common.{arith}
use Rattle.std.proofs.lemmas.Result.{err_from_is_err_and}
use Rattle.gs_game.proofs.Deciding.{evens_fault, uneven_fault, put_fault, lines_fault, evens_pass, betting_fine}
use Rattle.gs_game.proofs.betting.check_betting.Goals as goal

pub returns-in_err-check_evens : goal.returns-in_err-check_evens
returns-in_err-check_evens c =
    let p = err_from_is_err_and c.from_residual.result c.from_residual.ensures.1 in
    rw (p.1, p.2) (evens_fault c.args.game.now c.deref.result.now c.in_err-check_evens.field-0.0 c.deref.ensures.value c.in_err-check_evens.ensures)

pub returns-in_err-check_uneven : goal.returns-in_err-check_uneven
returns-in_err-check_uneven c =
    let p = err_from_is_err_and c.from_residual-in_err-check_uneven.result c.from_residual-in_err-check_uneven.ensures.1 in
    rw (p.1, p.2) (uneven_fault c.args.game.now c.deref.result.now c.deref-2.result.now c.in_err-check_uneven.field-0.0 c.deref.ensures.value
    c.in_ok-check_evens.ensures c.deref-2.ensures.value c.in_err-check_uneven.ensures)

pub returns-in_err-check_put : goal.returns-in_err-check_put
returns-in_err-check_put c =
    let p = err_from_is_err_and c.from_residual-in_err-check_put.result c.from_residual-in_err-check_put.ensures.1 in
    let pass = evens_pass c.args.game.now c.deref.result.now c.deref-2.result.now c.deref.ensures.value c.in_ok-check_evens.ensures c.deref-2.ensures.value
    c.in_ok-check_uneven.ensures in
    rw (p.1, p.2) (put_fault c.args.game.now c.in_err-check_put.field-0.0 pass c.in_err-check_put.ensures)

pub returns-in_err-check_lines : goal.returns-in_err-check_lines
returns-in_err-check_lines c =
    let p = err_from_is_err_and c.from_residual-in_err-check_lines.result c.from_residual-in_err-check_lines.ensures.1 in
    let pass = evens_pass c.args.game.now c.deref.result.now c.deref-2.result.now c.deref.ensures.value c.in_ok-check_evens.ensures c.deref-2.ensures.value
    c.in_ok-check_uneven.ensures in
    rw (p.1, p.2) (lines_fault c.args.game.now c.in_err-check_lines.field-0.0 pass c.in_ok-check_put.ensures c.in_err-check_lines.ensures)

pub returns : goal.returns
returns c =
    let pass = evens_pass c.args.game.now c.deref.result.now c.deref-2.result.now c.deref.ensures.value c.in_ok-check_evens.ensures c.deref-2.ensures.value
    c.in_ok-check_uneven.ensures in
    betting_fine c.args.game.now pass c.in_ok-check_put.ensures c.in_ok-check_lines.ensures

pub check_put-requires-clause-even : goal.check_put-requires-clause-even
check_put-requires-clause-even c = grind arith
