use Rattle.gs_game.proofs.Deciding.{lines_over, lines_within}
use Rattle.gs_game.proofs.betting.check_lines.Goals as goal

pub returns-then-count-gt8192 : goal.returns-then-count-gt8192
returns-then-count-gt8192 c = lines_over c.args.game.now c.count_lines-count.result (rw c.deref.ensures.value at c.count_lines-count.ensures)
    c.if-count-gt8192.true

pub returns : goal.returns
returns c = lines_within c.args.game.now c.count_lines-count.result (rw c.deref.ensures.value at c.count_lines-count.ensures) c.if-count-gt8192.false
