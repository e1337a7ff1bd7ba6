use Rattle.gs_best.specs.Rows.{IsFirstGreatest}
use Rattle.gs_play.specs.Lines.{line_at, value_in}
use Rattle.gs_play.proofs.choosing.first_greatest.Given as goal

abbrev pub invariant-loop-place : goal.invariant-loop-place
invariant-loop-place l = IsFirstGreatest (λ m. value_in (line_at l.lines m) l.now) l.place l.most l.best
