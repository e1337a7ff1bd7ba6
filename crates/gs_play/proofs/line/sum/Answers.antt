use Rattle.std.proofs.{Common.{rules}, lemmas.Int.{wraps}}
use Rattle.gs_play.proofs.line.sum.Goals as goal

pub returns : goal.returns
returns c = record {
  at = search (rules, wraps);
  slope = search (rules, wraps);
}
