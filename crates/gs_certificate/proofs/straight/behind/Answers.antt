use Rattle.std.proofs.{Common.{Some}, lemmas.Bool.Decides.{Decides-eqb}, lemmas.Slice.Eq.{strip_prefix_is}}
use Rattle.gs_certificate.proofs.straight.behind.Goals as goal

pub returns-in-Some : goal.returns-in-Some
returns-in-Some c = strip_prefix_is Decides-eqb c.args.bytes.now c.args.front.now (Some c.in-Some.rest) c.in-Some.ensures.cases
