use Rattle.std.proofs.{Common.{None, arith, ap}, lemmas.Grind.{common_steps}}
use Rattle.gs_game.specs.declared.positions.End.{End}
use Rattle.gs_game.specs.declared.positions.EndKind.TheVariants as kinds
use Rattle.gs_seq.specs.{Abstracts.{abstract_frame}, Games.{frame_in}}
use Rattle.gs_seq.proofs.Forms.{end_in_frame, given_in, round_in_frame}
use Rattle.gs_seq.proofs.form.Abstract.end_in.Goals as goal

abbrev none : End
none = record { round = 0; kind = kinds.Folded1; put = 0; one = None; two = None }

pub returns-clause-value : goal.returns-clause-value
returns-clause-value c = end_in_frame c.game.result.now (abstract_frame c.args.self.now) c.ends.result.now c.args.end none
    (ap frame_in c.game.ensures) c.ends.ensures c.requires

pub returns-clause-round : goal.returns-clause-round
returns-clause-round c = round_in_frame c.game.result.now (abstract_frame c.args.self.now) c.ends.result.now c.args.end none
    (ap frame_in c.game.ensures) c.ends.ensures c.requires

pub returns-clause-some : goal.returns-clause-some
returns-clause-some c =
    let w = (given_in c.args.self.now).walked 1 (omega arith) (omega arith) in
    omega (arith, returns-clause-round c, w.end_round c.args.end c.requires)

pub returns-clause-top : goal.returns-clause-top
returns-clause-top c =
    let w = (given_in c.args.self.now).walked 1 (omega arith) (omega arith) in
    omega (arith, returns-clause-round c, w.end_in c.args.end c.requires)

pub bounds-ends-end : goal.bounds-ends-end
bounds-ends-end c = grind (arith, common_steps)
