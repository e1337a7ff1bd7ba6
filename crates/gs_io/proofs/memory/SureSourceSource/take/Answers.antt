use Rattle.std.proofs.{Common.{arith}, lemmas.Grind.{common_steps}}
use Rattle.gs_io.proofs.Known.{copied_front}
use Rattle.gs_io.proofs.memory.SureSourceSource.take.Goals as goal

pub returns-clause-exact : goal.returns-clause-exact
returns-clause-exact c = grind (arith, common_steps)

pub returns-clause-bytes : goal.returns-clause-bytes
returns-clause-bytes c =
    let s = c.self.inside in
    copied_front s.bytes.items c.deref.result.now c.copy_front-count.new.into c.args.self.now s.at c.copy_front-count.result _ _ c.deref.ensures.value
    c.self.view_is c.requires (omega (arith, c.requires)) c.copy_front-count.ensures.count c.copy_front-count.ensures.copied
