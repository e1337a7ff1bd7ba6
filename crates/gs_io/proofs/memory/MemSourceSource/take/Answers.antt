use Rattle.std.proofs.{Common.{ap, arith}, lemmas.Grind.{common_steps}}
use Rattle.gs_io.specs.Memory.{Reading}
use Rattle.gs_io.proofs.Known.{copied_front}
use Rattle.gs_io.proofs.memory.MemSourceSource.take.Goals as goal

pub returns-clause-exact : goal.returns-clause-exact
returns-clause-exact c = grind (arith, common_steps)

pub returns-clause-bytes : goal.returns-clause-bytes
returns-clause-bytes c =
    let s = c.self.inside in
    copied_front s.bytes.items c.deref-2.result.now c.copy_front-count.new.into c.args.self.now.left s.at c.copy_front-count.result _ _
    c.deref-2.ensures.value (ap (λ (r : Reading). r.left) c.self.view_is) c.requires (omega (arith, c.self.invariant)) c.copy_front-count.ensures.count
    c.copy_front-count.ensures.copied
