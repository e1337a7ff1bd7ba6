use Rattle.std.proofs.lemmas.List.{set_past}
use Rattle.std.proofs.Common.{sym, arith, ◌-◌, slice_index}
use Rattle.gs_tree.proofs.layer.take_copy.Goals as goal

pub returns-else-kind-len : goal.returns-else-kind-len
returns-else-kind-len c =
    sym (set_past c.args.rest.now.items c.args.kind (slice_index c.args.rest.now.items c.args.kind - 1)
    (omega (arith, c.len.ensures, c.if-kind-len.false, c.args.rest.now.ok.0)))
