use Rattle.std.proofs.Common.{sym, subst, arith}
use Rattle.gs_seq.specs.Abstracts.{abstract_frame, lists_of}
use Rattle.gs_seq.proofs.Forms.{form_walked}
use Rattle.gs_best.specs.Sizes.{IsRoomy}
use Rattle.gs_best.proofs.Rooms.{roomy}
use Rattle.gs_best.proofs.work.Work.new.Goals as goal

pub invariant_of-result : goal.invariant_of-result
invariant_of-result c =
    let a = c.args.form.now in
    subst (λ l. IsRoomy l c.in_ok-table.table c.in_ok-table.scratch) (sym c.in_ok-sizes.ensures)
    (roomy (abstract_frame a) (lists_of a) (form_walked a 1 (omega arith) (omega arith)) c.in_ok-table.table c.in_ok-table.scratch
    c.in_ok-table.ensures.laid.holds c.in_ok-table.ensures.rows)
