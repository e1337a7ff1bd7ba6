use Rattle.std.proofs.Common.{◌∙◌, inl, inr, subst}
use Rattle.gs_run.specs.Told.{TellsTo}
use Rattle.gs_run.proofs.runs.tell_refusal.Goals as goal

pub returns-in-Ok : goal.returns-in-Ok
returns-in-Ok g c why is =
    let line = c.deref.ensures.value ∙ c.in-Ok.ensures why is in
    inl (c.of.ensures why is, subst (TellsTo _ _ _ _) line c.tell.ensures)

pub returns-in-Err : goal.returns-in-Err
returns-in-Err g c why is = inr (c.out_of_memory.ensures.status, c.out_of_memory.ensures.told)
