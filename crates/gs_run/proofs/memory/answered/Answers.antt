use Rattle.std.proofs.{Common.{rules}, lemmas.Result.{IfOk-weaker}}
use Rattle.gs_reply.specs.Replies.{Refuses}
use Rattle.gs_run.proofs.memory.answered.Goals as goal

pub returns-in-Ok : goal.returns-in-Ok
returns-in-Ok c = search rules

pub returns-in-Err-Refused : goal.returns-in-Err-Refused
returns-in-Err-Refused c =
    let said = rw c.in-Err-Refused.field-0-is at c.in-Err-Refused.ensures in
    IfOk-weaker c.refused.result _ _ (λ o given. (Refuses said.0, said.1, given said.0 said.2)) c.refused.ensures
