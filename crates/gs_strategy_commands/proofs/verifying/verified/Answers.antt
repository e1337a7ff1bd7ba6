use Rattle.std.proofs.Common.{ap, inl, inr, refl, sym}
use Rattle.gs_certificate.specs.FaultTexts.{cert_text_fault_text}
use Rattle.gs_reply.proofs.Refused.{answers_more}
use Rattle.gs_reply.specs.Refusals.{Bad_certificate}
use Rattle.gs_strategy.specs.Views.{stored_view}
use Rattle.gs_strategy_commands.specs.Verifying.{SaysChecked, SaysVerified}
use Rattle.gs_strategy_commands.proofs.verifying.verified.Goals as goal

pub returns-in-Ok : goal.returns-in-Ok
returns-in-Ok c =
    let s = stored_view c.args.stored.now in
    let k = c.in-Ok.c in
    answers_more (SaysChecked s k) (SaysVerified c.args.bytes.now s)
    (λ r said. inr (k, record { text = c.in-Ok.ensures.found; small = c.in-Ok.ensures.small }, said)) c.checked.result c.checked.ensures

pub returns-in_ok-told-in-Err-Fault : goal.returns-in_ok-told-in-Err-Fault
returns-in_ok-told-in-Err-Fault c =
    let why = c.in-Err-Fault.fault in (
      Bad_certificate (cert_text_fault_text why),
      inl (record { why = why; reads = rw c.in-Err-Fault.field-0-is at c.in-Err-Fault.ensures.exact; told = refl }),
      ap Bad_certificate (sym c.in_ok-told-in-Err-Fault.ensures),
    )
