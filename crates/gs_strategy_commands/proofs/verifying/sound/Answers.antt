use mir.Syntax.{w128}
use Rattle.std.proofs.{Common.{Err, ap, refl, sym, ◌∙◌, arith}, lemmas.Int.{to_z-of_z}}
use Rattle.gs_best.specs.Judged.{parts}
use Rattle.gs_certificate.specs.FaultTexts.{cert_fault_text}
use Rattle.gs_model.specs.Verdict.{IsValue}
use Rattle.gs_reply.specs.Refusals.{Bad_certificate}
use Rattle.gs_seq.specs.Plans.{lifted}
use Rattle.gs_strategy.specs.Views.{parts_of}
use Rattle.gs_strategy_commands.proofs.Moved.{bounds_moved, fault_moved, first_plan, moved, second_plan, sound_moved}
use Rattle.gs_strategy_commands.proofs.verifying.sound.Goals as goal

pub returns-in_ok-why-in-Err-Fault : goal.returns-in_ok-why-in-Err-Fault
returns-in_ok-why-in-Err-Fault c =
    let s = c.args.stored.now in
    let k = c.args.c.now in
    let why = c.in-Err-Fault.fault in (
      Bad_certificate (cert_fault_text why),
      record {
        lossless = c.requires.form.lossless;
        small = c.requires.form.small;
        why = why;
        fault = fault_moved c.args.form.now.lossless.now s k c.requires.form.held _ why (c.in-Err-Fault.is ∙ ap Err c.in-Err-Fault.field-0-is)
            c.certified_payoff.ensures.exact;
        told = refl;
      },
      ap Bad_certificate (sym c.in_ok-why-in-Err-Fault.ensures),
    )

pub returns-in_ok-bounds_text-in-Ok : goal.returns-in_ok-bounds_text-in-Ok
returns-in_ok-bounds_text-in-Ok c =
    let l = c.args.form.now.lossless.now in
    let s = c.args.stored.now in
    let k = c.args.c.now in
    let v = c.value_of-value.result in
    record {
      lossless = c.requires.form.lossless;
      small = c.requires.form.small;
      holds = record {
        small = c.requires.modest;
        sound = sound_moved l s k c.requires.form.held _ _ c.in-Ok.is c.certified_payoff.ensures.exact;
        bounds = bounds_moved l s k c.requires.form.held _ _ c.in-Ok.is c.certified_payoff.ensures.bounds;
      };
      value = parts_of v;
      fraction = v.reduced;
      value_is = moved (λ f n. IsValue f (lifted f n s.one) (lifted f n s.two) (parts v).0 (parts v).1) l s c.requires.form.held c.value_of-value.ensures;
      printed = c.in_ok-bounds_text-in-Ok.ensures;
    }

pub value_of-value-requires-clause-paid : goal.value_of-value-requires-clause-paid
value_of-value-requires-clause-paid c = to_z-of_z w128 c.in-Ok.paid (grind arith) ∙ c.in-Ok.ensures.paid

pub value_of-value-requires-clause-one : goal.value_of-value-requires-clause-one
value_of-value-requires-clause-one c = first_plan c.args.form.now.lossless.now c.args.stored.now c.requires.form.held

pub value_of-value-requires-clause-two : goal.value_of-value-requires-clause-two
value_of-value-requires-clause-two c = second_plan c.args.form.now.lossless.now c.args.stored.now c.requires.form.held

pub certified_payoff-requires-clause-small : goal.certified_payoff-requires-clause-small
certified_payoff-requires-clause-small c = c.requires.modest

pub certified_payoff-requires-clause-x : goal.certified_payoff-requires-clause-x
certified_payoff-requires-clause-x c = first_plan c.args.form.now.lossless.now c.args.stored.now c.requires.form.held

pub certified_payoff-requires-clause-y : goal.certified_payoff-requires-clause-y
certified_payoff-requires-clause-y c = second_plan c.args.form.now.lossless.now c.args.stored.now c.requires.form.held
