use Rattle.std.proofs.lemmas.Grind.{common_steps}
use Rattle.std.specs.Prelude.{unwrap_or}
use Rattle.std.proofs.Common.{Bor, subst, ap, arith, refl}
use Rattle.gs_seq.specs.{Abstracts.{abstract_frame, lists_of}, Plans.{class_plan}}
use Rattle.gs_seq.proofs.Signed.{read_back}
use Rattle.gs_certificate.specs.{Paid.{AreSumsPaid}, declared.ends.EndSums.{EndSums}}
use Rattle.gs_certificate.proofs.checking.certified_payoff.Goals as goal

pub returns-clause-bounds : goal.returns-clause-bounds
returns-clause-bounds c = c.in-None.ensures.bounds refl

pub plans_pay-requires : goal.plans_pay-requires
plans_pay-requires c = grind (arith, common_steps)

pub returns-clause-paid : goal.returns-clause-paid
returns-clause-paid c = read_back c.plans_pay.result _ (record { sfits = c.plans_pay.type_inv }) c.plans_pay.ensures

pub returns-clause-exact : goal.returns-clause-exact
returns-clause-exact c = c.in-None.ensures.exact

pub fault_by-requires-clause-small : goal.fault_by-requires-clause-small
fault_by-requires-clause-small c = c.requires.small

pub fault_by-requires-clause-ends2 : goal.fault_by-requires-clause-ends2
fault_by-requires-clause-ends2 c kept is =
    let f = abstract_frame c.args.form.now in
    let ls = lists_of c.args.form.now in
    subst (λ (k : Bor EndSums). AreSumsPaid f ls 2 (class_plan f ls c.args.x.now) k.now) (ap (λ k. unwrap_or k kept) is) c.in_ok-ends2.ensures

pub fault_by-requires-clause-ends1 : goal.fault_by-requires-clause-ends1
fault_by-requires-clause-ends1 c kept is =
    let f = abstract_frame c.args.form.now in
    let ls = lists_of c.args.form.now in
    subst (λ (k : Bor EndSums). AreSumsPaid f ls 1 (class_plan f ls c.args.y.now) k.now) (ap (λ k. unwrap_or k kept) is) c.in_ok-ends1.ensures

pub fault_by-requires-clause-x : goal.fault_by-requires-clause-x
fault_by-requires-clause-x c = c.requires.x

pub fault_by-requires-clause-y : goal.fault_by-requires-clause-y
fault_by-requires-clause-y c = c.requires.y

pub invariant_of-second : goal.invariant_of-second
invariant_of-second c = record {
  some = omega arith;
  two = omega arith;
  plan = c.requires.x;
}

pub returns-in-Some : goal.returns-in-Some
returns-in-Some c = grind (arith, common_steps)

pub invariant_of-first : goal.invariant_of-first
invariant_of-first c = grind arith
