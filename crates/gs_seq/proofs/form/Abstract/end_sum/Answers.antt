use Rattle.std.proofs.lemmas.Grind.{common_steps}
use Rattle.std.proofs.{Common.{ap, subst, sym, arith, ◌∙◌}, lemmas.Int.{to_z-of_z}}
use mir.Syntax.{w128}
use Rattle.gs_model.specs.Classes.{IsClass}
use Rattle.gs_seq.specs.{Abstracts.{abstract_frame, lists_of}, Payoffs.{end_sum}, Plans.{class_plan}, declared.plan.Plan.{Plan}}
use Rattle.gs_seq.proofs.form.Abstract.end_sum.Goals as goal

pub pairs-row-requires-clause-class : goal.pairs-row-requires-clause-class
pairs-row-requires-clause-class c = subst (λ r. IsClass (lists_of c.args.self.now) r c.args.class) (sym c.end_in.ensures.round) c.requires.class

pub row_worth-requires : goal.row_worth-requires
row_worth-requires c = grind (arith, common_steps)

pub plan_at-at-requires-clause-plan : goal.plan_at-at-requires-clause-plan
plan_at-at-requires-clause-plan c = grind arith

pub returns : goal.returns
returns c =
    let f = abstract_frame c.args.self.now in
    let lists = lists_of c.args.self.now in
    let at = c.plan_at-at.ensures in
    to_z-of_z w128 c.row_worth.result (record { sfits = c.row_worth.type_inv })
    ∙ c.row_worth.ensures
    ∙ ap (λ (p : Plan). end_sum f lists c.args.player (class_plan f lists p) c.plan_at-at.result.end c.args.class) at.plan
    ∙ ap (λ z. end_sum f lists c.args.player (class_plan f lists c.args.other.now) z c.args.class) at.end

pub pairs-row-requires-clause-top : goal.pairs-row-requires-clause-top
pairs-row-requires-clause-top c = omega arith
