use Rattle.std.proofs.Common.{◌∙◌, ap, refl, sym, subst}
use Rattle.gs_game.specs.declared.valid.ValidGame.{ValidGame}
use Rattle.gs_seq.specs.{Abstracts.{abstract_frame, lists_of}, Faults.{IsFaultOf}, Games.{frame_in}, Slots.{IsPlan}}
use Rattle.gs_seq.proofs.Forms.{carried}
use Rattle.gs_seq.proofs.form.Abstract.plan.Goals as goal

pub returns-in-None-clause-plan : goal.returns-in-None-clause-plan
returns-in-None-clause-plan c =
    let a = c.args.self.now in
    subst (λ ws. IsPlan (abstract_frame a) (lists_of a) c.args.player c.args.total ws) c.deref.ensures.value
    (carried (λ f ls. IsPlan f ls c.args.player c.args.total c.deref.result.now) (ap frame_in c.game.ensures) c.classes.ensures.lists c.in-None.ensures)

pub returns-in-Some-clause-refused : goal.returns-in-Some-clause-refused
returns-in-Some-clause-refused c =
    let a = c.args.self.now in
    subst (λ ws. IsFaultOf (abstract_frame a) (lists_of a) c.args.player c.args.total ws c.in-Some.fault) c.deref.ensures.value
    (carried (λ f ls. IsFaultOf f ls c.args.player c.args.total c.deref.result.now c.in-Some.fault) (ap frame_in c.game.ensures) c.classes.ensures.lists
    c.in-Some.ensures)

pub returns-in-None-clause-own : goal.returns-in-None-clause-own
returns-in-None-clause-own c = record { player_is = refl; plan = returns-in-None-clause-plan c }

pub plan_fault-requires-clause-parents : goal.plan_fault-requires-clause-parents
plan_fault-requires-clause-parents c = c.classes.ensures.parents ∙ ap (λ (g : ValidGame). (frame_in g).parents) (sym c.game.ensures)
