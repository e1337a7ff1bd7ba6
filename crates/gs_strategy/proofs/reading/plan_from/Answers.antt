use Rattle.std.proofs.Common.{inl, inr, refl, subst}
use Rattle.gs_seq.specs.{Faults.{IsFaultOf}, Games.{frame_in}, Slots.{IsPlan}}
use Rattle.gs_strategy.proofs.reading.plan_from.Goals as goal

pub returns-in-None-clause-checked : goal.returns-in-None-clause-checked
returns-in-None-clause-checked c =
    let a = c.args in
    (inl (subst (λ xs. IsPlan (frame_in a.game.now) a.classes.now.lists a.player a.stated.total xs) c.deref.ensures.value c.in-None.ensures, refl))

pub returns-in-Some-clause-checked : goal.returns-in-Some-clause-checked
returns-in-Some-clause-checked c =
    let a = c.args in
    let why = c.in-Some.fault in
    let broken = subst (λ xs. IsFaultOf (frame_in a.game.now) a.classes.now.lists a.player a.stated.total xs why) c.deref.ensures.value c.in-Some.ensures in
    inr (why, broken, refl)
