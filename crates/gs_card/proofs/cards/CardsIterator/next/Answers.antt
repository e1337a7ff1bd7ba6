use Rattle.std.proofs.Common.{length, ap, arith, sym, ◌∙◌}
use Rattle.gs_card.proofs.cards.CardsIterator.next.Goals as goal
use Rattle.gs_model.proofs.Basics.{range_step}

pub returns-clause-steps : goal.returns-clause-steps
returns-clause-steps c = sym c.self.view_is ∙ range_step c.self.inside.next c.self.inside.end c.if-self.false

pub returns-clause-goes : goal.returns-clause-goes
returns-clause-goes c =
    let step = sym c.self.view_is ∙ range_step c.self.inside.next c.self.inside.end c.if-self.false in
    record { on = λ _. (tt, tt, omega (arith, ap length step)); keeps = tt; rests = λ _. tt }
