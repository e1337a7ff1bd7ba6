use Rattle.std.proofs.{Common.{◌-◌, ◌∙◌, ℕ, arith, subst, sym}, lemmas.Grind.{common_steps}}
use Rattle.std.specs.Prelude.{IfOk}
use Rattle.gs_model.specs.Signals.{signal_at}
use Rattle.gs_iso.specs.Pairings.{IsPaired}
use Rattle.gs_tree.specs.Trees.{rules_of}
use Rattle.gs_iso.proofs.Listed.{numbers_below}
use Rattle.gs_iso.proofs.pairings.pairing.Goals as goal

pub child_pairing-requires-clause-numbers : goal.child_pairing-requires-clause-numbers
child_pairing-requires-clause-numbers c =
    numbers_below (rules_of c.args.signals.now) c.in_ok-numbers.numbers.items c.args.round (c.from.result - 1) c.index-below.result.now c.deref.result.now
    c.in_ok-numbers.ensures
    (omega (arith, c.from.ensures, c.rounds.ensures.value, c.rounds-2.ensures.value, c.requires.last, c.if-round-rounds.false)) c.index-below.ensures
    c.deref.ensures.value

pub index-below-requires : goal.index-below-requires
index-below-requires c = grind (arith, common_steps)

pub returns-then-round-rounds : goal.returns-then-round-rounds
returns-then-round-rounds c =
    let g = rules_of c.args.signals.now in
    subst (λ (k : ℕ). IfOk c.leaf_pairing.result (IsPaired g k (signal_at g k c.args.a) (signal_at g k c.args.b)))
    (sym (c.if-round-rounds.true ∙ c.rounds.ensures.value)) c.leaf_pairing.ensures

pub child_pairing-requires-clause-before_last : goal.child_pairing-requires-clause-before_last
child_pairing-requires-clause-before_last c = omega (arith, c.if-round-rounds.false, c.rounds.ensures.value, c.requires.last)
