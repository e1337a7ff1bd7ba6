use Rattle.std.proofs.{Common.{arith, ◌≡◌, ◌∷◌, List, ap, ◌∙◌, subst}, lemmas.Grind.{common_steps}, lemmas.List.Elements.{All-tail}}
use Rattle.std.specs.Prelude.{All}
use Rattle.gs_model.specs.Deals.{Deal}
use Rattle.gs_seq.specs.Singles.{IsSlight, deals_left}
use Rattle.gs_seq.proofs.pairs.PairsIterator.next.Goals as goal

pub invariant_of-self-2 : goal.invariant_of-self-2
invariant_of-self-2 c =
    let rest : List Deal = c.next.new.self in
    let first : deals_left c.self.inside.deals ≡ c.in_ok-deal.deal ∷ rest = ap deals_left c.in-Some.is ∙ c.in_ok-deal.ensures.steps in
    All-tail IsSlight c.in_ok-deal.deal rest (subst (All IsSlight) first c.self.invariant)

pub returns : goal.returns
returns c = grind (arith, common_steps)

pub returns-then-not-is_empty : goal.returns-then-not-is_empty
returns-then-not-is_empty c = grind (arith, common_steps)

pub returns-in_err-deal : goal.returns-in_err-deal
returns-in_err-deal c = grind (arith, common_steps)

pub pair_of-requires : goal.pair_of-requires
pair_of-requires c = grind arith

pub invariant_of-self : goal.invariant_of-self
invariant_of-self c = grind arith

pub invariant_of-self-in_err-deal : goal.invariant_of-self-in_err-deal
invariant_of-self-in_err-deal c = grind arith

pub returns-in_default-clause-steps : goal.returns-in_default-clause-steps
returns-in_default-clause-steps c = grind (arith, common_steps)

pub bounds-self-inside-0 : goal.bounds-self-inside-0
bounds-self-inside-0 c = grind arith

pub slice_bounds-self-count : goal.slice_bounds-self-count
slice_bounds-self-count c = grind arith

pub slice_bounds-self-start : goal.slice_bounds-self-start
slice_bounds-self-start c = grind arith

pub invariant_of-self-in_default : goal.invariant_of-self-in_default
invariant_of-self-in_default c = grind arith
