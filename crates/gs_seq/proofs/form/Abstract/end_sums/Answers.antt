use Rattle.std.proofs.lemmas.Grind.{common_steps}
use Rattle.std.proofs.Common.{◌∙◌, subst, arith}
use Rattle.gs_seq.specs.{Abstracts.{abstract_frame, lists_of}, Payoffs.{AreNumbersAt}, Plans.{class_plan}}
use Rattle.gs_seq.proofs.EndSums.{by_numbers}
use Rattle.gs_seq.proofs.form.Abstract.end_sums.Goals as goal

pub returns-in-Some-clause-numbers : goal.returns-in-Some-clause-numbers
returns-in-Some-clause-numbers c =
    let a = c.args.self.now in
    subst (λ p. AreNumbersAt (abstract_frame a) (lists_of a) p (class_plan (abstract_frame a) (lists_of a) c.args.other.now) c.args.end
    c.read_numbers.new.numbers) c.requires.other.player_is c.read_numbers.ensures.numbers

pub returns-in-None-clause-numbers : goal.returns-in-None-clause-numbers
returns-in-None-clause-numbers c =
    let a = c.args.self.now in
    subst (λ p. AreNumbersAt (abstract_frame a) (lists_of a) p (class_plan (abstract_frame a) (lists_of a) c.args.other.now) c.args.end
    c.read_numbers.new.numbers) c.requires.other.player_is c.read_numbers.ensures.numbers

pub returns-in-Some-clause-here : goal.returns-in-Some-clause-here
returns-in-Some-clause-here c =
    let a = c.args.self.now in
    λ k h. c.pay_along.ensures.here k h ∙ by_numbers (abstract_frame a) (lists_of a) c.args.player (class_plan (abstract_frame a) (lists_of a) c.args.other.now)
    c.args.end c.read_numbers.new.numbers (returns-in-Some-clause-numbers c) k

pub returns-in-None-clause-here : goal.returns-in-None-clause-here
returns-in-None-clause-here c =
    let a = c.args.self.now in
    λ k h. c.pay_all.ensures.here k h ∙ by_numbers (abstract_frame a) (lists_of a) c.args.player (class_plan (abstract_frame a) (lists_of a) c.args.other.now)
    c.args.end c.read_numbers.new.numbers (returns-in-None-clause-numbers c) k

pub invariant_of-paying : goal.invariant_of-paying
invariant_of-paying c = grind (arith, common_steps)

pub pay_along-requires : goal.pay_along-requires
pay_along-requires c = grind (arith, common_steps)

pub pay_all-requires : goal.pay_all-requires
pay_all-requires c = grind (arith, common_steps)

pub returns-in-None-clause-behind : goal.returns-in-None-clause-behind
returns-in-None-clause-behind c = grind arith

pub read_numbers-requires-clause-plan : goal.read_numbers-requires-clause-plan
read_numbers-requires-clause-plan c = grind arith

pub returns-in-Some-clause-behind : goal.returns-in-Some-clause-behind
returns-in-Some-clause-behind c = grind arith
