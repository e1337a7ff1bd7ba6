use Rattle.std.proofs.Common.{arith}
use Rattle.std.proofs.lemmas.Grind.{common_steps}
use Rattle.std.proofs.Common.{◌≡◌, ◌-◌, ◌∙◌, length, take, drop, subst, sym}
use Rattle.std.specs.Prelude.{MatchResult, Option, None}
use Rattle.gs_game.specs.{FaultOf.{IsFaultOf}, Refusals.{Refusal}}
use Rattle.gs_game.proofs.{RoundSteps.{split_first}, Searches.{evens_step}}
use Rattle.gs_game.proofs.betting.+check_evens.Goals as goal

pub returns-else-not-has_even : goal.returns-else-not-has_even
returns-else-not-has_even t c =
    let rounds = c.args.rounds.now in
    let first = split_first c.first-item.result rounds c.in-len1-up.len_at_least c.first-item.is in
    subst (λ (r : Option Refusal). MatchResult c.check_evens.result (λ _. r ≡ None) (IsFaultOf r))
    (sym (evens_step c.args.number rounds (take (length rounds - 1) (drop 1 rounds)) c.first-item.result first
    (sym c.is_empty.ensures ∙ c.if-not-is_empty.true) (sym c.has_even.ensures ∙ c.if-not-has_even.false)))
    c.check_evens.ensures

pub returns-in_default : goal.returns-in_default
returns-in_default t c = grind (arith, common_steps)

pub returns-then-not-has_even : goal.returns-then-not-has_even
returns-then-not-has_even t c = grind arith
