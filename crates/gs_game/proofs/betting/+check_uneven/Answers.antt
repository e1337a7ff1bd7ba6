use Rattle.std.proofs.lemmas.Grind.{common_steps}
use Rattle.std.proofs.Common.{arith, ◌≡◌, ◌-◌, ◌∙◌, ℕ, List, length, take, drop, subst, sym, ap}
use Rattle.std.specs.Prelude.{MatchResult, Option, None}
use Rattle.gs_bet.specs.TreeView.{plain}
use Rattle.gs_game.specs.{FaultOf.{IsErrorOf}, Money.{uneven_path}, Refusals.{Refusal}}
use Rattle.gs_game.proofs.{RoundSteps.{split_first}, Searches.{not_found, uneven_step}}
use Rattle.gs_game.proofs.betting.+check_uneven.Goals as goal

pub find_uneven-requires : goal.find_uneven-requires
find_uneven-requires t c = grind arith

pub returns-else-branch : goal.returns-else-branch
returns-else-branch t c =
    let rounds = c.args.rounds.now in
    let tree = plain c.first-item.result.tree.tree in
    let first = split_first c.first-item.result rounds c.in-len1-up.len_at_least c.first-item.is in
    let none = not_found c.new-path.result.items c.find_uneven.new.path.items c.in_ok-find_uneven-in-len1-up.field-0
    (uneven_path c.new-path.result.items 0 0 tree) c.if-branch.false c.in_ok-find_uneven-in-len1-up.ensures in
    subst (λ (r : Option Refusal). MatchResult c.check_uneven.result (λ _. r ≡ None) (IsErrorOf r))
    (sym (uneven_step c.args.number rounds (take (length rounds - 1) (drop 1 rounds)) c.first-item.result first
    (ap (λ (path : List ℕ). uneven_path path 0 0 tree) (sym c.new-path.ensures.items) ∙ none.0)))
    c.check_uneven.ensures

pub returns-in-empty : goal.returns-in-empty
returns-in-empty t c = grind (arith, common_steps)

pub returns-then-branch : goal.returns-then-branch
returns-then-branch t c = grind arith

pub overflow_add-number : goal.overflow_add-number
overflow_add-number t c = omega arith
