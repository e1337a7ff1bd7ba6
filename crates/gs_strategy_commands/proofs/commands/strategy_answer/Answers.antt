use Rattle.std.proofs.Common.{List, rules, subst, ℕ}
use Rattle.gs_reply.specs.Replies.{Answers}
use Rattle.gs_strategy_commands.specs.Asks.{StrategyAsks}
use Rattle.gs_words.specs.Tasks.{Verify}
use Rattle.gs_strategy_commands.proofs.commands.strategy_answer.Goals as goal

pub returns-in-Evaluate : goal.returns-in-Evaluate
returns-in-Evaluate g c = rw c.in-Evaluate.is c.evaluate_answer.ensures

pub returns-in-Query : goal.returns-in-Query
returns-in-Query g c = rw c.in-Query.is c.query_answer.ensures

pub returns-in-Upgrade : goal.returns-in-Upgrade
returns-in-Upgrade g c = rw c.in-Upgrade.is (search rules)

pub returns-in-Certify : goal.returns-in-Certify
returns-in-Certify g c = rw c.in-Certify.is c.certify_answer.ensures

pub returns-in-Verify : goal.returns-in-Verify
returns-in-Verify g c =
    rw c.in-Verify.is (subst (λ (bytes : List ℕ). Answers (StrategyAsks Verify bytes) c.verify_answer.result) c.as_slice.ensures c.verify_answer.ensures)
