-- What each command that reads a strategy file says of its bytes.
use Rattle.std.specs.Prelude.{ℕ, List}
use Rattle.gs_reply.specs.Replies.{Reply}
use Rattle.gs_strategy_commands.specs.{Certificates.{Certifies}, Commands.{Evaluates, Queries, Upgrades}, Verifying.{Verifies}}
use Rattle.gs_words.specs.Tasks.{StrategyTask, Certify, Evaluate, Query, Upgrade, Verify}

-- what a command that reads a strategy file says of its bytes
abbrev pub StrategyAsks : StrategyTask → List ℕ → Reply → Type 0
StrategyAsks Evaluate = Evaluates
StrategyAsks (Query player line signal) = Queries player line signal
StrategyAsks Upgrade = Upgrades
StrategyAsks Certify = Certifies
StrategyAsks Verify = Verifies
