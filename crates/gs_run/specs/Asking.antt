-- What a task says of an input: for each family of commands its own definition.
use Rattle.std.specs.Prelude.{ℕ, List, Bool, true, false}
use Rattle.gs_run.specs.Making.{Makes}
use Rattle.gs_game_commands.specs.Asks.{GameAsks}
use Rattle.gs_raw_commands.specs.Asks.{RawAsks}
use Rattle.gs_reply.specs.Replies.{Reply}
use Rattle.gs_strategy_commands.specs.Asks.{StrategyAsks}
use Rattle.gs_words.specs.Tasks.{Task, make, of_game, of_raw, of_strategy}

-- whether a task reads an input: all do but `make`
abbrev pub reads : Task → Bool
reads (make m) = false
reads _ = true

-- what a task says of the bytes of its input; `make` does not depend on them
abbrev pub Asks : Task → List ℕ → Reply → Type 0
Asks (of_game t) = GameAsks t
Asks (of_strategy t) = StrategyAsks t
Asks (of_raw t) = RawAsks t
Asks (make m) = λ bytes. Makes m m.summary
