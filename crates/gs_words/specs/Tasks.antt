-- What the program is asked to do: a request with its texts.
use Rattle.std.specs.Prelude.{ℕ, ◌≤◌, List}
use Rattle.gs_words.specs.{declared.request.Make.{Make}, declared.request.OfGame.{OfGame}, declared.request.OfRaw.{OfRaw}, declared.request.OfStrategy.{OfStrategy}}
use Rattle.gs_words.specs.{declared.request.Request.{Request}}
use Rattle.gs_words.specs.declared.request.OfGame.TheVariants as game
use Rattle.gs_words.specs.declared.request.OfStrategy.TheVariants as strategy
use Rattle.gs_words.specs.declared.request.Request.TheVariants as request

-- what is asked of a strategy file: a request with its texts
pub data StrategyTask : Type 0 where
  Evaluate : StrategyTask
  Query : (player : ℕ) (line signal : List ℕ) → StrategyTask
  Upgrade : StrategyTask
  Certify : StrategyTask
  Verify : StrategyTask

-- what the program is asked to do, by the family of the command
pub data Task : Type 0 where
  of_game : OfGame → Task
  of_strategy : StrategyTask → Task
  of_raw : OfRaw → Task
  make : Make → Task

-- the task of a request on a strategy file
abbrev pub strategy_task : OfStrategy → StrategyTask
strategy_task strategy.Evaluate = Evaluate
strategy_task (strategy.Query player line signal) = Query player line.now signal.now
strategy_task strategy.Upgrade = Upgrade
strategy_task strategy.Certify = Certify
strategy_task strategy.Verify = Verify

-- the task of a request
abbrev pub task_of : Request → Task
task_of (request.OfGame r) = of_game r
task_of (request.OfStrategy r) = of_strategy (strategy_task r)
task_of (request.OfRaw r) = of_raw r
task_of (request.Make m) = make m

-- the numbers of a task are in their ranges
abbrev pub IsInRange : Task → Type 0
IsInRange (of_game (game.Play grouping turns)) = turns ≤ 1000000
IsInRange (of_strategy (Query player line signal)) = (1 ≤ player) × (player ≤ 2)
IsInRange (make m) = ((1 ≤ m.ranks) × (m.ranks ≤ 13)) × ((1 ≤ m.suits) × (m.suits ≤ 4)) × (m.cap ≤ 8)
IsInRange _ = Unit {0}
