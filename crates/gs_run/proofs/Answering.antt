-- What a task says of bytes is one.
use Rattle.std.proofs.Common.{◌≡◌, ℕ, List}
use Rattle.gs_game_commands.specs.Asks.{GameAsks}
use Rattle.gs_raw_commands.specs.Asks.{RawAsks}
use Rattle.gs_reply.specs.Replies.{Reply}
use Rattle.gs_run.specs.Asking.{Asks}
use Rattle.gs_strategy_commands.specs.Asks.{StrategyAsks}
use Rattle.gs_words.specs.Tasks.{StrategyTask, Task, make, of_game, of_raw, of_strategy, Certify, Evaluate, Query, Upgrade, Verify}
use Rattle.gs_words.specs.{declared.request.OfGame.{OfGame}, declared.request.OfRaw.{OfRaw}}
use Rattle.gs_words.specs.declared.request.OfGame.TheVariants as game
use Rattle.gs_words.specs.declared.request.OfRaw.TheVariants as raw
use Rattle.gs_run.proofs.{OneCertificate.{certifies_one, verifies_one}, OneDuel.{duels_one}, OneGame.{checks_one, makes_one, shrinks_one}, OnePath.{paths_one}}
use Rattle.gs_run.proofs.{OneSettled.{plays_one}, OneSolve.{solves_one}, OneStrategy.{evaluates_one, judges_one, queries_one, upgrades_one}}

game_one : (t : OfGame) (bytes : List ℕ) (one two : Reply) → GameAsks t bytes one → GameAsks t bytes two → one ≡ two
game_one (game.Shrink summary) bytes one two h k = shrinks_one summary bytes one two h k
game_one (game.Check grouping summary) bytes one two h k = checks_one grouping summary bytes one two h k
game_one (game.Solve grouping) bytes one two h k = solves_one grouping bytes one two h k
game_one (game.Play grouping turns) bytes one two h k = plays_one turns grouping bytes one two h k
game_one (game.Path grouping) bytes one two h k = paths_one grouping bytes one two h k

strategy_one : (t : StrategyTask) (bytes : List ℕ) (one two : Reply) → StrategyAsks t bytes one → StrategyAsks t bytes two → one ≡ two
strategy_one Evaluate bytes one two h k = evaluates_one bytes one two h k
strategy_one (Query player line signal) bytes one two h k = queries_one player line signal bytes one two h k
strategy_one Upgrade bytes one two h k = upgrades_one bytes one two h k
strategy_one Certify bytes one two h k = certifies_one bytes one two h k
strategy_one Verify bytes one two h k = verifies_one bytes one two h k

raw_one : (t : OfRaw) (bytes : List ℕ) (one two : Reply) → RawAsks t bytes one → RawAsks t bytes two → one ≡ two
raw_one raw.Judge bytes one two h k = judges_one bytes one two h k
raw_one raw.Duel bytes one two h k = duels_one bytes one two h k

pub answers_one : (task : Task) (bytes : List ℕ) (one two : Reply) → Asks task bytes one → Asks task bytes two → one ≡ two
answers_one (of_game t) bytes one two h k = game_one t bytes one two h k
answers_one (of_strategy t) bytes one two h k = strategy_one t bytes one two h k
answers_one (of_raw t) bytes one two h k = raw_one t bytes one two h k
answers_one (make m) bytes one two h k = makes_one m m.summary one two h k
