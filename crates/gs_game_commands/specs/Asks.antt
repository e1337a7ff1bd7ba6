-- What each command that reads a game file says of its bytes.
use Rattle.std.specs.Prelude.{ℕ, List}
use Rattle.gs_game_commands.specs.{Checking.{Checks}, Paths.{ShowsPath}, Playing.{Plays}, Settling.{Settles}, Shrinking.{Shrinks}, Solving.{Solves}}
use Rattle.gs_reply.specs.Replies.{Reply}
use Rattle.gs_words.specs.{declared.request.OfGame.{OfGame}}
use Rattle.gs_words.specs.declared.request.OfGame.TheVariants.{Check, Path, Play, Shrink, Solve}

-- what a command that reads a game file says of its bytes
abbrev pub GameAsks : OfGame → List ℕ → Reply → Type 0
GameAsks (Shrink summary) = Shrinks summary
GameAsks (Check grouping summary) = Checks grouping summary
GameAsks (Solve grouping) = Settles Solves grouping
GameAsks (Play grouping turns) = Settles (Plays turns) grouping
GameAsks (Path grouping) = Settles ShowsPath grouping
