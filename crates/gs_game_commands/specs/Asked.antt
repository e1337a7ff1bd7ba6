-- What a command says of a game and the classes of a grouping, by what is asked. It stands in contracts of private functions.
use Rattle.std.specs.Prelude.{ℕ, List}
use Rattle.gs_file.specs.Reading.{FileGame, read_at}
use Rattle.gs_game_commands.specs.{Checking.{ChecksGame}, Paths.{ShowsPath}, Playing.{Plays}, Settling.{OfGrouping}, Solving.{Solves}}
use Rattle.gs_game_commands.specs.{declared.asked.Asked.{Asked}, declared.asked.Asked.TheVariants.{Play, Solve, Path}}
use Rattle.gs_game_commands.specs.{declared.asked.Question.{Question}, declared.asked.Question.TheVariants.{Classes, Over}}
use Rattle.gs_model.specs.Classes.{ClassLists}
use Rattle.gs_reply.specs.Replies.{OfReading, Reply}
use Rattle.gs_words.specs.declared.request.Grouping.{Grouping}

-- the reply tells what is asked of the game over the classes
abbrev pub says_asked : Asked → FileGame → ClassLists → Reply → Type 0
says_asked (Play turns) = Plays turns.count
says_asked Solve = Solves
says_asked Path = ShowsPath

-- the reply answers a question about the game and the classes of the grouping
abbrev pub says_of : Question → Grouping → FileGame → Reply → Type 0
says_of (Classes summary) grouping = ChecksGame grouping summary
says_of (Over asked) grouping = OfGrouping grouping (says_asked asked)

-- the reply answers a question about the bytes of a game file and the classes of the grouping
abbrev pub AnswersOf : Question → Grouping → List ℕ → Reply → Type 0
AnswersOf question grouping bytes reply = OfReading (says_of question grouping) (read_at bytes) reply
