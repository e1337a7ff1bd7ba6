-- What `path` says of a game over classes.
use Rattle.std.specs.{Prelude.{◌≡◌, ℕ, ◌+◌, List, [], ◌∷◌, ◌++◌, codes}, Fmt.{decimal}}
use Rattle.gs_file.specs.Reading.{FileGame}
use Rattle.gs_frac.specs.Texts.{number_line}
use Rattle.gs_model.specs.Classes.{ClassLists}
use Rattle.gs_reply.specs.Replies.{Reply, Prints, Refuses}
use Rattle.gs_simplex.specs.{Program.{Listing}, declared.program.Program.{Program}, Trace.{IsShown}, declared.answer.Path.{Path}, declared.answer.Turn.{Turn}}
use Rattle.gs_solve.specs.Solutions.{IsGamePath, most_pivots}
use Rattle.gs_strategy.specs.{Values.{file_frame}, Views.{parts_of}}
use Rattle.gs_game_commands.specs.Solving.{SaysStopped}

-- the line of a pivot: its number, the column that enters, and the one that leaves
abbrev pub turn_line : ℕ → Turn → List ℕ
turn_line number turn = decimal number ++ codes " enters " ++ decimal turn.enter ++ codes " leaves " ++ decimal turn.leave ++ codes "\n"

-- the lines of pivots, numbered after the `before` earlier ones
abbrev pub turn_lines : ℕ → List Turn → List ℕ
turn_lines before [] = []
turn_lines before (turn ∷ turns) = turn_line (before + 1) turn ++ turn_lines (before + 1) turns

-- the lines of a path: the aim's value after the opening, each pivot, and the aim's value at the end
abbrev pub path_text : Path → List ℕ
path_text t = number_line (codes "opening") (parts_of t.start) ++ turn_lines 0 t.turns.items ++ number_line (codes "aim") (parts_of t.aim)

-- the text is the lines of the path of the game's linear program
pub record IsPathShown (g : FileGame) (lists : ClassLists) (text : List ℕ) : Type 0 where
  pub program : Program
  pub opening : Listing
  pub path : IsGamePath (file_frame g) lists program opening
  pub found : Path
  pub shown : IsShown program opening most_pivots found
  pub printed : text ≡ path_text found

-- what `path` says of a game over classes
abbrev pub ShowsPath : FileGame → ClassLists → Reply → Type 0
ShowsPath g lists (Prints text) = IsPathShown g lists text
ShowsPath g lists (Refuses why) = SaysStopped g lists why
