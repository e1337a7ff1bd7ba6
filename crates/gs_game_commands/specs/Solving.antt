-- What `solve` says of a game over classes.
use Rattle.std.specs.Prelude.{◌≡◌, ℕ, List, pos}
use Rattle.gs_file.specs.Reading.{FileGame}
use Rattle.gs_model.specs.Classes.{ClassLists}
use Rattle.gs_reply.specs.{Refusals.{Refusal, Overflows, Many_pivots, Too_large}, Replies.{Reply, Prints, Refuses}}
use Rattle.gs_reply.specs.{declared.refusals.Limit.TheVariants.{TableNumbers}, declared.refusals.Overflow.TheVariants.{AtStep, AtTotal}}
use Rattle.gs_seq.specs.declared.plan.Plan.{Plan}
use Rattle.gs_simplex.specs.declared.answer.PathFault.TheVariants.{TableTooLarge, Wide, Pivots}
use Rattle.gs_solve.specs.{Solutions.{IsGameSolution, IsSolveFault}, declared.stop.SolveFault.TheVariants.{Path, Total}}
use Rattle.gs_strategy.specs.Values.{file_frame}
use Rattle.gs_game_commands.specs.Texts.{IsSettledText}

-- The text is that of the strategy of two plans read off the end of the path of the game's linear program. Both gaps are 0 over 1: no raw plan of either
-- player gains.
pub record IsSolved (g : FileGame) (lists : ClassLists) (text : List ℕ) : Type 0 where
  pub one : Plan
  pub two : Plan
  pub solution : IsGameSolution (file_frame g) lists one two
  pub told : IsSettledText g lists one two text
  pub gap1 : told.strategy.numbers.gap1 ≡ (pos 0, pos 1)
  pub gap2 : told.strategy.numbers.gap2 ≡ (pos 0, pos 1)

-- this refusal applies: the path of the game's linear program stops before its end, or the program's table has too many numbers
abbrev pub SaysStopped : FileGame → ClassLists → Refusal → Type 0
SaysStopped g lists (Too_large (TableNumbers count)) = IsSolveFault (file_frame g) lists (Path (TableTooLarge count))
SaysStopped g lists (Overflows (AtStep step row column number)) = IsSolveFault (file_frame g) lists (Path (Wide step row column number))
SaysStopped g lists Many_pivots = IsSolveFault (file_frame g) lists (Path Pivots)
SaysStopped g lists why = ⊥

-- this refusal applies: the path stops, or a plan's least total is too large
abbrev pub SaysUnsolved : FileGame → ClassLists → Refusal → Type 0
SaysUnsolved g lists (Overflows (AtTotal player multiple)) = IsSolveFault (file_frame g) lists (Total player multiple)
SaysUnsolved g lists why = SaysStopped g lists why

-- what `solve` says of a game over classes
abbrev pub Solves : FileGame → ClassLists → Reply → Type 0
Solves g lists (Prints text) = IsSolved g lists text
Solves g lists (Refuses why) = SaysUnsolved g lists why
