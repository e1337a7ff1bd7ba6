-- What the definitions say of one input is one: the signal classes, the plans after turns of play, the solution, and the reply of each task.
use Rattle.std.specs.Prelude.{◌≡◌, ℕ, List}
use Rattle.gs_run.specs.Asking.{Asks}
use Rattle.gs_file.specs.{JsonLaws.{IsTold}, Reading.{FileGame}, declared.version.Version.{Version}}
use Rattle.gs_model.specs.{Classes.{ClassLists}, Game.{Game}, Plans.{Plan}, Play.{IsFictitiousPlay}, SignalClasses.{IsSignalClasses}}
use Rattle.gs_play.specs.PlanSums.{ArePlansAlike}
use Rattle.gs_reply.specs.Replies.{Reply}
use Rattle.gs_seq.specs.declared.plan.Plan.{Plan as ClassPlan}
use Rattle.gs_solve.specs.Solutions.{IsGameSolution}
use Rattle.gs_strategy.specs.{Checks.{AreClasses}, Values.{file_frame}, Views.{weights_of}}
use Rattle.gs_words.specs.Tasks.{Task}

-- a game has only one list of signal classes
abbrev pub SignalClassesAreOne : Type 0
SignalClassesAreOne = (g : Game) (a b : ClassLists) → IsSignalClasses g a → IsSignalClasses g b → a ≡ b

-- after a number of turns each player has only one plan
abbrev pub PlaysAreOne : Type 0
PlaysAreOne = (version : Version) (g : FileGame) (lists : ClassLists) (turns : ℕ) (x y z w : Plan) → IsTold version g → AreClasses g lists
    → IsFictitiousPlay (file_frame g) lists turns x y → IsFictitiousPlay (file_frame g) lists turns z w
    → ArePlansAlike (file_frame g) lists 1 x z × ArePlansAlike (file_frame g) lists 2 y w

-- a game over classes has only one solution: each player's total and weights are determined
abbrev pub SolutionsAreOne : Type 0
SolutionsAreOne = (version : Version) (g : FileGame) (lists : ClassLists) (x y z w : ClassPlan) → IsTold version g → AreClasses g lists
    → IsGameSolution (file_frame g) lists x y → IsGameSolution (file_frame g) lists z w → (weights_of x ≡ weights_of z) × (weights_of y ≡ weights_of w)

-- a task has only one reply to an input
abbrev pub AnswersAreOne : Type 0
AnswersAreOne = (task : Task) (bytes : List ℕ) (one two : Reply) → Asks task bytes one → Asks task bytes two → one ≡ two
