-- The plans after turns of play, and the solution, of a game that can be told.
use Rattle.std.proofs.Common.{◌≡◌, ℕ}
use Rattle.gs_file.proofs.Dealt.{told_playable}
use Rattle.gs_file.specs.{JsonLaws.{IsTold}, Reading.{FileGame, file_rules}, declared.version.Version.{Version}}
use Rattle.gs_model.proofs.{Ranges.{in_range}, Walked.{walked_one, walked_two}}
use Rattle.gs_model.specs.{Classes.{ClassLists}, Plans.{Plan}, Play.{IsFictitiousPlay}}
use Rattle.gs_seq.specs.declared.plan.Plan.{Plan as ClassPlan}
use Rattle.gs_solve.specs.Solutions.{IsGameSolution}
use Rattle.gs_strategy.specs.{Checks.{AreClasses}, Values.{file_frame}, Views.{weights_of}}
use Rattle.gs_play.specs.PlanSums.{ArePlansAlike}
use Rattle.gs_play.proofs.OnePlay.{play_one}
use Rattle.gs_run.proofs.OneSolve.{solution_one}

pub told_play_one : (version : Version) (g : FileGame) (lists : ClassLists) (turns : ℕ) (x y z w : Plan) → IsTold version g → AreClasses g lists
    → IsFictitiousPlay (file_frame g) lists turns x y → IsFictitiousPlay (file_frame g) lists turns z w
    → ArePlansAlike (file_frame g) lists 1 x z × ArePlansAlike (file_frame g) lists 2 y w
told_play_one version g lists turns x y z w t c h k =
    let p = told_playable version g t in
    let r = file_rules g in
    play_one (file_frame g) lists (in_range r p) (walked_one r p) (walked_two r p) c turns x y z w h k

pub told_solution_one : (version : Version) (g : FileGame) (lists : ClassLists) (x y z w : ClassPlan) → IsTold version g → AreClasses g lists
    → IsGameSolution (file_frame g) lists x y → IsGameSolution (file_frame g) lists z w → (weights_of x ≡ weights_of z) × (weights_of y ≡ weights_of w)
told_solution_one version g lists x y z w t c h k =
    let p = told_playable version g t in
    let r = file_rules g in
    let same = solution_one (file_frame g) lists (in_range r p) (walked_one r p) (walked_two r p) c x y z w h k in
    (same.one, same.two)
