-- A game that is checked against the rules: it is accepted as it is, or refused by the first rule that it breaks.
use Rattle.std.proofs.Common.{◌≡◌, Option, None, Err, sym, ap, ◌∙◌}
use Rattle.gs_game.specs.{FaultOf.{IsFaultOf}, Games.{game_of}, Refusals.{Refusal, first_refusal}, declared.faults.GameFault.{GameFault}}
use Rattle.gs_game.specs.declared.game.Game.{Game}
use Rattle.gs_file.specs.{Answers.{fault_of}, Reading.{FileGame, lawful, unless_refused}, Views.{game_view}}
use Rattle.gs_file.specs.declared.fault.FileFault.TheVariants as file
use Rattle.gs_file.proofs.Stating.{ok}

pub accepted_as_is : (g h : Game) → first_refusal (game_of g) ≡ None → h ≡ g → lawful (game_view g) ≡ ok (game_view h)
accepted_as_is g h none same = ap (unless_refused (game_view g)) none ∙ ap (λ x. ok (game_view x)) (sym same)

pub refused_by : (g : FileGame) (r : Option Refusal) (why : GameFault) → IsFaultOf r why → unless_refused g r ≡ Err (fault_of (file.Game why))
refused_by g r why h = ap (unless_refused g) h
