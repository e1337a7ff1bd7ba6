-- The text of a strategy from two plans.
use Rattle.std.specs.Prelude.{◌≡◌, ℕ, List}
use Rattle.gs_file.specs.{Reading.{FileGame}, declared.version.Version.TheVariants.{Two}}
use Rattle.gs_model.specs.Classes.{ClassLists}
use Rattle.gs_seq.specs.declared.plan.Plan.{Plan}
use Rattle.gs_strategy.specs.{Confirmed.{IsConfirmed}, Checks.{AreClasses}, Texts.{strategy_text}, Values.{ArePlanWeights, Strategy}, Views.{weights_of}}

-- The text is that, in version 2, of the strategy of a game, its classes and two plans. The strategy is confirmed: its numbers are the value of these plans
-- and what each player could still gain by any raw plan.
pub record IsSettledText (g : FileGame) (lists : ClassLists) (one two : Plan) (text : List ℕ) : Type 0 where
  pub strategy : Strategy
  pub game : strategy.game ≡ g
  pub classes : strategy.classes ≡ lists
  pub first : strategy.one ≡ weights_of one
  pub second : strategy.two ≡ weights_of two
  pub are_classes : AreClasses strategy.game strategy.classes
  pub first_is : ArePlanWeights strategy.game strategy.classes 1 strategy.one
  pub second_is : ArePlanWeights strategy.game strategy.classes 2 strategy.two
  pub confirmed : IsConfirmed strategy
  pub printed : text ≡ strategy_text Two strategy
