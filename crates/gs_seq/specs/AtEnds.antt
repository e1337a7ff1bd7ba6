-- A plan of a game in sequence form, at an end.
use Rattle.std.specs.Prelude.{◌≡◌}
use Rattle.gs_model.specs.Positions.{at_end}
use Rattle.gs_seq.specs.{Abstracts.{game_in, lists_of}, Games.{frame_in}, Sources.{MatchSource}, declared.form.Abstract.{Abstract}}
use Rattle.gs_seq.specs.declared.numbers.PlanAtEnd.{PlanAtEnd}

-- the plan is of the form's game and classes, and its last step before the end is held
pub record IsOfForm (a : Abstract) (o : PlanAtEnd) : Type 0 where
  pub game_is : o.game.now ≡ game_in a
  pub lists_are : o.classes.now.lists ≡ lists_of a
  pub made : MatchSource (frame_in o.game.now) o.classes.now.lists o.plan.now.player (at_end o.end) o.source
