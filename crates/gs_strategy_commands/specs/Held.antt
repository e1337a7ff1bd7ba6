-- The game in sequence form of a strategy that was read.
use Rattle.std.specs.Prelude.{◌≡◌}
use Rattle.gs_lossless.specs.declared.checking.Lossless.{Lossless}
use Rattle.gs_model.specs.Lossless.{IsLossless}
use Rattle.gs_seq.specs.{Stops.{IsSmall}, declared.form.Abstract.{Abstract}}
use Rattle.gs_strategy.specs.{Confirmed.{strategy_frame}, Views.{stored_view}, declared.stored.Stored.{Stored}}

-- the signals are those of the strategy's game, and the classes are its classes
pub record HoldsStrategy (l : Lossless) (s : Stored) : Type 0 where
  pub game : l.signals.now.game.now ≡ s.game
  pub classes : l.classes.now ≡ s.classes

-- the game in sequence form is that of the strategy, whose classes are lossless and whose game is within the limits
pub record IsFormOf (s : Stored) (a : Abstract) : Type 0 where
  pub held : HoldsStrategy a.lossless.now s
  pub lossless : IsLossless (strategy_frame (stored_view s)) s.classes.lists
  pub small : IsSmall (strategy_frame (stored_view s)) s.classes.lists
