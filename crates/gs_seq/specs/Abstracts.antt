-- The game and the classes of a game in sequence form.
use Rattle.gs_game.specs.declared.valid.ValidGame.{ValidGame}
use Rattle.gs_model.specs.{Classes.{ClassLists}, Frame.{Frame}}
use Rattle.gs_seq.specs.{Games.{frame_in}, declared.form.Abstract.{Abstract}}

-- the valid game that a sequence form was made from
abbrev pub game_in : Abstract → ValidGame
game_in a = a.lossless.now.signals.now.game.now

-- the frame of the game
abbrev pub abstract_frame : Abstract → Frame
abstract_frame a = frame_in (game_in a)

-- the class lists
abbrev pub lists_of : Abstract → ClassLists
lists_of a = a.lossless.now.classes.now.lists
