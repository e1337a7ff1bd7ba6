-- A valid game as the definitions see it.
use Rattle.gs_game.specs.{Games.{game_of}, declared.valid.ValidGame.{ValidGame}}
use Rattle.gs_model.specs.Frame.{Frame, frame_of}

-- the frame of a valid game
abbrev pub frame_in : ValidGame → Frame
frame_in g = frame_of (game_of g.game)
