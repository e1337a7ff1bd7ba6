-- A player of a game, with its classes.
use Rattle.gs_model.specs.{Classes.{ClassLists}, Frame.{Frame}}
use Rattle.gs_seq.specs.Abstracts.{abstract_frame, lists_of}
use Rattle.gs_play.specs.declared.role.Role.{Role}

-- the frame of the game
abbrev pub side_frame : Role → Frame
side_frame s = abstract_frame s.form.now

-- the classes of the game
abbrev pub side_lists : Role → ClassLists
side_lists s = lists_of s.form.now
