-- A point with the class totals of all later points. For private functions.
use Rattle.gs_model.specs.{BestAnswers.{Values}, Classes.{ClassLists}, Frame.{Frame}}
use Rattle.gs_best.specs.{LaterRows.{later_totals}, Sides.{frame_at, lists_at}, declared.walk_point.WalkPoint.{WalkPoint}}

-- the frame of its game
abbrev pub frame_on : WalkPoint → Frame
frame_on at = frame_at at.side

-- its classes
abbrev pub lists_on : WalkPoint → ClassLists
lists_on at = lists_at at.side

-- the class totals that are read
abbrev pub totals_on : WalkPoint → Values
totals_on at = later_totals at.side at.from at.later.now
