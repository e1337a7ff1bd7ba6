-- A player's class totals and moves in a game.
use Rattle.std.specs.Prelude.{ℕ, List, ℤ}
use Rattle.gs_model.specs.{BestAnswers.{Values}, Classes.{ClassLists}, Frame.{Frame}, Plans.{Plan}}
use Rattle.gs_seq.specs.{Abstracts.{abstract_frame, lists_of}, Plans.{class_plan}}
use Rattle.gs_best.specs.{Places.{totals_of}, Tables.{moves_of}, declared.side.Side.{Side}}

-- the frame of a player's game
abbrev pub frame_at : Side → Frame
frame_at s = abstract_frame s.form.now

-- the classes of the game
abbrev pub lists_at : Side → ClassLists
lists_at s = lists_of s.form.now

-- the other's plan over the classes
abbrev pub plan_at : Side → Plan
plan_at s = class_plan (frame_at s) (lists_at s) s.other.now

-- the player's class totals: at points those of a list
abbrev pub totals_at : Side → List ℤ → Values
totals_at s totals = totals_of (frame_at s) (lists_at s) s.player (plan_at s) totals

-- the moves that a list has for each point and class
abbrev pub picks_at : Side → List ℕ → ℕ → ℕ → ℕ
picks_at s picks = moves_of (frame_at s) (lists_at s) picks
