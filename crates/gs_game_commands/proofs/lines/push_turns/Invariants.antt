use Rattle.std.proofs.Common.{◌≡◌, ◌++◌, take, string_bytes}
use Rattle.gs_game_commands.specs.Paths.{turn_lines}
use Rattle.gs_game_commands.proofs.lines.push_turns.Given as goal

abbrev pub invariant-loop-place : goal.invariant-loop-place
invariant-loop-place l = string_bytes l.text ≡ string_bytes l.fn.text ++ turn_lines 0 (take l.place l.turns)
