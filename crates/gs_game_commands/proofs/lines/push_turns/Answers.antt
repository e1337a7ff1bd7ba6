use Rattle.std.proofs.Common.{rules, string_bytes}
use Rattle.gs_game_commands.proofs.TurnLines.{lines_more}
use Rattle.gs_game_commands.proofs.lines.push_turns.Goals as goal

pub loop-place-preserved : goal.loop-place-preserved
loop-place-preserved c = lines_more c.args.turns.now c.loop-place.place (record { enter = 0; leave = 0 }) (string_bytes c.args.text.now)
    (string_bytes c.loop-place.text) (string_bytes c.push_turn.new.text) (search rules) c.loop-place.invariant c.in_ok-push_turn.ensures
