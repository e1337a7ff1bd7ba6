use Rattle.std.proofs.Common.{take}
use Rattle.gs_words.specs.Program.{Is, with_commands}
use Rattle.gs_words.proofs.command.with_commands.Given as goal

abbrev pub invariant-loop-name : goal.invariant-loop-name
invariant-loop-name l = Is (with_commands (take l.name-index l.names)) l.command
