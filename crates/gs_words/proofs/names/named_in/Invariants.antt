use Rattle.std.proofs.Common.{◌≡◌, drop}
use Rattle.std.specs.{Prelude.{find}, Str.{bytes_eq}}
use Rattle.gs_words.specs.Commands.{command_word}
use Rattle.gs_words.proofs.names.named_in.Given as goal

abbrev pub invariant-loop-name : goal.invariant-loop-name
invariant-loop-name l = find (λ c. bytes_eq l.word (command_word c)) l.names ≡ find (λ c. bytes_eq l.word (command_word c)) (drop l.name-index l.names)
