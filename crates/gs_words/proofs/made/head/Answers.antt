use Rattle.std.proofs.Common.{rules, append_assoc}
use Rattle.gs_words.specs.Made.{head_text}
use Rattle.gs_words.proofs.made.head.Goals as goal

pub returns : goal.returns
unfolding head_text
returns c = search (rules, append_assoc)
