use Rattle.std.proofs.Common.{rules, append_assoc}
use Rattle.gs_words.specs.Made.{round_block}
use Rattle.gs_words.proofs.made.push_round.Goals as goal

pub returns : goal.returns
unfolding round_block
returns c = search (rules, append_assoc)
