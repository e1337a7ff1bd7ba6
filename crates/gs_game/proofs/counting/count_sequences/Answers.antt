use Rattle.std.proofs.Common.{ℕ, ◌∙◌, ap, min}
use Rattle.gs_game.proofs.CountSteps.{no_cards}
use Rattle.gs_game.proofs.counting.count_sequences.Goals as goal

pub returns-clause-count : goal.returns-clause-count
returns-clause-count c = c.count_from.ensures.count ∙ ap (λ (n : ℕ). min n c.args.cap) (no_cards c.args.sizes.now c.args.left.now 0)
