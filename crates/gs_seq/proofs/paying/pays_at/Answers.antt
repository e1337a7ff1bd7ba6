use Rattle.std.proofs.Common.{◌≡◌, ◌∙◌, pos, ℕ, ℤ, sym, ap, arith, rules}
use Rattle.std.specs.Prelude.{◌*ℤ◌}
use Rattle.gs_model.specs.Deals.{Deal}
use Rattle.gs_model.proofs.Best.{nat_scale}
use Rattle.gs_seq.proofs.paying.pays_at.Goals as goal

swapped : (n w : ℕ) (o : ℤ) → pos w *ℤ (pos n *ℤ o) ≡ pos n *ℤ (pos w *ℤ o)
swapped n w o = nat_scale w n o ∙ ap (λ k. pos k *ℤ o) (omega arith) ∙ sym (nat_scale n w o)

pub returns-in-Show : goal.returns-in-Show
returns-in-Show c = λ (d : Deal). let is = c.in-Show.is in rw is (swapped c.args.end.put d.weight d.outcome)

pub overflow_sub-result : goal.overflow_sub-result
overflow_sub-result c = grind arith

pub returns-else-player-folder : goal.returns-else-player-folder
returns-else-player-folder c = grind arith

pub returns-then-player-folder : goal.returns-then-player-folder
returns-then-player-folder c = search rules
