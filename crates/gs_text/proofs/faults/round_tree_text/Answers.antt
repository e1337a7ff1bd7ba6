use Rattle.std.proofs.Common.{◌++◌, List, ℕ, append_assoc, ap, codes, decimal, string_bytes, sym}
use Rattle.gs_bet.specs.Faults.{fault_text}
use Rattle.gs_text.proofs.Written.{same_text}
use Rattle.gs_text.proofs.faults.round_tree_text.Goals as goal

pub returns : goal.returns
returns c = same_text string_bytes c.format.result _ _ c.format.ensures.ok
    (ap (λ (r : List ℕ). codes "tree of round " ++ r) (sym (append_assoc (decimal c.args.round) (codes ": ") (fault_text c.args.fault))))
