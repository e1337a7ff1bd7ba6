use Rattle.std.proofs.Common.{◌≡◌, ◌++◌, List, ℕ, append_assoc, decimal, string_bytes}
use Rattle.gs_text.proofs.Written.{same_text}
use Rattle.gs_text.proofs.faults.counts_text.Goals as goal

regrouped : (a b d e : List ℕ) → a ++ (b ++ (d ++ e)) ≡ a ++ b ++ d ++ e
regrouped a b d e = simp append_assoc

pub returns : goal.returns
returns c = same_text string_bytes c.format.result _ _ c.format.ensures.ok
    (regrouped c.args.wrong.now (decimal c.args.first) c.args.word.now (decimal c.args.second))
