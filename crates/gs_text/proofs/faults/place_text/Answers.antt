use Rattle.std.proofs.Common.{◌++◌, ◌∙◌, List, ℕ, ap, append_assoc, codes, sym}
use Rattle.gs_text.specs.FaultText.{in_round}
use Rattle.gs_text.proofs.faults.place_text.Goals as goal

pub returns : goal.returns
returns c =
    let wrong : List ℕ = c.args.wrong.now in
    c.in_ok-push_in_round.ensures ∙ ap (λ (t : List ℕ). t ++ in_round c.args.place.round) (c.in_ok-text.ensures.ok
    ∙ sym (append_assoc wrong (codes " ") c.text-key.result.now) ∙ ap (λ (k : List ℕ). wrong ++ codes " " ++ k) c.text-key.ensures)
