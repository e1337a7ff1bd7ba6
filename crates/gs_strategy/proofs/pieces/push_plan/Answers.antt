use Rattle.std.proofs.Common.{◌++◌, codes, decimal, List, ℕ, ap, ◌∙◌}
use Rattle.serde_json.proofs.OnLiterals.{serde_json_on_literals}
use Rattle.serde_json.specs.Written.{compact_text}
use Rattle.gs_strategy.specs.Texts.{numbers_data}
use Rattle.gs_strategy.proofs.Appended.{plan_pieces}
use Rattle.gs_strategy.proofs.pieces.push_plan.Goals as goal

pub returns : goal.returns
unfolding serde_json_on_literals
returns c =
    let weights = c.in_ok-push_weights.ensures ∙ ap (λ (ws : List ℕ). c.extend_from_slice-3.new.self.items ++ compact_text (numbers_data ws))
    c.deref.ensures.value in
    let total = c.in_ok-extend_from_slice-2.ensures.items ∙ ap (λ (t : List ℕ). t ++ codes "{\"total\":") c.in_ok-extend_from_slice.ensures.items in
    c.in_ok-push.ensures.items ∙ plan_pieces (c.args.text.now.items ++ c.args.key.now) (codes "{\"total\":") (decimal c.args.plan.now.total)
    (codes ",\"weights\":") (compact_text (numbers_data c.args.plan.now.weights.items)) _ _ _ _ total c.in_ok-push_number.ensures
    c.in_ok-extend_from_slice-3.ensures.items weights
