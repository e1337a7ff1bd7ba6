use Rattle.std.proofs.Common.{ap, ◌∙◌, ◌++◌, List, ℕ}
use Rattle.serde_json.specs.Written.{compact_text, has_float}
use Rattle.gs_file.specs.Views.{valid_view}
use Rattle.gs_strategy.proofs.Floats.{game_plain}
use Rattle.gs_strategy.proofs.pieces.push_game.Goals as goal

pub returns : goal.returns
returns c =
    let plain = ap has_float c.in_ok-value.ensures ∙ game_plain c.args.version (valid_view c.args.game.now) in
    let game_text = c.deref.ensures.value ∙ c.in_ok-game_text.ensures.text plain ∙ ap compact_text c.in_ok-value.ensures in
    c.in_ok-extend_from_slice.ensures.items ∙ ap (λ (xs : List ℕ). c.args.text.now.items ++ xs) game_text
