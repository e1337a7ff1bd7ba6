use Rattle.std.proofs.Common.{ap, ◌∙◌}
use Rattle.gs_game.specs.declared.game.Game.{Game}
use Rattle.serde_json.proofs.Views.{view-Object}
use Rattle.gs_file.specs.{JsonForm.{game_data}, Views.{game_view}}
use Rattle.gs_file.proofs.json_form.game_value.Goals as goal

pub returns : goal.returns
returns c = view-Object c.put_game.new.members ∙ c.in_ok-put_game.ensures ∙ ap (λ (g : Game). game_data c.args.version (game_view g)) c.game.ensures
