use Rattle.std.proofs.Common.{◌∙◌, ap}
use Rattle.serde_json.{proofs.Views.{view-Object}, specs.Data.{string}, specs.View.{members_view}}
use Rattle.gs_game.specs.Games.{round_rules}
use Rattle.gs_file.proofs.GameMembers.{round_put}
use Rattle.gs_file.proofs.json_form.round_value.Goals as goal

pub returns : goal.returns
returns c = view-Object c.put-3.new.map ∙ round_put (round_rules c.args.round.now) _ _ _ _ _ _ _ (ap members_view c.new-members.ensures.empty)
    c.in_ok-put.ensures.ok c.from.ensures c.in_ok-put-2.ensures.ok c.from-2.ensures c.in_ok-put-3.ensures.ok (c.from-3.ensures ∙ ap string c.in_ok-tree.ensures)
