use Rattle.std.proofs.{Common.{arith}, lemmas.Grind.{common_steps}}
use Rattle.serde_json.proofs.Views.{view-Array}
use Rattle.gs_file.proofs.json_form.round_values.Goals as goal

pub loop-round-preserved : goal.loop-round-preserved
loop-round-preserved c = grind (arith, common_steps)

pub returns : goal.returns
returns c = grind (arith, common_steps, view-Array)

pub loop-round-init : goal.loop-round-init
loop-round-init c = grind arith
