use Rattle.std.proofs.{Common.{arith}, lemmas.Grind.{common_steps}}
use Rattle.serde_json.proofs.Views.{view-Array}
use Rattle.gs_file.proofs.json_form.numbers_value.Goals as goal

pub loop-number-preserved : goal.loop-number-preserved
loop-number-preserved c = grind (arith, common_steps)

pub returns : goal.returns
returns c = grind (arith, common_steps, view-Array)

pub loop-number-init : goal.loop-number-init
loop-number-init c = grind arith
