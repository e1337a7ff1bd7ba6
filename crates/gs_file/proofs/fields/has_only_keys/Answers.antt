use Rattle.std.proofs.Common.{◌∙◌}
use Rattle.gs_file.proofs.Keys.{has_only_keys}
use Rattle.gs_file.proofs.fields.has_only_keys.Goals as goal

pub returns : goal.returns
returns c = c.all_known.ensures ∙ has_only_keys c.args.form c.args.known.now c.args.table.now
