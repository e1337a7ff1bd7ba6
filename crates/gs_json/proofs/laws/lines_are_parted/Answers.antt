use Rattle.gs_json.proofs.Feeds.{line_parted}
use Rattle.gs_json.proofs.laws.lines_are_parted.Goals as goal

pub returns : goal.returns
returns c d rest h = line_parted d rest h.canonical
