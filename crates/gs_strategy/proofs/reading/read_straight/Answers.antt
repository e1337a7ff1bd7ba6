use Rattle.gs_strategy.specs.Views.{stored_view}
use Rattle.gs_strategy.proofs.Only.{straight_in}
use Rattle.gs_strategy.proofs.reading.read_straight.Goals as goal

pub returns : goal.returns
returns c = straight_in c.args.bytes.now c.in_ok-version.version (stored_view c.in_ok-stored.stored) c.confirmed.result c.in_ok-stored.ensures
    c.confirmed.ensures
