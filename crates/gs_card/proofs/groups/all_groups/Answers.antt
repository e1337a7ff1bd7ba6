use Rattle.std.proofs.Common.{arith}
use Rattle.gs_model.proofs.GroupSteps.{map_none}
use Rattle.gs_card.proofs.groups.all_groups.Goals as goal

pub returns : goal.returns
returns c = rw (c.in_ok-push_groups.ensures.found, c.new-out.ensures.items, c.in_ok-front.ensures.items, c.in_ok-rest.ensures.items) (map_none _)

pub push_groups-requires-clause-ascending : goal.push_groups-requires-clause-ascending
push_groups-requires-clause-ascending c = grind arith

pub push_groups-requires-clause-below : goal.push_groups-requires-clause-below
push_groups-requires-clause-below c = grind arith
