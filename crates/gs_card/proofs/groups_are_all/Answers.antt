use Rattle.gs_card.proofs.GroupLaws.{groups_all}
use Rattle.gs_card.proofs.groups_are_all.Goals as goal

pub returns : goal.returns
returns c = groups_all
