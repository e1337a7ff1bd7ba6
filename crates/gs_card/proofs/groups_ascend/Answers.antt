use Rattle.gs_card.proofs.GroupOrder.{groups_in_order}
use Rattle.gs_card.proofs.groups_ascend.Goals as goal

pub returns : goal.returns
returns c = λ left size. groups_in_order size left 0
