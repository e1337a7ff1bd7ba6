use Rattle.std.proofs.Common.{◌∙◌}
use Rattle.gs_filter.proofs.RowLaws.{round_read}
use Rattle.gs_split.proofs.proposal.first_list.Goals as goal

pub returns : goal.returns
returns c = c.deref.ensures.value ∙ round_read c.args.lists.now 0 c.index-lists-0.result c.requires c.index-lists-0.is
