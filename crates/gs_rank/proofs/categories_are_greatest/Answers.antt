use Rattle.gs_rank.proofs.Greatest.{is_greatest}
use Rattle.gs_rank.proofs.categories_are_greatest.Goals as goal

pub returns : goal.returns
returns c = is_greatest
