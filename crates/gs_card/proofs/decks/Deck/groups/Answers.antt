use Rattle.std.proofs.{Common.{ℕ, List, Vec, Global}, lemmas.Result.{IfOk-weaker}}
use Rattle.gs_card.proofs.GroupLaws.{each_is_group, each_within}
use Rattle.gs_card.proofs.decks.Deck.groups.Goals as goal

pub returns-clause-each : goal.returns-clause-each
returns-clause-each c = IfOk-weaker _ _ _ (λ (found : Vec (List ℕ) Global) e. each_is_group c.args.left.now c.args.size found.items e) c.all_groups.ensures

pub returns-clause-within : goal.returns-clause-within
returns-clause-within c = IfOk-weaker _ _ _ (λ (found : Vec (List ℕ) Global) e. each_within c.args.left.now c.args.size found.items e) c.all_groups.ensures
