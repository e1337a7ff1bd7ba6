use Rattle.std.proofs.Common.{ℕ, ◌≤◌, List, get_or, subst, rules}
use Rattle.gs_play.proofs.Blocks.{renewed}
use Rattle.gs_play.proofs.dues.renew.Goals as goal

pub returns-clause-dues : goal.returns-clause-dues
returns-clause-dues c = record {
  blocks = search rules;
  least = renewed c.args.dues.now.turns.items c.args.dues.now.soonest.items c.args.block c.args.from c.args.stop c.least.result c.requires.block c.requires.from
      c.requires.whole (λ k lo hi. subst (λ (xs : List ℕ). c.least.result ≤ get_or xs k 0) c.deref.ensures.value (c.least.ensures.least k lo hi))
      c.requires.dues.least;
}
