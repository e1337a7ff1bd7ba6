use Rattle.std.proofs.Common.{ℕ, List, Vec, Global, ap, arith, length}
use Rattle.gs_filter.specs.Filter.{Filter}
use Rattle.gs_filter.proofs.RowLaws.{length-rows}
use Rattle.gs_filter.proofs.classes.Classes.signals.Goals as goal

pub of_round-requires-clause-top : goal.of_round-requires-clause-top
of_round-requires-clause-top c =
    let here = ap (λ (vs : List (Vec ℕ Global)). length vs) c.deref.ensures.value in
    let all = ap (λ (f : Filter). length f.lists) c.self.view_is in
    omega (arith, c.from.ensures, here, all, length-rows c.self.inside.lists.items, c.requires.top)
