use Rattle.std.proofs.Common.{◌≡◌, ◌<◌, ◌≤◌, ℕ, List, arith, get_or, length, sym, ◌∙◌, ap, subst, Vec, Global}
use Rattle.gs_model.specs.{Classes.{list_of, class_count}, Rows.{rows}}
use Rattle.gs_filter.specs.Filter.{Filter}
use Rattle.gs_filter.proofs.{ClassLaws.{class_at}, RowLaws.{length-rows}}
use Rattle.gs_filter.proofs.classes.Classes.class_of.Goals as goal

pub returns-clause-class : goal.returns-clause-class
returns-clause-class c =
    let e : c.of_round.result.now ≡ list_of c.args.self.now.lists c.args.round =
    c.of_round.ensures ∙ ap (λ (vs : List (Vec ℕ Global)). list_of (rows vs) c.from.result) c.deref.ensures.value
    ∙ ap (λ k. list_of (rows c.self.inside.lists.items) k) c.from.ensures
    ∙ ap (λ (f : Filter). list_of f.lists c.args.round) c.self.view_is in
    subst (λ (xs : List ℕ). (0 < get_or xs c.args.signal 0) × (get_or xs c.args.signal 0 ≤ class_count c.args.self.now.lists c.args.round)) (sym e)
    (class_at c.args.self.now c.args.round c.requires.some c.requires.top c.args.signal c.requires.within)

pub of_round-requires-clause-top : goal.of_round-requires-clause-top
of_round-requires-clause-top c =
    let here = ap (λ (vs : List (Vec ℕ Global)). length vs) c.deref.ensures.value in
    let all = ap (λ (f : Filter). length f.lists) c.self.view_is in
    omega (arith, c.from.ensures, here, all, length-rows c.self.inside.lists.items, c.requires.top)
