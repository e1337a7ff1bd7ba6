use Rattle.std.proofs.Common.{rules, arith}
use Rattle.std.proofs.{Common.{cond, sym, ap, ◌∙◌, to_z, of_z}, lemmas.Int.{to_z-of_z}}
use Rattle.std.specs.Prelude.{◌+ℤ◌}
use mir.Syntax.{w128}
use Rattle.gs_model.proofs.Basics.{not_eq}
use Rattle.gs_best.proofs.raising.added.Goals as goal

pub returns-else-choice-eq0 : goal.returns-else-choice-eq0
returns-else-choice-eq0 c =
    let a = c.args in
    to_z-of_z w128 c.plus.result (record { sfits = c.plus.type_inv }) ∙ c.plus.ensures
    ∙ ap (λ z. z +ℤ to_z w128 (of_z w128 a.worth)) (to_z-of_z w128 a.sum c.ranges.sum)
    ∙ ap (λ z. a.sum +ℤ z) (to_z-of_z w128 a.worth c.ranges.worth)
    ∙ sym (ap (λ b. cond b a.worth (a.sum +ℤ a.worth)) (not_eq a.choice 0 c.if-choice-eq0.false))

pub plus-requires : goal.plus-requires
plus-requires c = search rules

pub returns-then-choice-eq0 : goal.returns-then-choice-eq0
returns-then-choice-eq0 c = grind arith
