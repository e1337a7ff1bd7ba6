use Rattle.std.proofs.{Common.{◌≡◌, ◌∙◌, ℕ, List, length, sym, ap, subst, ⊎_elim, arith}, lemmas.Bool.{cases_lt}, lemmas.Grind.{common_steps}}
use Rattle.gs_model.specs.Rows.{rows}
use Rattle.gs_filter.specs.Faults.{AgreeIn}
use Rattle.gs_filter.proofs.RowLaws.{length-rows}
use Rattle.gs_filter.proofs.rows.first_length.Goals as goal

pub returns-then-parents-lists : goal.returns-then-parents-lists
returns-then-parents-lists c = grind (arith, common_steps)

pub loop-round-preserved : goal.loop-round-preserved
loop-round-preserved c =
    let parents = rows c.args.parents.now in
    let lists = rows c.args.lists.now in
    λ r some below. ⊎_elim
    (λ before. c.loop-round.invariant r some before)
    (λ from.
    let here : c.loop-round.round ≡ r = omega arith in
    subst (AgreeIn parents lists) here (record {
      with_parents = omega (arith, length-rows c.args.parents.now, c.min-rounds.ensures);
      with_classes = omega (arith, length-rows c.args.lists.now, c.min-rounds.ensures);
      lengths = sym (ap (λ (l : List ℕ). length l) c.of_round-in-loop-round.ensures) ∙ sym c.if-of_round.false
          ∙ ap (λ (l : List ℕ). length l) c.of_round.ensures;
    }))
    (cases_lt r c.loop-round.round)
