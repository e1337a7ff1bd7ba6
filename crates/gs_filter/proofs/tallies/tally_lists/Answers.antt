use Rattle.std.proofs.{lemmas.Grind.{common_steps}, Common.{◌≡◌, ◌≤◌, length, ◌∙◌, ap, arith, subst, ⊎_elim}, lemmas.Bool.{cases_lt}}
use Rattle.gs_model.specs.{Numbering.{IsNumbered}, Classes.{list_of}, Rows.{rows}}
use Rattle.gs_filter.specs.Tallies.{tallies_of}
use Rattle.gs_filter.proofs.RowLaws.{length-rows, made_more}
use Rattle.gs_filter.proofs.tallies.tally_lists.Goals as goal

pub loop-round-preserved : goal.loop-round-preserved
loop-round-preserved c =
    let top : c.loop-round.round ≤ length (rows c.args.lists.now) = omega (arith, length-rows c.args.lists.now) in
    let made : c.in-Ok.list ≡ tallies_of (list_of (rows c.args.lists.now) c.loop-round.round) = c.in-Ok.ensures.tallied
    ∙ ap tallies_of c.of_round.ensures in
    record {
      tallied =
          c.in_ok-push-in-Ok.ensures.items
          ∙ made_more tallies_of (rows c.args.lists.now) c.loop-round.tallies.items c.loop-round.round c.in-Ok.list
          (omega arith) top c.loop-round.invariant.tallied made;
      numbered = λ r some below. ⊎_elim
          (λ before. c.loop-round.invariant.numbered r some before)
          (λ from. let here : c.loop-round.round ≡ r = omega arith in subst (λ k. IsNumbered (list_of (rows c.args.lists.now) k)) here
          (subst IsNumbered c.of_round.ensures c.in-Ok.ensures.numbered))
          (cases_lt r c.loop-round.round);
    }

pub returns-in-Err-Fault-clause-unseen : goal.returns-in-Err-Fault-clause-unseen
returns-in-Err-Fault-clause-unseen c = grind (arith, common_steps)

pub returns-clause-numbered : goal.returns-clause-numbered
returns-clause-numbered c = grind (arith, common_steps)

pub tally_list-requires : goal.tally_list-requires
tally_list-requires c = grind (arith, common_steps)

pub returns-clause-tallied : goal.returns-clause-tallied
returns-clause-tallied c = grind (arith, common_steps)
