use Rattle.std.proofs.{Common.{◌≤◌, All, arith, subst, sym}, lemmas.Grind.{common_steps}}
use Rattle.gs_file.proofs.GameMembers.{digit_put}
use Rattle.gs_file.proofs.json_form.copies_of.Goals as goal

pub loop-count-preserved : goal.loop-count-preserved
loop-count-preserved c =
    let i = c.loop-count.count-index in
    let few = subst (All (λ n. n ≤ 9)) (sym c.counts-counts.ensures.counts) c.counts-counts.ensures.deck.copies in
    digit_put _ _ _ c.counts-counts.result.now i c.from.result c.in_ok-push.ensures.bytes c.loop-count.invariant c.in_ok-push.ensures.ascii
    c.from.ensures
    (few i 0 c.loop-count-test.true) c.loop-count-test.true

pub returns : goal.returns
returns c = grind (arith, common_steps)

pub overflow_add-count : goal.overflow_add-count
overflow_add-count c = grind arith
