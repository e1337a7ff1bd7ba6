use Rattle.std.proofs.{Common.{◌≤◌, length, subst, sym, ap, ◌∙◌, rules}, lemmas.Int.{to_z-of_z}}
use Rattle.std.specs.Int.RustNames.{FitsSigned}
use mir.Syntax.{w64}
use Rattle.gs_file.specs.{Tables.{within}, Views.{stated_view, top_view}}
use Rattle.gs_file.proofs.{Loop.{handed_over, handed_up, no_value}, RoundSteps.{stated_give, stated_stops_ante, stated_stops_bonus, stated_stops_count}}
use Rattle.gs_file.proofs.RoundSteps.{stated_stops_ranged, stated_stops_ranking, stated_stops_rounds}
use Rattle.gs_file.proofs.ranges.stated_of.Goals as goal
use Rattle.gs_file.proofs.ranges.stated_of.Goals.{After-top}

pub returns-in_err-check_count-clause-gives : goal.returns-in_err-check_count-clause-gives
returns-in_err-check_count-clause-gives c =
    let fails = rw c.deref.ensures.value at c.in_err-check_count.ensures.gives in
    handed_up stated_view _ _ _ _ c.from_residual.ensures.1 fails
    (stated_stops_count c.args.form (top_view c.args.fields.now))

pub returns-in_err-rounds-clause-gives : goal.returns-in_err-rounds-clause-gives
returns-in_err-rounds-clause-gives c =
    let count = rw c.deref.ensures.value at c.in_ok-check_count.ensures.gives in
    let fails = rw c.deref-2.ensures.value at c.in_err-rounds.ensures.gives in
    handed_over stated_view _ _ _ _ c.from_residual-in_err-rounds.ensures.1 fails
    (stated_stops_rounds c.args.form (top_view c.args.fields.now) count)

pub returns-in_err-ranking-clause-gives : goal.returns-in_err-ranking-clause-gives
returns-in_err-ranking-clause-gives c =
    let count = rw c.deref.ensures.value at c.in_ok-check_count.ensures.gives in
    let rounds = rw c.deref-2.ensures.value at c.in_ok-rounds.ensures.gives in
    handed_up stated_view _ _ _ _ c.from_residual-in_err-ranking.ensures.1 c.in_err-ranking.ensures
    (stated_stops_ranking c.args.form (top_view c.args.fields.now) count rounds)

pub returns-in_err-bonus-clause-gives : goal.returns-in_err-bonus-clause-gives
returns-in_err-bonus-clause-gives c =
    let count = rw c.deref.ensures.value at c.in_ok-check_count.ensures.gives in
    let rounds = rw c.deref-2.ensures.value at c.in_ok-rounds.ensures.gives in
    handed_over stated_view _ _ _ _ c.from_residual-in_err-bonus.ensures.1 c.in_err-bonus.ensures.gives
    (stated_stops_bonus c.args.form (top_view c.args.fields.now) count rounds c.in_ok-ranking.ensures)

ante_fits : (c : After-top) → FitsSigned w64 c.args.fields.now.ante
ante_fits c = search rules

pub returns-in_err-ante-clause-gives : goal.returns-in_err-ante-clause-gives
returns-in_err-ante-clause-gives c =
    let fits = ante_fits (goal.at.returns-in_err-ante-clause-gives c).After-top in
    let same = ap (λ z. within c.top.result 1 4096 z) (sym (to_z-of_z w64 c.args.fields.now.ante fits)) in
    let count = rw c.deref.ensures.value at c.in_ok-check_count.ensures.gives in
    let rounds = rw c.deref-2.ensures.value at c.in_ok-rounds.ensures.gives in
    handed_up stated_view _ _ _ _ c.from_residual-in_err-ante.ensures.1 c.in_err-ante.ensures.gives
    (λ f h. stated_stops_ante c.args.form (top_view c.args.fields.now) count rounds c.in_ok-ranking.ensures c.in_ok-bonus.ensures.gives
    c.top.ensures f (same ∙ h))

pub returns-in_err-rounds-2-clause-gives : goal.returns-in_err-rounds-2-clause-gives
returns-in_err-rounds-2-clause-gives c =
    let fits = ante_fits (goal.at.returns-in_err-rounds-2-clause-gives c).After-top in
    let same = ap (λ z. within c.top.result 1 4096 z) (sym (to_z-of_z w64 c.args.fields.now.ante fits)) in
    let count = rw c.deref.ensures.value at c.in_ok-check_count.ensures.gives in
    let rounds = rw c.deref-2.ensures.value at c.in_ok-rounds.ensures.gives in
    let fails = rw c.deref-3.ensures.value at c.in_err-rounds-2.ensures.gives in
    handed_over stated_view _ _ _ _ c.from_residual-in_err-rounds-2.ensures.1 fails
    (stated_stops_ranged c.args.form (top_view c.args.fields.now) count rounds c.in_ok-ranking.ensures c.in_ok-bonus.ensures.gives
    c.top.ensures (same ∙ c.in_ok-ante.ensures.gives))

pub returns-clause-gives : goal.returns-clause-gives
returns-clause-gives c =
    let fits = ante_fits (goal.at.returns-clause-gives c).After-top in
    let same = ap (λ z. within c.top.result 1 4096 z) (sym (to_z-of_z w64 c.args.fields.now.ante fits)) in
    let count = rw c.deref.ensures.value at c.in_ok-check_count.ensures.gives in
    let rounds = rw c.deref-2.ensures.value at c.in_ok-rounds.ensures.gives in
    let ranged = rw c.deref-3.ensures.value at c.in_ok-rounds-2.ensures.gives in
    stated_give c.args.form (top_view c.args.fields.now) count rounds c.in_ok-ranking.ensures c.in_ok-bonus.ensures.gives c.top.ensures (same ∙
    c.in_ok-ante.ensures.gives) ranged

pub returns-clause-few : goal.returns-clause-few
returns-clause-few c = c.in_ok-rounds-2.ensures.few

pub returns-in_err-check_count-clause-few : goal.returns-in_err-check_count-clause-few
returns-in_err-check_count-clause-few c = no_value _ _ _ c.from_residual.ensures.1

pub returns-in_err-rounds-clause-few : goal.returns-in_err-rounds-clause-few
returns-in_err-rounds-clause-few c = no_value _ _ _ c.from_residual-in_err-rounds.ensures.1

pub returns-in_err-ranking-clause-few : goal.returns-in_err-ranking-clause-few
returns-in_err-ranking-clause-few c = no_value _ _ _ c.from_residual-in_err-ranking.ensures.1

pub returns-in_err-bonus-clause-few : goal.returns-in_err-bonus-clause-few
returns-in_err-bonus-clause-few c = no_value _ _ _ c.from_residual-in_err-bonus.ensures.1

pub returns-in_err-ante-clause-few : goal.returns-in_err-ante-clause-few
returns-in_err-ante-clause-few c = no_value _ _ _ c.from_residual-in_err-ante.ensures.1

pub returns-in_err-rounds-2-clause-few : goal.returns-in_err-rounds-2-clause-few
returns-in_err-rounds-2-clause-few c = no_value _ _ _ c.from_residual-in_err-rounds-2.ensures.1

pub invariant_of-result : goal.invariant_of-result
invariant_of-result c = record {
  some = c.in_ok-ante.ensures.range.0;
  little = c.in_ok-ante.ensures.range.1;
  bonuses = c.in_ok-bonus.ensures.is_bonus;
}

pub rounds_ranged-requires : goal.rounds_ranged-requires
rounds_ranged-requires c = subst (λ n. n ≤ 4) (sym c.deref-3.ensures.len) c.in_ok-rounds.ensures.few

pub rounds_of-requires : goal.rounds_of-requires
rounds_of-requires c = subst (λ rs. length rs ≤ 4) (c.deref.ensures.value ∙ sym c.deref-2.ensures.value) c.in_ok-check_count.ensures.few

pub ranking_by_word-requires-text-word : goal.ranking_by_word-requires-text-word
ranking_by_word-requires-text-word c = search rules
