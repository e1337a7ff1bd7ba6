use Rattle.std.proofs.{Common.{rules, sym, ap, ◌∙◌}, lemmas.Int.{to_z-of_z}}
use Rattle.std.specs.Int.RustNames.{FitsSigned}
use mir.Syntax.{w64}
use Rattle.gs_file.specs.Views.{top_view, values_view}
use Rattle.gs_file.proofs.{Loop.{handed_over, handed_up}, Stating.{ok}, TopSteps.{typed_give, typed_stops_ranks, typed_stops_suits, typed_stops_copies, typed_stops_ranking}}
use Rattle.gs_file.proofs.TopSteps.{typed_stops_bonus, typed_stops_ante, typed_stops_rounds}
use Rattle.gs_file.proofs.top.typed_of.Goals as goal

pub returns-in_err-ranks : goal.returns-in_err-ranks
returns-in_err-ranks c =
    handed_up top_view _ _ _ _ c.from_residual.ensures.1 c.in_err-ranks.ensures
    (typed_stops_ranks (values_view c.args.values.now) c.top.ensures)

pub returns-in_err-suits : goal.returns-in_err-suits
returns-in_err-suits c =
    handed_up top_view _ _ _ _ c.from_residual-in_err-suits.ensures.1 c.in_err-suits.ensures
    (typed_stops_suits (values_view c.args.values.now) c.top.ensures c.in_ok-ranks.ensures c.top-2.ensures)

pub returns-in_err-copies : goal.returns-in_err-copies
returns-in_err-copies c =
    handed_up top_view _ _ _ _ c.from_residual-in_err-copies.ensures.1 c.in_err-copies.ensures
    (typed_stops_copies (values_view c.args.values.now) c.top.ensures c.in_ok-ranks.ensures c.top-2.ensures c.in_ok-suits.ensures c.top-3.ensures)

pub returns-in_err-ranking : goal.returns-in_err-ranking
returns-in_err-ranking c =
    handed_up top_view _ _ _ _ c.from_residual-in_err-ranking.ensures.1 c.in_err-ranking.ensures
    (typed_stops_ranking (values_view c.args.values.now) c.top.ensures c.in_ok-ranks.ensures c.top-2.ensures c.in_ok-suits.ensures
    c.top-3.ensures c.in_ok-copies.ensures c.top-4.ensures)

pub returns-in_err-bonus : goal.returns-in_err-bonus
returns-in_err-bonus c =
    handed_over top_view _ _ _ _ c.from_residual-in_err-bonus.ensures.1 c.in_err-bonus.ensures
    (typed_stops_bonus (values_view c.args.values.now) c.top.ensures c.in_ok-ranks.ensures c.top-2.ensures c.in_ok-suits.ensures
    c.top-3.ensures c.in_ok-copies.ensures c.top-4.ensures c.in_ok-ranking.ensures)

pub returns-in_err-ante : goal.returns-in_err-ante
returns-in_err-ante c =
    handed_up top_view _ _ _ _ c.from_residual-in_err-ante.ensures.1 c.in_err-ante.ensures
    (typed_stops_ante (values_view c.args.values.now) c.top.ensures c.in_ok-ranks.ensures c.top-2.ensures c.in_ok-suits.ensures
    c.top-3.ensures c.in_ok-copies.ensures c.top-4.ensures c.in_ok-ranking.ensures c.in_ok-bonus.ensures c.top-5.ensures)

pub returns-in_err-rounds : goal.returns-in_err-rounds
returns-in_err-rounds c =
    handed_over top_view _ _ _ _ c.from_residual-in_err-rounds.ensures.1 c.in_err-rounds.ensures
    (typed_stops_rounds (values_view c.args.values.now) c.top.ensures c.in_ok-ranks.ensures c.top-2.ensures c.in_ok-suits.ensures
    c.top-3.ensures c.in_ok-copies.ensures c.top-4.ensures c.in_ok-ranking.ensures c.in_ok-bonus.ensures c.top-5.ensures
    c.in_ok-ante.ensures c.top-6.ensures)

pub returns : goal.returns
returns c =
    let fits : FitsSigned w64 c.in_ok-ante.ante = search rules in
    let ante = ap ok (sym (to_z-of_z w64 c.in_ok-ante.ante fits)) in
    typed_give (values_view c.args.values.now) c.top.ensures c.in_ok-ranks.ensures c.top-2.ensures c.in_ok-suits.ensures c.top-3.ensures
    c.in_ok-copies.ensures c.top-4.ensures c.in_ok-ranking.ensures c.in_ok-bonus.ensures c.top-5.ensures (c.in_ok-ante.ensures ∙ ante)
    c.top-6.ensures c.in_ok-rounds.ensures

pub fact_in-ranks : goal.fact_in-ranks
fact_in-ranks c = search rules

pub fact_in-suits : goal.fact_in-suits
fact_in-suits c = search rules

pub fact_in-copies : goal.fact_in-copies
fact_in-copies c = search rules

pub fact_in-ranking : goal.fact_in-ranking
fact_in-ranking c = search rules
