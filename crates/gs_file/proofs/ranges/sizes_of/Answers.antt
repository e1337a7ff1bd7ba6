use Rattle.std.proofs.{Common.{sym, ap, subst, ◌∙◌, rules}, lemmas.Int.{to_z-of_z}}
use Rattle.std.specs.Int.RustNames.{FitsSigned}
use mir.Syntax.{w64}
use Rattle.gs_file.specs.{Answers.{Gives}, Reading.{play_within}, Tables.{within}, Views.{play_view, sizes_view}}
use Rattle.gs_file.proofs.{Loop.{handed_on}, RoundSteps.{limit_stops_bet, limit_stops_cap}}
use Rattle.gs_file.proofs.ranges.sizes_of.Goals as goal

pub returns-in_err-bet-in-Limit : goal.returns-in_err-bet-in-Limit
returns-in_err-bet-in-Limit c =
    let fits : FitsSigned w64 c.in-Limit.bet = search rules in
    let same = ap (λ z. within c.within_round.result 1 2048 z) (sym (to_z-of_z w64 c.in-Limit.bet fits)) in
    subst (λ b. Gives sizes_view c.from_residual.result (play_within c.args.round (play_view b))) (sym c.in-Limit.is)
    (handed_on sizes_view _ _ _ _ c.from_residual.ensures.1 c.in_err-bet-in-Limit.ensures.gives
    (λ f h. limit_stops_bet c.args.round c.in-Limit.bet c.in-Limit.cap c.within_round.ensures f (same ∙ h)))

pub returns-in_err-cap-in-Limit : goal.returns-in_err-cap-in-Limit
returns-in_err-cap-in-Limit c =
    let bet_fits : FitsSigned w64 c.in-Limit.bet = search rules in
    let cap_fits : FitsSigned w64 c.in-Limit.cap = search rules in
    let bet = ap (λ z. within c.within_round.result 1 2048 z) (sym (to_z-of_z w64 c.in-Limit.bet bet_fits)) ∙ c.in_ok-bet-in-Limit.ensures.gives in
    let same = ap (λ z. within c.within_round-in-Limit.result 0 8 z) (sym (to_z-of_z w64 c.in-Limit.cap cap_fits)) in
    subst (λ b. Gives sizes_view c.from_residual-in_err-cap-in-Limit.result (play_within c.args.round (play_view b))) (sym c.in-Limit.is)
    (handed_on sizes_view _ _ _ _ c.from_residual-in_err-cap-in-Limit.ensures.1 c.in_err-cap-in-Limit.ensures.gives
    (λ f h. limit_stops_cap c.args.round c.in-Limit.bet c.in-Limit.cap c.within_round.ensures bet c.within_round-in-Limit.ensures f (same ∙ h)))
