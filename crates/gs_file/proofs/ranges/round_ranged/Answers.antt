use Rattle.std.proofs.{Common.{sym, ap, ◌∙◌, rules}, lemmas.Int.{to_z-of_z}}
use Rattle.std.specs.Int.RustNames.{FitsSigned}
use mir.Syntax.{w64}
use Rattle.gs_file.specs.{Tables.{within}, Views.{ranged_view, round_view}}
use Rattle.gs_file.proofs.{Loop.{handed_on}, RoundSteps.{within_give, within_stops_play, within_stops_private, within_stops_public}}
use Rattle.gs_file.proofs.ranges.round_ranged.Goals as goal

pub returns-in_err-private : goal.returns-in_err-private
returns-in_err-private c =
    let fits1 : FitsSigned w64 c.args.fields.now.private = search rules in
    let same1 = ap (λ z. within c.within_round.result 0 2 z) (sym (to_z-of_z w64 c.args.fields.now.private fits1)) in
    handed_on ranged_view _ _ _ _ c.from_residual.ensures.1 c.in_err-private.ensures.gives
    (λ f h. within_stops_private c.args.round (round_view c.args.fields.now) c.within_round.ensures f (same1 ∙ h))

pub returns-in_err-public : goal.returns-in_err-public
returns-in_err-public c =
    let fits1 : FitsSigned w64 c.args.fields.now.private = search rules in
    let same1 = ap (λ z. within c.within_round.result 0 2 z) (sym (to_z-of_z w64 c.args.fields.now.private fits1)) in
    let fits2 : FitsSigned w64 c.args.fields.now.public = search rules in
    let same2 = ap (λ z. within c.within_round-2.result 0 3 z) (sym (to_z-of_z w64 c.args.fields.now.public fits2)) in
    handed_on ranged_view _ _ _ _ c.from_residual-in_err-public.ensures.1 c.in_err-public.ensures.gives
    (λ f h. within_stops_public c.args.round (round_view c.args.fields.now) c.within_round.ensures (same1 ∙ c.in_ok-private.ensures.gives)
    c.within_round-2.ensures f (same2 ∙ h))

pub returns-in_err-betting : goal.returns-in_err-betting
returns-in_err-betting c =
    let fits1 : FitsSigned w64 c.args.fields.now.private = search rules in
    let same1 = ap (λ z. within c.within_round.result 0 2 z) (sym (to_z-of_z w64 c.args.fields.now.private fits1)) in
    let fits2 : FitsSigned w64 c.args.fields.now.public = search rules in
    let same2 = ap (λ z. within c.within_round-2.result 0 3 z) (sym (to_z-of_z w64 c.args.fields.now.public fits2)) in
    handed_on ranged_view _ _ _ _ c.from_residual-in_err-betting.ensures.1 c.in_err-betting.ensures
    (within_stops_play c.args.round (round_view c.args.fields.now) c.within_round.ensures (same1 ∙ c.in_ok-private.ensures.gives)
    c.within_round-2.ensures (same2 ∙ c.in_ok-public.ensures.gives))

pub returns : goal.returns
returns c =
    let fits1 : FitsSigned w64 c.args.fields.now.private = search rules in
    let same1 = ap (λ z. within c.within_round.result 0 2 z) (sym (to_z-of_z w64 c.args.fields.now.private fits1)) in
    let fits2 : FitsSigned w64 c.args.fields.now.public = search rules in
    let same2 = ap (λ z. within c.within_round-2.result 0 3 z) (sym (to_z-of_z w64 c.args.fields.now.public fits2)) in
    within_give c.args.round (round_view c.args.fields.now) c.within_round.ensures (same1 ∙ c.in_ok-private.ensures.gives)
    c.within_round-2.ensures (same2 ∙ c.in_ok-public.ensures.gives) c.in_ok-betting.ensures

pub invariant_of-result : goal.invariant_of-result
invariant_of-result c = record { few_private = c.in_ok-private.ensures.range.1; few_public = c.in_ok-public.ensures.range.1 }
