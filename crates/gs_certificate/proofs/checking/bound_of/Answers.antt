use Rattle.std.specs.Prelude.{ℤ, pos, ◌<ℤ◌}
use Rattle.std.proofs.{Common.{◌≡◌, ◌*◌, ap, ◌∙◌, sym, subst, arith}, lemmas.Int.{ints}}
use mir.Val.{of_z, to_z}
use mir.Syntax.{w128}
use Rattle.gs_best.specs.{Sides.{frame_at}, Judged.{IsOver}}
use Rattle.gs_model.specs.Frame.{total_weight}
use Rattle.gs_seq.proofs.Signed.{read_back}
use Rattle.gs_certificate.proofs.{Bounds.{some_scale}, checking.bound_of.Goals.{After-from}}
use Rattle.gs_certificate.proofs.checking.bound_of.Goals as goal

-- the scale, as it is handed on
scale : (c : After-from) → let s = c.args.claim.now.side in to_z w128 (of_z w128 c.from.result) ≡ pos (total_weight (frame_at s) * s.other.now.total)
scale c = read_back c.from.result _ (record { sfits = c.from.type_inv })
    (c.from.ensures ∙ ap (λ n. pos (n * c.args.claim.now.side.other.now.total)) c.deal_weight.ensures.value)

pub returns : goal.returns
returns c =
    let sum = read_back c.start_total.result _ (record { sfits = c.start_total.type_inv }) c.start_total.ensures.value in
    let s = c.args.claim.now.side in
    subst (λ (z : ℤ). IsOver z (pos (total_weight (frame_at s) * s.other.now.total)) c.fraction.result) sum
    (subst (λ (z : ℤ). IsOver (to_z w128 (of_z w128 c.start_total.result)) z c.fraction.result) (scale (goal.at.returns c).After-from) c.fraction.ensures)

pub fraction-requires-clause-positive : goal.fraction-requires-clause-positive
fraction-requires-clause-positive c = subst (λ (z : ℤ). pos 0 <ℤ z) (sym (scale c)) (omega (arith, ints, some_scale c.args.claim.now.side))

pub overflow_mul-scale : goal.overflow_mul-scale
overflow_mul-scale c = grind arith

pub fraction-requires-clause-fits : goal.fraction-requires-clause-fits
fraction-requires-clause-fits c = grind arith
