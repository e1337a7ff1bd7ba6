use Rattle.std.proofs.{Common.{ℕ, cond, ap, sym, ◌∙◌, arith}, lemmas.Bool.Decides.{Decides-eqb}}
use Rattle.std.specs.Prelude.{◌==◌}
use Rattle.gs_model.specs.{Frame.{round_of}, Positions.{at_point}}
use Rattle.gs_model.proofs.Basics.{not_eq}
use Rattle.gs_seq.specs.Abstracts.{abstract_frame}
use Rattle.gs_seq.proofs.SlotLaws.{sum_range_more}
use Rattle.gs_best.proofs.work.points_of.Goals as goal
use Rattle.gs_best.proofs.work.points_of.Goals.{then-round_at-round, else-round_at-round}

pub loop-point-preserved : goal.loop-point-preserved
loop-point-preserved c =
    let f = abstract_frame c.args.form.now in
    let q = c.loop-point.point in
    let i = c.loop-point.invariant in
    let more = sum_range_more (λ q. cond (round_of f (at_point q) == c.args.round) 1 0) q in
    elim c.if-round_at-round.branch [
      | then-round_at-round w ↦
          let here = ap (λ b. cond {A = ℕ} b 1 0) ((Decides-eqb (round_of f (at_point q)) c.args.round).1
          (sym c.round_at.ensures.value ∙ w.if-round_at-round.true)) in record {
            count_is = omega (arith, more, here, i.count_is, w.count-is);
            within = omega (arith, i.within, w.count-is);
          }
      | else-round_at-round w ↦
          let here = ap (λ b. cond {A = ℕ} b 1 0) (not_eq (round_of f (at_point q)) c.args.round
          (λ e. w.if-round_at-round.false (c.round_at.ensures.value ∙ e))) in record {
            count_is = omega (arith, more, here, i.count_is, w.count-is);
            within = omega (arith, i.within, w.count-is);
          }
    ]

pub returns : goal.returns
returns c = grind arith
