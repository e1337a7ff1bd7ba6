use Rattle.std.proofs.Common.{sym, ap, ◌∙◌}
use Rattle.std.specs.Prelude.{option_map}
use Rattle.gs_game.specs.{Seen.{step_of}, declared.positions.Point.{Point}}
use Rattle.gs_seq.proofs.Forms.{form_inside, form_reads}
use Rattle.gs_play.proofs.plot.gate_of.Goals as goal

pub returns : goal.returns
returns c =
    let r = form_reads c.args.form.now c.game.result.now c.points.result.now c.args.point c.index-points-point.result c.game.ensures c.points.ensures c.requires
    c.index-points-point.is in
    ap (λ (p : Point). option_map step_of p.own) (sym c.index-points-point.is) ∙ r.own

pub bounds-points-point-2 : goal.bounds-points-point-2
bounds-points-point-2 c = form_inside c.args.form.now c.game.result.now c.points.result.now c.args.point c.game.ensures c.points.ensures c.requires

pub bounds-points-point : goal.bounds-points-point
bounds-points-point c = form_inside c.args.form.now c.game.result.now c.points.result.now c.args.point c.game.ensures c.points.ensures c.requires
