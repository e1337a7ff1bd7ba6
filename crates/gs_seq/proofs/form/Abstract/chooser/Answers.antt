use Rattle.std.proofs.Common.{ap, sym, ◌∙◌}
use Rattle.gs_game.specs.declared.positions.Point.{Point}
use Rattle.gs_seq.proofs.Forms.{form_inside, form_reads}
use Rattle.gs_seq.proofs.form.Abstract.chooser.Goals as goal

pub returns : goal.returns
returns c =
    let r = form_reads c.args.self.now c.game.result.now c.points.result.now c.args.point c.index-points-point.result c.game.ensures c.points.ensures c.requires
    c.index-points-point.is in
    sym (ap (λ (p : Point). p.player) c.index-points-point.is) ∙ r.player

pub bounds-points-point-2 : goal.bounds-points-point-2
bounds-points-point-2 c = form_inside c.args.self.now c.game.result.now c.points.result.now c.args.point c.game.ensures c.points.ensures c.requires

pub bounds-points-point : goal.bounds-points-point
bounds-points-point c = form_inside c.args.self.now c.game.result.now c.points.result.now c.args.point c.game.ensures c.points.ensures c.requires
