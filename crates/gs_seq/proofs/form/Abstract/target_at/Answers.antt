use Rattle.std.proofs.Common.{ap, sym, ◌∙◌, arith, get_or, vec_len}
use Rattle.gs_game.specs.declared.positions.Point.{Point}
use Rattle.gs_seq.proofs.Forms.{form_leads, form_inside, form_reads}
use Rattle.gs_seq.proofs.form.Abstract.target_at.Goals as goal

pub index-requires : goal.index-requires
index-requires c =
    let r = form_reads c.args.self.now c.game.result.now c.points.result.now c.args.point c.index-points-point.result c.game.ensures c.points.ensures
    c.requires.point c.index-points-point.is in
    let e = ap (λ (p : Point). vec_len p.moves) c.index-points-point.is in
    omega (arith, c.from.ensures, e, c.index-points-point.result.moves.ok.0, r.moves, c.requires.choice)

pub returns : goal.returns
returns c =
    let e = ap (λ (p : Point). get_or p.moves.items c.args.choice c.index.result.now) (sym c.index-points-point.is) in
    let i = ap (λ k. get_or (get_or c.points.result.now c.args.point c.index-points-point.result).moves.items k c.index.result.now) c.from.ensures in
    form_leads c.args.self.now c.game.result.now c.points.result.now c.args.point c.index-points-point.result c.args.choice c.index.result.now c.game.ensures
    c.points.ensures c.requires.point c.index-points-point.is c.requires.choice
    (c.index.ensures ∙ i ∙ e)

pub bounds-points-point : goal.bounds-points-point
bounds-points-point c = form_inside c.args.self.now c.game.result.now c.points.result.now c.args.point c.game.ensures c.points.ensures c.requires.point
