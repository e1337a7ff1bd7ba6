use Rattle.std.proofs.Common.{◌≡◌, ap, arith, vec_len}
use Rattle.gs_game.specs.declared.positions.Point.{Point}
use Rattle.gs_model.specs.Frame.{move_count}
use Rattle.gs_seq.specs.Abstracts.{abstract_frame}
use Rattle.gs_seq.proofs.{Forms.{form_moves, form_inside, form_reads}, form.Abstract.move_total.Goals.{After-len}}
use Rattle.gs_seq.proofs.form.Abstract.move_total.Goals as goal

counted : (c : After-len) → c.len.result ≡ move_count (abstract_frame c.args.self.now) c.args.point
counted c =
    let r = form_reads c.args.self.now c.game.result.now c.points.result.now c.args.point c.index-points-point.result c.game.ensures c.points.ensures c.requires
    c.index-points-point.is in
    omega (arith, c.len.ensures, ap (λ (p : Point). vec_len p.moves) c.index-points-point.is, c.index-points-point.result.moves.ok.0, r.moves)

pub overflow_cast-result : goal.overflow_cast-result
overflow_cast-result c = record {
  fits = omega (
    arith,
    counted (goal.at.overflow_cast-result c).After-len,
    (form_moves c.args.self.now c.args.point c.requires).few,
  );
}

pub returns : goal.returns
returns c = record {
  value = omega (arith, counted (goal.at.returns c).After-len);
  some = omega (arith, counted (goal.at.returns c).After-len, (form_moves c.args.self.now c.args.point c.requires).some);
  few = omega (arith, counted (goal.at.returns c).After-len, (form_moves c.args.self.now c.args.point c.requires).few);
}

pub bounds-points-point : goal.bounds-points-point
bounds-points-point c = form_inside c.args.self.now c.game.result.now c.points.result.now c.args.point c.game.ensures c.points.ensures c.requires
