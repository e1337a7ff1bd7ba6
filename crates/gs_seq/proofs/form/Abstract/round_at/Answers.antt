use Rattle.std.proofs.Common.{◌≡◌, get_or, ap, sym, ◌∙◌, arith}
use Rattle.gs_game.specs.declared.positions.Point.{Point}
use Rattle.gs_model.specs.{Frame.{round_of}, Positions.{at_point}}
use Rattle.gs_seq.specs.Abstracts.{abstract_frame}
use Rattle.gs_seq.proofs.{Forms.{form_inside, form_reads, form_walked}, form.Abstract.round_at.Goals.{After-index-points-point}}
use Rattle.gs_seq.proofs.form.Abstract.round_at.Goals as goal

-- the point that was read has the round of the frame's
round_is : (c : After-index-points-point)
    → (get_or c.points.result.now c.args.point c.index-points-point.result).round ≡ round_of (abstract_frame c.args.self.now) (at_point c.args.point)
round_is c =
    sym (ap (λ (p : Point). p.round) c.index-points-point.is)
    ∙ (form_reads c.args.self.now c.game.result.now c.points.result.now c.args.point c.index-points-point.result c.game.ensures c.points.ensures c.requires
    c.index-points-point.is).round

pub returns : goal.returns
returns c = record {
  value = round_is (goal.at.returns c).After-index-points-point;
  some = omega (
    arith,
    round_is (goal.at.returns c).After-index-points-point,
    (form_walked c.args.self.now 1 (omega arith) (omega arith)).some_round c.args.point c.requires,
  );
  top = omega (
    arith,
    round_is (goal.at.returns c).After-index-points-point,
    (form_walked c.args.self.now 1 (omega arith) (omega arith)).point_in c.args.point c.requires,
  );
}

pub bounds-points-point-2 : goal.bounds-points-point-2
bounds-points-point-2 c = form_inside c.args.self.now c.game.result.now c.points.result.now c.args.point c.game.ensures c.points.ensures c.requires

pub bounds-points-point : goal.bounds-points-point
bounds-points-point c = form_inside c.args.self.now c.game.result.now c.points.result.now c.args.point c.game.ensures c.points.ensures c.requires
