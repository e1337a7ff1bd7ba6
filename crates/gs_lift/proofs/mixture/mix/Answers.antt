use Rattle.std.proofs.Common.{◌<◌, List, ap, sym, subst, ◌∙◌, arith, map}
use Rattle.std.specs.List.{AllByRecursion}
use Rattle.gs_game.specs.declared.{positions.Arrow.{Arrow}, valid.ValidGame.{ValidGame}}
use Rattle.gs_model.specs.Frame.{point_count}
use Rattle.gs_seq.specs.{Abstracts.{abstract_frame, lists_of}, Games.{frame_in}, Plans.{lifted}}
use Rattle.gs_seq.proofs.Points.{length-points}
use Rattle.gs_lift.proofs.{Mixed.{mixed_all, mixed_long, mixed_more, mixed_none}, Moves.{moves_at, small_at}}
use Rattle.gs_lift.proofs.mixture.mix.Goals as goal

pub loop-choice-init : goal.loop-choice-init
loop-choice-init c =
    let f = abstract_frame c.args.a.now in
    mixed_none f (lifted f (lists_of c.args.a.now) c.args.plan.now) c.args.spot.point c.args.spot.signal c.deref-arrow-items.result.now c.clear.new.self
    c.clear.ensures

pub overflow_cast-choice : goal.overflow_cast-choice
overflow_cast-choice c =
    let r = moves_at c.args.a.now c.game.result.now c.points.result.now c.index-points-spot.result c.args.spot.point c.game.ensures c.points.ensures
    c.index-points-spot.is c.requires.point in
    omega (arith, r.few, c.deref-arrow-items.ensures.len, c.loop-choice-test.true)

pub share-requires-clause-choice : goal.share-requires-clause-choice
share-requires-clause-choice c =
    let r = moves_at c.args.a.now c.game.result.now c.points.result.now c.index-points-spot.result c.args.spot.point c.game.ensures c.points.ensures
    c.index-points-spot.is c.requires.point in
    omega (arith, r.long, c.deref-arrow-items.ensures.len, c.loop-choice-test.true)

pub push-requires : goal.push-requires
push-requires c = record {
  room = let f = abstract_frame c.args.a.now in
      let r = moves_at c.args.a.now c.game.result.now c.points.result.now c.index-points-spot.result c.args.spot.point c.game.ensures c.points.ensures
      c.index-points-spot.is c.requires.point in
      let long = mixed_long f (lifted f (lists_of c.args.a.now) c.args.plan.now) c.args.spot.point c.args.spot.signal c.deref-arrow-items.result.now
      c.loop-choice.choice c.loop-choice.out (omega (arith, c.loop-choice-test.true)) c.loop-choice.invariant in
      omega (arith, r.few, c.deref-arrow-items.ensures.len, c.loop-choice-test.true, long);
  letter = let r = moves_at c.args.a.now c.game.result.now c.points.result.now c.index-points-spot.result c.args.spot.point c.game.ensures c.points.ensures
      c.index-points-spot.is c.requires.point in
      small_at c.deref-arrow-items.result.now c.loop-choice.choice _
      (subst (λ (ms : List Arrow). AllByRecursion (λ l. l < 128) (map (λ (a : Arrow). a.letter) ms)) (sym c.deref-arrow-items.ensures.value) r.small)
      c.loop-choice-test.true;
}

pub loop-choice-preserved : goal.loop-choice-preserved
loop-choice-preserved c =
    let f = abstract_frame c.args.a.now in
    let e = c.push.ensures in
    mixed_more f (lifted f (lists_of c.args.a.now) c.args.plan.now) c.args.spot.point c.args.spot.signal c.deref-arrow-items.result.now c.loop-choice.choice _
    c.loop-choice.out c.push.new.self c.share.result c.loop-choice-test.true c.push.ensures
    c.loop-choice.invariant c.share.ensures

pub returns : goal.returns
returns c =
    let f = abstract_frame c.args.a.now in
    let r = moves_at c.args.a.now c.game.result.now c.points.result.now c.index-points-spot.result c.args.spot.point c.game.ensures c.points.ensures
    c.index-points-spot.is c.requires.point in
    let read = ap (λ (ms : List Arrow). map (λ (a : Arrow). a.letter) ms) c.deref-arrow-items.ensures.value in
    mixed_all f (lifted f (lists_of c.args.a.now) c.args.plan.now) c.args.spot.point c.args.spot.signal c.deref-arrow-items.result.now c.loop-choice.choice
    c.loop-choice.out c.loop-choice-test.false (read ∙ r.letters) c.loop-choice.invariant

pub bounds-points-spot : goal.bounds-points-spot
bounds-points-spot c = omega (
  arith,
  c.requires.point,
  length-points c.game.result.now c.points.result.now c.points.ensures,
  ap (λ (g : ValidGame). point_count (frame_in g)) c.game.ensures,
)

pub share-requires-clause-plan : goal.share-requires-clause-plan
share-requires-clause-plan c = grind arith
