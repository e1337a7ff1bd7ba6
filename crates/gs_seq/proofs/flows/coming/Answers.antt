use Rattle.gs_seq.proofs.{Points.{length-points}, flows.coming.Goals.{After-index-points-point, In-Some}}
use Rattle.std.proofs.Common.{◌≡◌, Some, get_or, sym, refl, subst, arith}
use Rattle.gs_model.specs.{Classes.{IsClass}, Frame.{player_at, round_of}, Positions.{at_point}}
use Rattle.gs_model.proofs.Ranges.{in_range}
use Rattle.gs_game.specs.Games.{game_of}
use Rattle.gs_seq.specs.{Games.{frame_in}, Slots.{slots_before}, Sources.{MatchSource}}
use Rattle.gs_seq.proofs.{Coming.{SourceFacts, number_above, source_facts}, Points.{place_reads, playable, walked_at}, SlotLaws.{over, slots_few}}
use Rattle.gs_seq.proofs.flows.coming.Goals as goal

-- the step before the point
source : (c : In-Some) → MatchSource (frame_in c.args.game.now) c.args.classes.now.lists (player_at (frame_in c.args.game.now) c.args.point)
    (at_point c.args.point) (Some c.in-Some.step)
source c = subst (MatchSource (frame_in c.args.game.now) c.args.classes.now.lists (player_at (frame_in c.args.game.now) c.args.point) (at_point c.args.point))
    c.in-Some.is c.requires.source

facts : (c : In-Some)
    → SourceFacts (frame_in c.args.game.now) c.args.classes.now.lists (at_point c.args.point)
    (slots_before (frame_in c.args.game.now) c.args.classes.now.lists (player_at (frame_in c.args.game.now) c.args.point) c.args.point)
    (source c).0 c.in-Some.step
facts c =
    let f = frame_in c.args.game.now in
    let q = c.args.point in
    let h = source c in
    source_facts f c.args.classes.now.lists (player_at f q) q h.0 c.in-Some.step (walked_at c.args.game.now (player_at f q) q c.requires.in_range refl)
    c.requires.in_range h.1

-- the round that is read is the point's
here : (c : After-index-points-point) → (get_or c.points.result.now c.args.point c.index-points-point.result).round ≡ round_of (frame_in c.args.game.now)
    (at_point c.args.point)
here c = (place_reads c.args.game.now c.points.result.now c.args.point c.index-points-point.result c.points.ensures c.requires.in_range
    c.index-points-point.is).round

pub weight_above-requires : goal.weight_above-requires
weight_above-requires c = record {
  some = (facts (goal.at.weight_above-requires c).In-Some).some;
  earlier = let at = goal.at.weight_above-requires c in omega (arith, (facts at.In-Some).earlier, here at.After-index-points-point);
  top = let f = frame_in c.args.game.now in
      let q = c.args.point in
      let w = walked_at c.args.game.now (player_at f q) q c.requires.in_range refl in
      omega (
        arith,
        here (goal.at.weight_above-requires c).After-index-points-point,
        w.point_in q c.requires.in_range,
        (over f c.args.classes.now c.requires.parents).rounds,
      );
  class = subst (λ k. IsClass c.args.classes.now.lists k c.args.class)
      (sym (here (goal.at.weight_above-requires c).After-index-points-point)) c.requires.class;
  within = λ above k. omega
      (arith, (facts (goal.at.weight_above-requires c).In-Some).within above k, c.requires.long);
  few = let f = frame_in c.args.game.now in
      let q = c.args.point in
      let few = slots_few c.args.game.now c.args.classes.now c.requires.parents (player_at f q) q (omega (arith, c.requires.in_range)) in
      λ above k. omega (arith, (facts (goal.at.weight_above-requires c).In-Some).within above k, few);
}

pub returns-in-Some : goal.returns-in-Some
returns-in-Some c =
    let at = goal.at.returns-in-Some c in
    let f = frame_in c.args.game.now in
    let q = c.args.point in
    let h = source at.In-Some in
    number_above f (in_range (game_of c.args.game.now.game) (playable c.args.game.now)) c.args.classes.now (sym c.requires.parents) (player_at f q)
    (at_point q) _ h.0 c.in-Some.step h.1 (facts at.In-Some) c.args.total _ c.args.class
    (here at.After-index-points-point) c.args.weights.now c.weight_above.result c.weight_above.ensures

pub bounds-points-point : goal.bounds-points-point
bounds-points-point c = omega (arith, c.requires.in_range, length-points c.args.game.now c.points.result.now c.points.ensures)

pub bounds-points-point-in-Some : goal.bounds-points-point-in-Some
bounds-points-point-in-Some c = omega (arith, c.requires.in_range, length-points c.args.game.now c.points.result.now c.points.ensures)
