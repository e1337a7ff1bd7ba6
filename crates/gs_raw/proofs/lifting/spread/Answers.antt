use Rattle.std.proofs.Common.{◌≡◌, ℕ, ◌+◌, ◌*◌, ◌<◌, ◌^◌, length, refl, ap, sym, ◌∙◌, subst, arith, Vec, Global}
use Rattle.gs_game.specs.Games.{game_of}
use Rattle.gs_model.specs.{Classes.{class_count}, Frame.{point_count}}
use Rattle.gs_model.proofs.Ranges.{in_range}
use Rattle.gs_seq.specs.{Games.{frame_in}, Slots.{slots_before}}
use Rattle.gs_seq.proofs.{Points.{Reads, few, length-points, playable, point_reads, walked}, SlotLaws.{over, slots_few}}
use Rattle.gs_raw.proofs.Spread.{IsSpreadTo, PointFacts, before_none, other_point_more, own_point_more, point_facts, slots_here, spread_plan, spread_same}
use Rattle.gs_raw.proofs.lifting.spread.Goals.{After-index-points-point, After-len, After-loop-point, In-loop-point, then-here-plan+in_ok-push_point}
use Rattle.gs_raw.proofs.lifting.spread.Goals.{else-here-plan}
use Rattle.gs_raw.proofs.lifting.spread.Goals as goal

pub overflow_cast-point-end : goal.overflow_cast-point-end
overflow_cast-point-end c = record { fits = omega (arith, length-points c.args.game.now c.points.result.now c.points.ensures, (few c.args.game.now).points) }

pub loop-point-init : goal.loop-point-init
loop-point-init c =
    let f = frame_in c.args.game.now in
    record {
      long = omega (arith, c.new-weights.ensures.len);
      first_is = refl;
      rows = before_none f c.args.classes.now.lists c.args.plan.now.player
          c.args.plan.now.weights.items c.new-weights.result.items;
    }

inside : (c : In-loop-point) → c.loop-point.point < point_count (frame_in c.args.game.now)
inside c = omega (arith, c.loop-point-test.true, length-points c.args.game.now c.points.result.now c.points.ensures)

-- what the point says
reads : (c : After-index-points-point) → Reads (frame_in c.args.game.now) c.loop-point.point c.index-points-point.result
reads c =
    point_reads c.args.game.now c.points-in-loop-point.result.now c.loop-point.point c.index-points-point.result c.points-in-loop-point.ensures
    (inside (goal.at.After-index-points-point c).In-loop-point) c.index-points-point.is

facts : (c : After-index-points-point) → PointFacts c.args.game.now c.args.classes.now c.loop-point.point c.index-points-point.result.round
    (length c.index-points-point.result.moves.items)
facts c =
    point_facts c.args.game.now c.args.classes.now c.points-in-loop-point.result.now c.loop-point.point c.index-points-point.result c.requires.parents
    c.points-in-loop-point.ensures
    (inside (goal.at.After-index-points-point c).In-loop-point) c.index-points-point.is

-- the slots up to the next point are few
up_to_next : (c : After-len) → slots_before (frame_in c.args.game.now) c.args.classes.now.lists c.args.plan.now.player c.loop-point.point + c.classes.result *
    c.len.result < 2 ^ 60
up_to_next c =
    let at = goal.at.After-len c in
    let f = frame_in c.args.game.now in
    let lists = c.args.classes.now.lists in
    let player = c.args.plan.now.player in
    let q = c.loop-point.point in
    let r = reads at.After-index-points-point in
    let here = slots_here f lists player q c.classes.result c.len.result (sym r.player ∙ c.if-here-plan.true)
    (c.classes.ensures ∙ ap (class_count lists) r.round) (omega (arith, c.len.ensures, r.moves)) in
    omega (arith, here, slots_few c.args.game.now c.args.classes.now c.requires.parents player (q + 1) (omega (arith, inside at.In-loop-point)))

-- all points are passed
all_passed : (c : After-loop-point)
    → IsSpreadTo (frame_in c.args.game.now) c.args.classes.now.lists c.args.plan.now.player c.args.plan.now.weights.items c.loop-point.weights.items
    c.loop-point.first (point_count (frame_in c.args.game.now))
all_passed c =
    let f = frame_in c.args.game.now in
    let end : c.loop-point.point ≡ point_count f = omega (arith, c.loop-point-test.false, length-points c.args.game.now c.points.result.now c.points.ensures) in
    subst (IsSpreadTo f c.args.classes.now.lists c.args.plan.now.player c.args.plan.now.weights.items c.loop-point.weights.items c.loop-point.first) end
    c.loop-point.invariant

pub push_point-requires-clause-own : goal.push_point-requires-clause-own
push_point-requires-clause-own c = sym (reads (goal.at.push_point-requires-clause-own c).After-index-points-point).player ∙ c.if-here-plan.true

pub classes-requires-clause-some : goal.classes-requires-clause-some
classes-requires-clause-some c = (facts (goal.at.classes-requires-clause-some c).After-index-points-point).some

pub classes-requires-clause-top : goal.classes-requires-clause-top
classes-requires-clause-top c = (facts (goal.at.classes-requires-clause-top c).After-index-points-point).top

pub overflow_mul-first : goal.overflow_mul-first
overflow_mul-first c = record { fits = omega (arith, up_to_next (goal.at.overflow_mul-first c).After-len) }

pub overflow_add-first : goal.overflow_add-first
overflow_add-first c = record { fits = omega (arith, up_to_next (goal.at.overflow_add-first c).After-len, c.loop-point.invariant.first_is) }

pub loop-point-preserved : goal.loop-point-preserved
loop-point-preserved c =
    let at = goal.at.loop-point-preserved c in
    let g = c.args.game.now in
    let f = frame_in g in
    let lists = c.args.classes.now.lists in
    let player = c.args.plan.now.player in
    let ws = c.args.plan.now.weights.items in
    let q = c.loop-point.point in
    let within = inside at.In-loop-point in
    let r = reads at.After-index-points-point in
    let walk = walked g player c.requires.some c.requires.two in
    elim c.if-here-plan.branch [
      | then-here-plan+in_ok-push_point w ↦
          subst (λ n. IsSpreadTo f lists player ws c.if-here-plan.weights.items n (q + 1)) (sym w.first-is)
          (subst (λ (v : Vec ℕ Global). IsSpreadTo f lists player ws v.items (c.loop-point.first + w.classes.result * w.len.result) (q + 1)) (sym w.weights-is)
          (own_point_more f lists player walk ws c.loop-point.weights.items w.push_point.new.weights.items c.loop-point.first q w.classes.result w.len.result
          within (sym r.player ∙ w.if-here-plan.true)
          (w.classes.ensures ∙ ap (class_count lists) r.round) (omega (arith, w.len.ensures, r.moves)) c.loop-point.invariant w.in_ok-push_point.ensures))
      | else-here-plan w ↦
          subst (λ n. IsSpreadTo f lists player ws c.if-here-plan.weights.items n (q + 1)) (sym w.first-is)
          (subst (λ (v : Vec ℕ Global). IsSpreadTo f lists player ws v.items c.loop-point.first (q + 1)) (sym w.weights-is)
          (other_point_more f lists player walk ws c.loop-point.weights.items c.loop-point.first q within
          (λ own. w.if-here-plan.false (r.player ∙ own)) c.loop-point.invariant))
    ]

pub returns-clause-plan : goal.returns-clause-plan
returns-clause-plan c =
    let all = all_passed (goal.at.returns-clause-plan c).After-loop-point in
    let g = c.args.game.now in
    record {
      player_is = refl;
      plan = spread_plan (frame_in g) c.args.classes.now.lists c.args.plan.now.player c.args.plan.now.total c.args.plan.now.weights.items
          c.loop-point.weights.items (in_range (game_of g.game) (playable g))
          (walked g c.args.plan.now.player c.requires.some c.requires.two) (over (frame_in g) c.args.classes.now c.requires.parents) c.requires.plan.plan
          all.long all.rows;
    }

pub returns-clause-same : goal.returns-clause-same
returns-clause-same c =
    let all = all_passed (goal.at.returns-clause-same c).After-loop-point in
    let g = c.args.game.now in
    spread_same (frame_in g) c.args.classes.now.lists c.args.plan.now.player c.args.plan.now.total c.args.plan.now.weights.items c.loop-point.weights.items
    (in_range (game_of g.game) (playable g))
    (walked g c.args.plan.now.player c.requires.some c.requires.two) (over (frame_in g) c.args.classes.now c.requires.parents) c.requires.plan.plan
    all.long all.rows

pub push_point-requires-clause-in_range : goal.push_point-requires-clause-in_range
push_point-requires-clause-in_range c = inside (goal.at.push_point-requires-clause-in_range c).In-loop-point

pub bounds-points-point : goal.bounds-points-point
bounds-points-point c = omega (
  arith,
  inside (goal.at.bounds-points-point c).In-loop-point,
  length-points c.args.game.now c.points-in-loop-point.result.now c.points-in-loop-point.ensures,
)

pub push_point-requires-clause-plan : goal.push_point-requires-clause-plan
push_point-requires-clause-plan c = c.requires.plan

pub push_point-requires-clause-first : goal.push_point-requires-clause-first
push_point-requires-clause-first c = omega arith

pub overflow_cast-first : goal.overflow_cast-first
overflow_cast-first c = grind arith
