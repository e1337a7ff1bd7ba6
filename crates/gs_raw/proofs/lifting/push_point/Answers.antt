use Rattle.std.proofs.{Common.{◌≡◌, ℕ, ◌+◌, ◌-◌, ◌*◌, ◌<◌, ◌≤◌, ◌^◌, ◌++◌, List, length, take, drop, ap, ◌∙◌, subst, arith}, lemmas.Grind.{common_steps}}
use Rattle.gs_model.specs.{Classes.{IsClass, class_of}, Frame.{point_count, round_of, signal_count}, Positions.{at_point}}
use Rattle.gs_seq.specs.{Games.{frame_in}, Slots.{slot_of}}
use Rattle.gs_seq.proofs.SlotLaws.{slots_few}
use Rattle.gs_raw.specs.Lifts.{IsSpreadBehind}
use Rattle.gs_raw.proofs.Spread.{PointFacts, RoomFacts, point_facts, room_facts, spread_more}
use Rattle.gs_raw.proofs.lifting.push_point.Goals.{After-class_of-class, After-len-moves}
use Rattle.gs_raw.proofs.lifting.push_point.Goals as goal

-- the point that is read, and the room of the class's weights
here : (c : After-len-moves) → PointFacts c.args.game.now c.args.classes.now c.args.point c.index-points-point.result.round
    (length c.index-points-point.result.moves.items)
here c = point_facts c.args.game.now c.args.classes.now c.points.result.now c.args.point c.index-points-point.result c.requires.parents c.points.ensures
    c.requires.in_range c.index-points-point.is

room : (c : After-class_of-class) → RoomFacts (frame_in c.args.game.now) c.args.classes.now.lists c.args.plan.now.player c.args.point c.class_of-class.result
    c.args.first c.len-moves.result
room c =
    let p = here (goal.at.After-class_of-class c).After-len-moves in
    room_facts (frame_in c.args.game.now) c.args.classes.now.lists c.args.plan.now.player c.args.point c.class_of-class.result c.args.first c.len-moves.result
    c.requires.own (omega (arith, c.len-moves.ensures, p.many)) c.requires.first
    c.requires.in_range (subst (λ round. IsClass c.args.classes.now.lists round c.class_of-class.result) p.here c.class_of-class.ensures.class)

-- the weights are few, and they are all there
inside : (c : After-class_of-class)
    → (c.args.first + (c.class_of-class.result - 1) * c.len-moves.result + c.len-moves.result < 2 ^ 60)
    × (c.args.first + (c.class_of-class.result - 1) * c.len-moves.result + c.len-moves.result ≤ length c.args.plan.now.weights.items)
inside c =
    let few = slots_few c.args.game.now c.args.classes.now c.requires.parents c.args.plan.now.player (point_count (frame_in c.args.game.now)) (omega arith) in
    (omega (arith, (room c).room, few), omega (arith, (room c).room, c.requires.plan.plan.long))

pub signals-signal-end-requires-clause-some : goal.signals-signal-end-requires-clause-some
signals-signal-end-requires-clause-some c = (here (goal.at.signals-signal-end-requires-clause-some c).After-len-moves).some

pub signals-signal-end-requires-clause-top : goal.signals-signal-end-requires-clause-top
signals-signal-end-requires-clause-top c = (here (goal.at.signals-signal-end-requires-clause-top c).After-len-moves).top

pub class_of-class-requires-clause-some : goal.class_of-class-requires-clause-some
class_of-class-requires-clause-some c = (here (goal.at.class_of-class-requires-clause-some c).After-len-moves).some

pub overflow_mul-start : goal.overflow_mul-start
overflow_mul-start c = record { fits = omega (arith, inside (goal.at.overflow_mul-start c).After-class_of-class) }

pub overflow_add-start : goal.overflow_add-start
overflow_add-start c = record { fits = omega (arith, inside (goal.at.overflow_add-start c).After-class_of-class) }

pub push_some-requires : goal.push_some-requires
push_some-requires c = omega (arith, (inside (goal.at.push_some-requires c).After-class_of-class).1, c.deref.ensures.len)

pub loop-signal-preserved : goal.loop-signal-preserved
loop-signal-preserved c =
    let at = goal.at.loop-signal-preserved c in
    let f = frame_in c.args.game.now in
    let lists = c.args.classes.now.lists in
    let s = c.loop-signal.signal in
    let p = here at.After-len-moves in
    let r = room at.After-class_of-class in
    let start = c.args.first + (c.class_of-class.result - 1) * c.len-moves.result in
    let class : c.class_of-class.result ≡ class_of lists (round_of f (at_point c.args.point)) s = c.class_of-class.ensures.value
    ∙ ap (λ round. class_of lists round s) p.here in
    spread_more f lists c.args.point s start c.len-moves.result c.args.plan.now.weights.items c.args.weights.now.items c.loop-signal.weights.items
    c.push_some.new.weights.items
    (omega (arith, c.len-moves.ensures, p.many)) (r.slot ∙ ap (λ k. slot_of f lists c.args.point k 0) class) (inside at.After-class_of-class).1
    (c.in_ok-push_some.ensures ∙ ap (λ (ws : List ℕ). c.loop-signal.weights.items ++ take c.len-moves.result (drop start ws)) c.deref.ensures.value)
    c.loop-signal.invariant

pub returns : goal.returns
returns c =
    let f = frame_in c.args.game.now in
    let e : c.loop-signal.signal ≡ signal_count f (round_of f (at_point c.args.point)) =
    omega (arith, (here (goal.at.returns c).After-len-moves).wide, c.signals-signal-end.ensures) in
    subst (λ n. IsSpreadBehind f c.args.classes.now.lists c.args.point n c.args.plan.now.weights.items c.args.weights.now.items c.loop-signal.weights.items) e
    c.loop-signal.invariant

pub class_of-class-requires-clause-top : goal.class_of-class-requires-clause-top
class_of-class-requires-clause-top c = grind (arith, common_steps)

pub bounds-points-point : goal.bounds-points-point
bounds-points-point c = grind (arith, common_steps)

pub class_of-class-requires-clause-within : goal.class_of-class-requires-clause-within
class_of-class-requires-clause-within c = grind arith
