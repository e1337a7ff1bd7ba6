use Rattle.gs_seq.proofs.{Points.{place_in}, Choices.{some_move}, Firsts.{first_came, first_kept, first_put, first_room, slots_own}, Leaks.{RowAt, row_at}}
use Rattle.std.proofs.Common.{◌≡◌, ◌+◌, ◌-◌, ◌*◌, ◌<◌, ◌≤◌, ◌^◌, ℕ, length, get_or, set, ap, sym, ◌∙◌, subst, arith, ⊎_elim, get_or-set_other}
use Rattle.std.proofs.{Math.Nat.{mul-le-mul_right}, lemmas.Bool.{cases_eq}}
use Rattle.gs_game.specs.Games.{game_of}
use Rattle.gs_model.specs.{Classes.{IsClass, class_count, first_member}, Frame.{last_step, move_count, round_of}}
use Rattle.gs_model.specs.{Plans.{lift, number_before}, Positions.{at_point}}
use Rattle.gs_model.proofs.Ranges.{in_range}
use Rattle.gs_seq.specs.{Firsts.{AgreeBefore, IsClear, IsFirstAt}, Games.{frame_in}, Slots.{plan_of, slots_before}, Sources.{MatchSource}}
use Rattle.gs_seq.proofs.{Points.{Reads, playable, point_reads, walked_at}, SlotLaws.{classes_in, over, slots_own_before}}
use Rattle.gs_seq.proofs.first.put_first.Goals.{After-len-moves, In-loop-before}
use Rattle.gs_seq.proofs.first.put_first.Goals as goal

-- what the point says
reads : (c : After-len-moves) → Reads (frame_in c.args.game.now) c.args.point c.index-points-point.result
reads c = point_reads c.args.game.now c.points.result.now c.args.point c.index-points-point.result c.points.ensures c.requires.in_range c.index-points-point.is

-- where the weights of the class stand
row : (c : In-loop-before) → RowAt (frame_in c.args.game.now) c.args.classes.now.lists c.args.player c.args.point c.loop-before.before
    (get_or c.args.offsets.now c.args.point 0) c.len-moves.result
row c =
    let f = frame_in c.args.game.now in
    let q = c.args.point in
    let lists = c.args.classes.now.lists in
    let first : get_or c.args.offsets.now q 0 ≡ slots_before f lists c.args.player q = c.requires.offsets.first q c.requires.in_range
    ∙ ap (λ p. slots_before f lists p q) c.requires.own in
    row_at c.args.game.now c.args.classes.now c.requires.parents c.args.player q c.loop-before.before (get_or c.args.offsets.now q 0) c.len-moves.result
    c.classes-before-end.result
    c.index-points-point.result (reads (goal.at.In-loop-before c).After-len-moves) c.requires.own c.requires.in_range first
    (omega (arith, c.len-moves.ensures)) c.classes-before-end.ensures c.loop-before-test.true

-- the slot of the first move is one of the weights, which are few
inside : (c : In-loop-before) → (get_or c.args.offsets.now c.args.point 0 + c.loop-before.before * c.len-moves.result < length c.loop-before.weights)
    × (length c.loop-before.weights < 2 ^ 60)
inside c =
    let r = row c in
    let some = some_move c.args.game.now c.args.point c.requires.in_range in
    (omega (arith, r.room, r.many, some, c.loop-before.auto.weights, c.requires.long), omega (arith, r.few, c.loop-before.auto.weights, c.requires.long))

pub classes-before-end-requires : goal.classes-before-end-requires
classes-before-end-requires c =
    let h = classes_in c.args.game.now c.args.classes.now c.requires.parents c.args.point c.index-points-point.result
    (reads (goal.at.classes-before-end-requires c).After-len-moves) c.requires.in_range in
    record { some = h.0; top = h.1 }

-- the player's last step before the point
source : (c : In-loop-before)
    → MatchSource (frame_in c.args.game.now) c.args.classes.now.lists c.args.player (at_point c.args.point) c.point_source-source.result
source c = subst (λ p. MatchSource (frame_in c.args.game.now) c.args.classes.now.lists p (at_point c.args.point) c.point_source-source.result) c.requires.own
    (c.point_source-source.ensures c.args.classes.now.lists c.requires.offsets)

-- the class that is written
class : (c : In-loop-before) → IsClass c.args.classes.now.lists (round_of (frame_in c.args.game.now) (at_point c.args.point)) (c.loop-before.before + 1)
class c = (omega arith, omega (arith, (row c).below))

pub first_came-requires : goal.first_came-requires
first_came-requires c =
    let at = (goal.at.first_came-requires c).In-loop-before in
    let g = c.args.game.now in
    let f = frame_in g in
    let q = c.args.point in
    let p = c.args.player in
    let lists = c.args.classes.now.lists in
    first_room f (in_range (game_of g.game) (playable g)) lists (over f c.args.classes.now c.requires.parents) p
    (walked_at g p q c.requires.in_range c.requires.own) q c.requires.in_range c.requires.own (c.loop-before.before + 1) (class at)
    (length c.loop-before.weights)
    (omega (
      arith,
      c.loop-before.auto.weights,
      c.requires.long,
      slots_own_before f lists p q c.requires.own c.requires.in_range,
      ap (λ n. slots_before f lists n q) c.requires.own,
    ))
    c.point_source-source.result (source at)

pub overflow_mul-weights : goal.overflow_mul-weights
overflow_mul-weights c = omega (arith, inside (goal.at.overflow_mul-weights c).In-loop-before)

pub overflow_add-weights : goal.overflow_add-weights
overflow_add-weights c = omega (arith, inside (goal.at.overflow_add-weights c).In-loop-before)

pub offset_bounds-weights-first : goal.offset_bounds-weights-first
offset_bounds-weights-first c = omega (arith, inside (goal.at.offset_bounds-weights-first c).In-loop-before)

pub bounds-weights-first : goal.bounds-weights-first
bounds-weights-first c = omega (arith, inside (goal.at.bounds-weights-first c).In-loop-before)

again : (n : ℕ) → n ≡ n + 1 - 1
again n = omega arith

unlike : (k n : ℕ) → k < n → k ≡ n → ⊥
unlike k n l same = omega (arith, l, same)

-- a slot before a row is not in it
before_slot : (k slot start n : ℕ) → k < start → slot ≡ start + n → k ≡ slot → ⊥
before_slot k slot start n l e same = omega (arith, l, e, same)

under : (k n : ℕ) → k ≤ n + 1 → (k ≡ n + 1 → ⊥) → k ≤ n
under k n l other = omega (arith, l, other)

pub loop-before-preserved : goal.loop-before-preserved
loop-before-preserved c =
    let at = (goal.at.loop-before-preserved c).In-loop-before in
    let g = c.args.game.now in
    let f = frame_in g in
    let q = c.args.point in
    let p = c.args.player in
    let lists = c.args.classes.now.lists in
    let w = walked_at g p q c.requires.in_range c.requires.own in
    let r = row at in
    let some = some_move g q c.requires.in_range in
    let before = c.loop-before.before in
    let weights = c.loop-before.weights in
    let came = c.first_came.result in
    let slot = get_or c.args.offsets.now q 0 + before * c.len-moves.result in
    let start = slots_before f lists p q in
    let place : slot ≡ start + before * move_count f q =
    ap (λ n. n + before * c.len-moves.result) r.starts ∙ ap (λ n. start + before * n) r.many in
    let slot_is : slot ≡ start + (before + 1 - 1) * move_count f q = place ∙ ap (λ k. start + k * move_count f q) (again before) in
    let ranged = in_range (game_of g.game) (playable g) in
    let classes = over f c.args.classes.now c.requires.parents in
    let is : came ≡ number_before f (lift f lists (plan_of f lists 1 weights)) (last_step f p (at_point q)) (round_of f (at_point q))
    (first_member lists (round_of f (at_point q)) (before + 1)) =
    first_came f ranged lists classes p w q c.requires.in_range c.requires.own (before + 1) (class at) c.args.weights.now weights c.requires.firsts
    c.loop-before.invariant.kept c.point_source-source.result (source at) came c.first_came.ensures in
    let clear : IsClear slot weights = λ k lk. c.loop-before.invariant.clear k (subst (λ n. n ≤ k) place lk) in
    let same : AgreeBefore slot weights (set weights slot came) = λ j lj. get_or-set_other weights slot j came 0 (unlike j slot lj) in
    record {
      kept = λ k lk. get_or-set_other weights slot k came 0 (before_slot k slot start (before * move_count f q) lk place) ∙ c.loop-before.invariant.kept k lk;
      here = λ k lo hi. ⊎_elim
          (λ e. subst (λ n. IsFirstAt f lists p (set weights slot came) q n) (sym e)
          (first_put f ranged lists classes p w q c.requires.in_range c.requires.own (before + 1) (class at) weights slot came
          slot_is (inside at).0 is clear))
          (λ other.
          let less : k ≤ before = under k before hi other in
          first_kept f ranged lists classes p w q c.requires.in_range c.requires.own k (lo, omega (arith, r.below, less)) slot weights
          (set weights slot came) some
          (omega (arith, place, mul-le-mul_right (move_count f q) less)) same (c.loop-before.invariant.here k lo less))
          (cases_eq k (before + 1));
      clear = λ k lk.
          (let after : slot < k = omega (arith, place, some, lk) in
          get_or-set_other weights slot k came 0 (omega (arith, after)) ∙ c.loop-before.invariant.clear k (omega (arith, place, after)));
    }

pub bounds-points-point : goal.bounds-points-point
bounds-points-point c = place_in c.args.game.now c.points.result.now c.args.point c.points.ensures c.requires.in_range

pub loop-before-init : goal.loop-before-init
loop-before-init c = grind arith

pub returns : goal.returns
returns c = record {
  kept = grind arith;
  here = let r = reads (goal.at.returns c).After-len-moves in
      λ k h. c.loop-before.invariant.here k h.0 (omega (
        arith,
        h.1,
        c.loop-before-test.false,
        c.classes-before-end.ensures,
        ap (class_count
            c.args.classes.now.lists) r.round,
      ));
  clear = let f = frame_in c.args.game.now in
      let q = c.args.point in
      let lists = c.args.classes.now.lists in
      let r = reads (goal.at.returns c).After-len-moves in
      let all : c.loop-before.before ≡ class_count lists (round_of f (at_point q)) =
      omega (arith, c.loop-before-test.false, c.loop-before.auto.before-end, c.classes-before-end.ensures, ap (class_count lists) r.round) in
      λ k l. c.loop-before.invariant.clear k (omega (arith, l, slots_own f lists c.args.player q c.requires.own, ap (λ n. n * move_count f q) all));
}
