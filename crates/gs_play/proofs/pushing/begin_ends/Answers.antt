use Rattle.std.proofs.{Common.{◌≡◌, ◌-◌, ◌*◌, ◌^◌, ◌<◌, ℕ, [], get_or, ap, sym, ◌∙◌, arith}, lemmas.Int.{ints}, lemmas.List.Sums.{sum_by-cons}}
use Rattle.std.specs.Prelude.{ℤ, pos, ◌+ℤ◌, unsigned_abs}
use Rattle.gs_model.specs.{Frame.{end_count, other_player, round_of}, Plans.{IsClassPlan, Plan}, Positions.{at_end}}
use Rattle.gs_model.proofs.Tables.{is_table}
use Rattle.gs_seq.specs.{Payoffs.{end_sum}, Plans.{class_plan}}
use Rattle.gs_seq.proofs.{EndTotals.{worth_few}, Forms.{given_in, one_or_two}, RowFacts.{class_weight, classes_weigh}}
use Rattle.gs_play.specs.{Sides.{side_frame, side_lists}, declared.role.Role.{Role}}
use Rattle.gs_play.proofs.{Pushed.{other_walked, walked}, Risen.{renewed_all, renewed_before, renewed_begun, renewed_more}, Tells.{choices_kept, choices_next}}
use Rattle.gs_play.proofs.pushing.begin_ends.Goals.{In-loop-end}
use Rattle.gs_play.proofs.pushing.begin_ends.Goals as goal

-- what an end pays a class against a plan of total 1 is small
few : (s : Role) (y : Plan) (z c : ℕ) → z < end_count (side_frame s) → IsClassPlan (side_frame s) (side_lists s) (other_player s.player) y → y.total ≡ 1
    → unsigned_abs (end_sum (side_frame s) (side_lists s) s.player y z c) < 2 ^ 63
few s y z c l plan one =
    let f = side_frame s in
    let lists = side_lists s in
    let g = given_in s.form.now in
    let w = walked s in
    let round = round_of f (at_end z) in
    let weight : ℕ → ℕ = class_weight f (is_table f g.in_range) lists g.classes round (w.end_round z l) (w.end_in z l) in
    let size = worth_few f g.in_range lists g.classes g.modest s.player (one_or_two s.player s.some s.two) w (other_walked s) y plan z c l in
    let of_one : (36864 * y.total) * weight c ≡ 36864 * weight c = ap (λ t. (36864 * t) * weight c) one in
    omega (
      arith,
      size,
      of_one,
      classes_weigh f (is_table f g.in_range) lists g.classes round (w.end_round z l) (w.end_in z l) c 1,
      sum_by-cons weight c [],
      g.modest.weight,
    )

-- the end is one of the game, and its round is not too wide
inside : (c : In-loop-end) → c.loop-end.end < end_count (side_frame c.args.side.now)
inside c = omega (arith, c.loop-end-test.true, c.end_total-end-end.ensures)

pub loop-end-init : goal.loop-end-init
loop-end-init c =
    let side = c.args.side.now in
    let none : ℕ → ℕ → ℤ = λ z k. pos 0 in
    record {
      kept = choices_kept c.requires.room;
      begun = renewed_begun (side_frame side) (side_lists side) side.player (walked side) none none
          (end_sum (side_frame side) (side_lists side) side.player (class_plan (side_frame side) (side_lists side) c.args.other.now)) 0 0 c.args.tally.now
          (λ z k lt lz lk. absurd (omega (arith, lt)));
    }

pub end_sums-requires-clause-wide : goal.end_sums-requires-clause-wide
end_sums-requires-clause-wide c =
    let w = walked c.args.side.now in
    let z = c.loop-end.end in
    let l = inside (goal.at.end_sums-requires-clause-wide c).In-loop-end in
    omega (arith, c.requires.numbers (round_of (side_frame c.args.side.now) (at_end z)) (w.end_round z l) (w.end_in z l), c.loop-end.auto.numbers)

pub end_sums-requires-clause-room : goal.end_sums-requires-clause-room
end_sums-requires-clause-room c =
    let w = walked c.args.side.now in
    let z = c.loop-end.end in
    let l = inside (goal.at.end_sums-requires-clause-room c).In-loop-end in
    omega (arith, c.requires.sums (round_of (side_frame c.args.side.now) (at_end z)) (w.end_round z l) (w.end_in z l), c.loop-end.auto.sums)

pub loop-end-preserved : goal.loop-end-preserved
loop-end-preserved c =
    let side = c.args.side.now in
    let none : ℕ → ℕ → ℤ = λ z k. pos 0 in
    let all = end_sum (side_frame side) (side_lists side) side.player (class_plan (side_frame side) (side_lists side) c.args.other.now) in
    let more : ℕ → ℤ = λ k. get_or c.end_sums.new.sums (k - 1) (pos 0) in
    let z = c.loop-end.end in
    record {
      kept = choices_next c.loop-end.invariant.kept c.begin_end.ensures.kept;
      begun = λ h.
          renewed_more (side_frame side) (side_lists side) side.player (walked side) none none all 0 z c.begin_end.new.tally more
          (λ k lk.
          let plus : more k ≡ pos 0 +ℤ more k = omega (arith, ints) in
          sym (c.end_sums.ensures.here k lk) ∙ plus)
          (c.begin_end.ensures.begun none (renewed_before none all z) (c.loop-end.invariant.begun h));
    }

pub returns-clause-begun : goal.returns-clause-begun
returns-clause-begun c =
    let side = c.args.side.now in
    let none : ℕ → ℕ → ℤ = λ z k. pos 0 in
    let all = end_sum (side_frame side) (side_lists side) side.player (class_plan (side_frame side) (side_lists side) c.args.other.now) in
    λ h.
    renewed_all (side_frame side) (side_lists side) side.player (walked side) none none all 0 c.loop-end.end c.loop-end.tally
    (λ z k ge lz lk. absurd (omega (arith, ge, lz, c.loop-end-test.false, c.end_total-end-end.ensures)))
    (c.loop-end.invariant.begun h)

pub end_sums-requires-clause-other : goal.end_sums-requires-clause-other
end_sums-requires-clause-other c = c.requires.other

pub returns-clause-kept : goal.returns-clause-kept
returns-clause-kept c = c.loop-end.invariant.kept

pub begin_end-requires : goal.begin_end-requires
begin_end-requires c = record {
  end = grind arith;
  long = let w = walked c.args.side.now in
      let z = c.loop-end.end in
      let l = inside (goal.at.begin_end-requires c).In-loop-end in
      omega (
        arith,
        c.requires.sums (round_of (side_frame c.args.side.now) (at_end z)) (w.end_round z l) (w.end_in z l),
        c.loop-end.auto.sums,
        c.end_sums.auto.sums,
      );
  few = let side = c.args.side.now in
      let y = class_plan (side_frame side) (side_lists side) c.args.other.now in
      let l = inside (goal.at.begin_end-requires c).In-loop-end in
      λ k lk.
      omega (
        arith,
        few side y c.loop-end.end k l c.requires.other.plan.plan c.requires.one,
        ap unsigned_abs (c.end_sums.ensures.here k lk),
      );
  room = c.loop-end.invariant.kept.room;
}

pub end_sums-requires-clause-end : goal.end_sums-requires-clause-end
end_sums-requires-clause-end c = grind arith

pub end_sums-requires-clause-some : goal.end_sums-requires-clause-some
end_sums-requires-clause-some c = grind arith
