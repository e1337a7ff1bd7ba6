use Rattle.std.proofs.lemmas.Grind.{common_steps}
use Rattle.std.proofs.{Common.{◌≡◌, ◌-◌, ◌<◌, ◌^◌, ℕ, get_or, of_z, to_z, to_z-of_z, ap, ◌∙◌, sym, subst, arith}, lemmas.Int.{fits_signed_from_abs}}
use Rattle.std.specs.{Prelude.{ℤ, pos, unsigned_abs}, Int.RustNames.{FitsSigned}}
use mir.Syntax.{w128, w64}
use Rattle.gs_model.specs.{Classes.{IsClass, class_count}, Frame.{round_of}, Positions.{at_end}}
use Rattle.gs_play.specs.{Sides.{side_frame, side_lists}, Tallies.{IsTally, risen_at}}
use Rattle.gs_play.proofs.{Pushed.{walked}, Risen.{adds_below, below_all, below_begun, below_more, risen_nowhere}, Tells.{choices_kept, choices_next}}
use Rattle.gs_play.proofs.pushing.begin_end.Goals.{In-Some}
use Rattle.gs_play.proofs.pushing.begin_end.Goals as goal

-- a small number that is read fits
fits : (x : ℤ) → unsigned_abs x < 2 ^ 63 → FitsSigned w64 (to_z w128 (of_z w128 x))
fits x l =
    let wide : unsigned_abs x < 2 ^ 127 = omega (arith, l) in
    subst (FitsSigned w64) (sym (to_z-of_z {w = w128} (fits_signed_from_abs w128 x wide))) (fits_signed_from_abs w64 x l)

-- the round of the way is that of the end
round : (c : In-Some) → c.in-Some.way.round ≡ round_of (side_frame c.args.side.now) (at_end c.args.end)
round c = let to = c.in-Some.ensures in to.way.round ∙ ap (round_of (side_frame c.args.side.now)) to.leads

pub class_total-class-end-requires-clause-some : goal.class_total-class-end-requires-clause-some
class_total-class-end-requires-clause-some c =
    omega (arith, round (goal.at.class_total-class-end-requires-clause-some c).In-Some, (walked c.args.side.now).end_round c.args.end c.requires.end)

pub class_total-class-end-requires-clause-top : goal.class_total-class-end-requires-clause-top
class_total-class-end-requires-clause-top c =
    omega (arith, round (goal.at.class_total-class-end-requires-clause-top c).In-Some, (walked c.args.side.now).end_in c.args.end c.requires.end)

pub returns-in_default-clause-begun : goal.returns-in_default-clause-begun
returns-in_default-clause-begun c =
    let side = c.args.side.now in
    λ pays rise.
    risen_nowhere (side_frame side) (side_lists side) side.player pays rise 0 c.args.end (λ k. get_or c.args.sums.now (k - 1) (pos 0)) c.args.tally.now
    c.in_default.ensures

pub loop-class-init : goal.loop-class-init
loop-class-init c =
    let side = c.args.side.now in
    record {
      kept = choices_kept c.requires.room;
      begun = λ pays rise h.
          below_begun (side_frame side) (side_lists side) side.player (walked side) pays rise 0 c.args.end (λ k. get_or c.args.sums.now (k - 1) (pos 0))
          c.args.tally.now h;
    }

-- a small number that is read and cast stays what it is
cast : (x : ℤ) → unsigned_abs x < 2 ^ 63 → to_z w64 (of_z w64 (to_z w128 (of_z w128 x))) ≡ x
cast x l =
    let wide : unsigned_abs x < 2 ^ 127 = omega (arith, l) in
    ap (λ y. to_z w64 (of_z w64 y)) (to_z-of_z {w = w128} (fits_signed_from_abs w128 x wide)) ∙ to_z-of_z {w = w64} (fits_signed_from_abs w64 x l)

pub loop-class-preserved : goal.loop-class-preserved
loop-class-preserved c =
    let side = c.args.side.now in
    let more : ℕ → ℤ = λ k. get_or c.args.sums.now (k - 1) (pos 0) in
    let class = c.loop-class.class in
    let of_end : IsClass (side_lists side) (round_of (side_frame side) (at_end c.args.end)) class = (
      omega (arith, c.loop-class.auto.class),
      omega (
        arith,
        c.loop-class-test.true,
        c.class_total-class-end.ensures.value,
        ap (class_count (side_lists side)) (round (goal.at.loop-class-preserved c).In-Some),
      ),
    ) in
    record {
      kept = choices_next c.loop-class.invariant.kept c.turn_end.ensures.kept;
      begun = λ pays rise h. subst (λ r. IsTally (side_frame side) (side_lists side) side.player pays r 0 c.turn_end.new.tally)
          (below_more rise c.args.end more class _ (cast (more class) (c.requires.few class of_end)))
          (c.turn_end.ensures.turned c.args.end pays (risen_at rise c.args.end (adds_below more class)) c.requires.end c.in-Some.ensures.leads
          (c.loop-class.invariant.begun pays rise h));
    }

pub turn_end-requires : goal.turn_end-requires
turn_end-requires c = grind (arith, common_steps)

pub overflow_cast-more-in-loop-class : goal.overflow_cast-more-in-loop-class
overflow_cast-more-in-loop-class c =
    let side = c.args.side.now in
    let of_end : IsClass (side_lists side) (round_of (side_frame side) (at_end c.args.end)) c.loop-class.class = (
      omega (arith, c.loop-class.auto.class),
      omega (
        arith,
        c.loop-class-test.true,
        c.class_total-class-end.ensures.value,
        ap (class_count (side_lists side)) (round (goal.at.overflow_cast-more-in-loop-class c).In-Some),
      ),
    ) in
    fits (get_or c.args.sums.now (c.loop-class.class - 1) (pos 0)) (c.requires.few c.loop-class.class of_end)

pub bounds-sums-class : goal.bounds-sums-class
bounds-sums-class c = grind arith

pub returns-in_default-clause-kept : goal.returns-in_default-clause-kept
returns-in_default-clause-kept c = choices_kept c.requires.room

pub returns : goal.returns
returns c = record {
  kept = c.loop-class.invariant.kept;
  begun = let side = c.args.side.now in
      let all : class_count (side_lists side) (round_of (side_frame side) (at_end c.args.end)) < c.loop-class.class =
      omega (
        arith,
        c.loop-class-test.false,
        c.class_total-class-end.ensures.value,
        ap (class_count (side_lists side)) (round (goal.at.returns c).In-Some),
      ) in
      λ pays rise h.
      below_all (side_frame side) (side_lists side) side.player (walked side) pays rise 0 c.args.end (λ k. get_or c.args.sums.now (k - 1) (pos 0))
      c.loop-class.tally c.loop-class.class all (c.loop-class.invariant.begun pays rise h);
}

pub offset_bounds-sums-class : goal.offset_bounds-sums-class
offset_bounds-sums-class c = grind arith

pub overflow_cast-more : goal.overflow_cast-more
overflow_cast-more c = grind arith

pub overflow_sub-more : goal.overflow_sub-more
overflow_sub-more c = grind arith
