use Rattle.std.proofs.{lemmas.Grind.{common_steps, get_or-set_at}, lemmas.List.{get_or-set_other, get_or_read}, lemmas.Int.{to_z-of_z}}
use Rattle.std.proofs.{Common.{◌≡◌, ◌+◌, ◌<◌, get_or, refl, sym, ap, ◌∙◌, arith, ⊎_elim, of_z, length, rules}, lemmas.Bool.{cases_eq}}
use Rattle.std.specs.{Prelude.{pos, ◌*ℤ◌}, Int.RustNames.{FitsSigned}}
use mir.Syntax.{w128}
use mir.Val.{to_z}
use Rattle.gs_model.specs.{Classes.{class_count, class_size}, Frame.{point_count}}
use Rattle.gs_best.specs.{Tables.{classes_at, start_of}, Sides.{frame_at, lists_at}}
use Rattle.gs_best.proofs.{Placed.{IsRow}, WalkRows.{point_row}, sharing.share_point.Goals.{After-index, In-loop-class}}
use Rattle.gs_best.proofs.sharing.share_point.Goals as goal

row : (c : After-index) → IsRow (classes_at (frame_at c.args.side.now) (lists_at c.args.side.now)) (point_count (frame_at c.args.side.now)) c.args.point
    c.index.result.now (classes_at (frame_at c.args.side.now) (lists_at c.args.side.now) c.args.point)
row c = point_row (frame_at c.args.side.now) (lists_at c.args.side.now) c.args.table.now c.requires.laid c.args.point _ _ c.requires.point c.index.ensures refl

-- the place of a class among the totals of the table, and among the values
within : (c : In-loop-class) → c.index.result.now + c.loop-class.class < start_of (frame_at c.args.side.now) (lists_at c.args.side.now)
    (point_count (frame_at c.args.side.now))
within c = omega (
  arith,
  (row (goal.at.In-loop-class c).After-index).within,
  c.loop-class-test.true,
  c.class_total-class-end.ensures.value,
  ap (class_count (lists_at c.args.side.now)) c.round_at-round.ensures.value,
)

pub index-requires-in-loop-class : goal.index-requires-in-loop-class
index-requires-in-loop-class c =
    omega (arith, within (goal.at.index-requires-in-loop-class c).In-loop-class, c.requires.laid.holds.totals, c.args.table.now.totals.ok.0)

pub bounds-values-place : goal.bounds-values-place
bounds-values-place c = omega (arith, within (goal.at.bounds-values-place c).In-loop-class, c.requires.room, c.loop-class.auto.values)

pub loop-class-preserved : goal.loop-class-preserved
loop-class-preserved c =
    let place = within (goal.at.loop-class-preserved c).In-loop-class in
    let inside : c.index.result.now + c.loop-class.class < length c.loop-class.values = omega (arith, place, c.requires.room, c.loop-class.auto.values) in
    let start = c.index.result.now in
    let class = c.loop-class.class in
    let v = c.index-in-loop-class.result.now in
    let fits : FitsSigned w128 v = search rules in
    let read : to_z w128 (of_z w128 v) ≡ get_or c.args.table.now.totals.items (start + class) (pos 0) =
    to_z-of_z w128 v fits ∙ get_or_read c.args.table.now.totals.items (start + class) v
    (omega (arith, place, c.requires.laid.holds.totals)) c.index-in-loop-class.ensures (pos 0) in
    record {
      here = λ k share l is. ⊎_elim
          (λ (same : k ≡ class). get_or-set_at c.loop-class.values (start + class) (start + k) _ (pos 0) (omega (arith, same)) inside
          ∙ to_z-of_z w128 c.over.result (record { sfits = c.over.type_inv }) ∙ c.over.ensures.share share
          (read ∙ ap (λ i. get_or c.args.table.now.totals.items (start + i) (pos 0)) (sym same) ∙ is
          ∙ ap (λ n. share *ℤ pos (class_size (lists_at c.args.side.now) c.round_at-round.result (n + 1))) same
          ∙ ap (λ n. share *ℤ pos n) (sym c.size_of.ensures.value)))
          (λ (other : k ≡ class → ⊥). get_or-set_other c.loop-class.values (start + class) (start + k) _ (pos 0) (λ e. omega (arith, e, other))
          ∙ c.loop-class.invariant.here k share (omega (arith, l, other)) is)
          (cases_eq k class);
      before = λ i l. get_or-set_other c.loop-class.values (start + class) i _ (pos 0) (λ e. omega (arith, e, l)) ∙ c.loop-class.invariant.before i l;
    }

pub returns : goal.returns
returns c = record {
  here = let r = row (goal.at.returns c).After-index in
      let s = c.args.side.now in
      let round = c.round_at-round.ensures.value in
      λ k share lc is.
      let place : c.index.result.now + k ≡ start_of (frame_at s) (lists_at s) c.args.point + k = omega (arith, r.start_is) in
      ap (λ i. get_or c.loop-class.values i (pos 0)) (sym place)
      ∙ c.loop-class.invariant.here k share (omega (
        arith,
        lc.1,
        c.loop-class-test.false,
        c.class_total-class-end.ensures.value,
        ap (class_count
            (lists_at s)) round,
      ))
      (ap (λ i. get_or c.args.table.now.totals.items i (pos 0)) place ∙ is ∙ ap (λ j. share *ℤ pos (class_size (lists_at s) j (k + 1))) (sym round));
  before = grind (arith, common_steps);
}

pub size_of-requires : goal.size_of-requires
size_of-requires c = grind (arith, common_steps)

pub offset_bounds-values-place : goal.offset_bounds-values-place
offset_bounds-values-place c = grind arith

pub class_total-class-end-requires-clause-top : goal.class_total-class-end-requires-clause-top
class_total-class-end-requires-clause-top c = omega arith

pub over-requires : goal.over-requires
over-requires c = grind arith
