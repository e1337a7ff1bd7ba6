-- The rows at the targets of a point's moves: they stand in their lists, and hold the class totals there.
use Rattle.std.proofs.{Common.{◌≡◌, ℕ, ◌+◌, ◌-◌, ◌<◌, ◌≤◌, ◌++◌, List, length, get_or, sym, ap, ◌∙◌, subst, arith}, lemmas.List.{length-append}}
use Rattle.std.specs.Prelude.{ℤ, pos, unsigned_abs}
use Rattle.gs_model.specs.{Classes.{ClassLists, IsClass, class_count}, FrameFacts.{IsFrom}, Frame.{Frame, leads_to, move_count, point_count, round_of}}
use Rattle.gs_model.specs.Positions.{Target, at_end, at_point}
use Rattle.gs_seq.specs.Payoffs.{end_sum}
use Rattle.gs_seq.proofs.SlotLaws.{sum_range_le}
use Rattle.gs_best.specs.{Rows.{AreWorths}, Tables.{AreStarts, classes_at, start_of}, ClassTotals.{gathered_below, total_worth}}
use Rattle.gs_best.specs.{LaterRows.{AreGathered, AreLaidFrom, row_from, IsLaidBehind, IsLaterRow, IsRowOf, later_totals}, Rooms.{IsLaid}}
use Rattle.gs_best.specs.{Sides.{frame_at, lists_at, plan_at}, WalkPoints.{frame_on, lists_on, totals_on}, declared.side.Side.{Side}}
use Rattle.gs_best.specs.{declared.class_row.ClassRow.{ClassRow}, declared.walk_point.WalkPoint.{WalkPoint}, declared.tables.Table.{Table}}
use Rattle.gs_best.proofs.{Players.{walked}, Gathered.{gathered_same}, Placed.{IsRow, row_read}, Written.{behind_all}}

-- ---- the point

pub some_at : (at : WalkPoint) → 0 < at.round
some_at at = omega (arith, at.round_is, (walked at.side).some_round at.point at.inside)

-- the totals of a later point stand behind the place from which totals are known
pub ahead : (at : WalkPoint) (q : ℕ) → at.point + 1 ≤ q → at.from ≤ start_of (frame_on at) (lists_on at) q
ahead at q l = omega (arith, at.from_is, sum_range_le (classes_at (frame_on at) (lists_on at)) (at.point + 1) q l)

-- so do those of the points that a move leads to
pub ahead_by : (at : WalkPoint) (m : ℕ) → m < move_count (frame_on at) at.point
    → IsLaidBehind (frame_on at) (lists_on at) at.from (leads_to (frame_on at) at.point m)
ahead_by at m lm q is = ahead at q (subst (IsFrom (at.point + 1)) is ((walked at.side).later at.point m at.inside lm))

-- ---- rows

-- the numbers of a point
pub point_row : (f : Frame) (lists : ClassLists) (t : Table) → IsLaid f lists t → (q start count : ℕ) → q < point_count f
    → start ≡ get_or t.starts.items q start → count ≡ classes_at f lists q → IsRow (classes_at f lists) (point_count f) q start count
point_row f lists t laid q start count l read all = row_read (classes_at f lists) (point_count f) q start count t.starts.items l laid.holds.starts
    laid.places read all

-- a table without the front of its totals
pub laid_from : (f : Frame) (lists : ClassLists) (t : Table) → IsLaid f lists t → (starts : List ℕ) → starts ≡ t.starts.items → (front later : List ℤ)
    → front ++ later ≡ t.totals.items → AreLaidFrom f lists starts (length front) later
laid_from f lists t laid starts same front later split = record {
  long = subst (λ l. point_count f ≤ length l) (sym same) laid.holds.starts;
  places = subst (λ l. AreStarts f lists l) (sym same) laid.places;
  room = omega (arith, laid.holds.totals, ap (λ (l : List ℤ). length l) split, length-append front later);
}

-- the row of a point holds the point's class totals
pub held_at_point : (s : Side) (from : ℕ) (totals : List ℤ) (r : ClassRow) (t : Target) (q : ℕ) → t ≡ at_point q → r.round ≡ round_of (frame_at s) (at_point q)
    → r.start + from ≡ start_of (frame_at s) (lists_at s) q → r.values.now ≡ totals → IsRowOf (frame_at s) (lists_at s) (later_totals s from totals) t r
held_at_point s from totals r t q is round start same = subst (λ t. IsRowOf (frame_at s) (lists_at s) (later_totals s from totals) t r) (sym is) (record {
  round_is = round;
  values_are = λ c lc. ap (λ l. get_or l (r.start + (c - 1)) (pos 0)) same
      ∙ sym (behind_all from totals (start_of (frame_at s) (lists_at s) q + (c - 1)) (r.start + (c - 1)) (omega (arith, start)));
})

-- the row of an end holds what the end pays, from the first place on
pub held_at_end : (s : Side) (from : ℕ) (totals : List ℤ) (r : ClassRow) (t : Target) (z : ℕ) → t ≡ at_end z
    → r.round ≡ round_of (frame_at s) (at_end z) → r.start ≡ 0
    → ((c : ℕ) → IsClass (lists_at s) (round_of (frame_at s) (at_end z)) c
    → get_or r.values.now (c - 1) (pos 0) ≡ end_sum (frame_at s) (lists_at s) s.player (plan_at s) z c)
    → IsRowOf (frame_at s) (lists_at s) (later_totals s from totals) t r
held_at_end s from totals r t z is round start paid = subst (λ t. IsRowOf (frame_at s) (lists_at s) (later_totals s from totals) t r) (sym is) (record {
  round_is = round;
  values_are = λ c lc.
      let here : r.start + (c - 1) ≡ c - 1 = omega (arith, start) in ap (λ i. get_or r.values.now i (pos 0)) here ∙ paid c lc;
})

module _ (at : WalkPoint) (m : ℕ) (lm : m < move_count (frame_on at) at.point) (r : ClassRow)
    (held : IsRowOf (frame_on at) (lists_on at) (totals_on at) (leads_to (frame_on at) at.point m) r) where
  pub later_row : r.start + class_count (lists_on at) r.round ≤ length r.values.now → IsLaterRow (frame_on at) (lists_on at) at.round r
  later_row room =
      let f = frame_on at in
      let w = walked at.side in
      let t = leads_to f at.point m in
      record {
        later = omega (arith, w.onward at.point m at.inside lm, held.round_is, at.round_is);
        top = omega (arith, w.within at.point m at.inside lm, held.round_is);
        room = room;
        modest = λ i l.
            let class : IsClass (lists_on at) (round_of f t) (i + 1) =
            (omega arith, omega (arith, l, ap (class_count (lists_on at)) held.round_is)) in
            let small = at.modest t (i + 1) (w.inside at.point m at.inside lm) (w.later at.point m at.inside lm) class in
            let place : r.start + (i + 1 - 1) ≡ r.start + i = omega arith in
            omega (arith, small, ap unsigned_abs (held.values_are (i + 1) class), ap (λ n. unsigned_abs (get_or r.values.now n (pos 0))) place);
      }

  -- what is gathered_below of it is what the move is worth
  pub worths_by : (sums : List ℤ) → AreGathered (frame_on at) (lists_on at) r.round at.round r.values.now r.start sums
      → AreWorths (frame_on at) (lists_on at) (total_worth (frame_on at) (lists_on at) (totals_on at)) at.point m sums
  worths_by sums below c lc =
      let f = frame_on at in
      let lists = lists_on at in
      let j = round_of f (at_point at.point) in
      let t = leads_to f at.point m in
      let row = row_from r.values.now r.start in
      below c (subst (λ j. IsClass lists j c) (sym at.round_is) lc)
      ∙ ap (λ j. gathered_below f lists r.round j row c) at.round_is
      ∙ ap (λ i. gathered_below f lists i j row c) held.round_is
      ∙ gathered_same f lists (round_of f t) j row (totals_on at t) c held.values_are
