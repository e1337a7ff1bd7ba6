-- Class totals at the start.
use Rattle.std.proofs.Common.{◌≡◌, ℕ, ◌+◌, ◌-◌, ◌^◌, ◌<◌, ◌≤◌, List, get_or, refl, ap, ◌∙◌, arith}
use Rattle.std.specs.{Prelude.{ℤ, pos, unsigned_abs}, List.{range_with_len}}
use Rattle.gs_model.specs.{Classes.{IsClass, class_count, classes_in}, Frame.{Frame, last_round, round_of}, FrameFacts.{IsFrom, IsInside, IsWalked}}
use Rattle.gs_model.specs.{Positions.{Target, at_end, at_point}, Sums.{sum_z}}
use Rattle.gs_seq.proofs.Forms.{form_classes, form_in_range}
use Rattle.gs_best.specs.{ClassTotals.{IsFollowed}, Places.{IsFollowedFrom}, LaterRows.{IsRowOf}, Sides.{frame_at, lists_at, plan_at, totals_at}}
use Rattle.gs_best.specs.{declared.class_row.ClassRow.{ClassRow}, declared.side.Side.{Side}}
use Rattle.gs_best.proofs.{Chips.{form_modest}, Modest.{figures, known_modest}, Players.{apart, either_player, other_walked, walked}, Stepping.{from_some}}
use Rattle.gs_best.proofs.{Gathered.{sum_shift}, TotalBounds.{round_few}}

-- a position is in a round
pub in_round : (f : Frame) (player : ℕ) → IsWalked f player → (g : Target) → IsInside f g → (0 < round_of f g) × (round_of f g ≤ last_round f)
in_round f player w (at_point q) i = (w.some_round q i, w.point_in q i)
in_round f player w (at_end z) i = (w.end_round z i, w.end_in z i)

from_first : (g : Target) → IsFrom 0 g
from_first (at_point q) = omega arith
from_first (at_end z) = tt

module _ (s : Side) (values : List ℤ) (g : Target) (i : IsInside (frame_at s) g) where
  -- the sum of the numbers of its row is the sum of its class totals
  pub row_sum : (r : ClassRow) → IsRowOf (frame_at s) (lists_at s) (totals_at s values) g r → (count : ℕ) → count ≡ class_count (lists_at s) r.round
      → sum_z (λ k. get_or r.values.now k (pos 0)) (range_with_len r.start (r.start + count - r.start))
      ≡ sum_z (totals_at s values g) (classes_in (lists_at s) (round_of (frame_at s) g))
  row_sum r held count all =
      let n = r.start + count - r.start in
      let long : n ≡ class_count (lists_at s) (round_of (frame_at s) g) = omega (arith, all, ap (class_count (lists_at s)) held.round_is) in
      sum_shift (λ k. get_or r.values.now k (pos 0)) (totals_at s values g) r.start 1 n
      (λ m l.
      let place : r.start + m ≡ r.start + (1 + m - 1) = omega arith in
      ap (λ k. get_or r.values.now k (pos 0)) place ∙ held.values_are (1 + m) (omega arith, omega (arith, l, long)))
      ∙ ap (λ n. sum_z (totals_at s values g) (range_with_len 1 n)) long

  module _ (move : ℕ → ℕ → ℕ) (h : IsFollowed (frame_at s) (lists_at s) s.player (plan_at s) (totals_at s values) move) where
    followed : IsFollowedFrom (frame_at s) (lists_at s) s.player (totals_at s values) move 0
    followed = from_some (frame_at s) (lists_at s) s.player (plan_at s) (totals_at s values) move 0 h

    pub row_small : (r : ClassRow) → IsRowOf (frame_at s) (lists_at s) (totals_at s values) g r → (count : ℕ) → count ≡ class_count (lists_at s) r.round
        → (k : ℕ) → r.start ≤ k → k < r.start + count → unsigned_abs (get_or r.values.now k (pos 0)) < 2 ^ 90
    row_small r held count all k lo hi =
        let c = k - r.start + 1 in
        let class : IsClass (lists_at s) (round_of (frame_at s) g) c = (omega arith, omega (arith, lo, hi, all, ap (class_count (lists_at s)) held.round_is)) in
        let place : r.start + (c - 1) ≡ k = omega (arith, lo) in
        let m = known_modest s values move 0 followed g c i (from_first g) class in
        omega (
          arith,
          m,
          ap unsigned_abs (held.values_are c class),
          ap (λ k. unsigned_abs (get_or r.values.now k (pos 0))) place,
        )

    -- all totals of a round together are small
    pub round_small : unsigned_abs (sum_z (totals_at s values g) (classes_in (lists_at s) (round_of (frame_at s) g))) ≤ 2 ^ 74
    round_small =
        let a = s.form.now in
        let m = form_modest a in
        let plan = s.plan.plan in
        let at = in_round (frame_at s) s.player (walked s) g i in
        let b =
        round_few (frame_at s) (form_in_range a) (lists_at s) (form_classes s.form.now) s.player (walked s) (other_walked s)
        (apart s.player s.some s.two) (plan_at s)
        plan.plan 4096 (λ z n e lz ln. m.pays s.player z n e lz ln) (totals_at s values) move 0 (λ z e lz le. refl) followed
        (λ q. either_player a s.player q s.some s.two) g i (from_first g) at.0 at.1 in
        omega (arith, b, figures (plan_at s).total _ plan.plan.total_in.1 m.weight)
