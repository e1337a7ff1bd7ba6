-- Class totals and what moves are worth are small numbers.
use Rattle.std.proofs.Common.{ℕ, ◌+◌, ◌*◌, ◌^◌, ◌<◌, ◌≤◌, List, cond, refl, arith}
use Rattle.std.specs.{Prelude.{◌==◌, ℤ, pos, unsigned_abs}, List.{range_with_len}}
use Rattle.gs_model.specs.{BestAnswers.{Values}, Classes.{IsClass, class_count}, Frame.{leads_to, move_count, point_count, round_of}, Sums.{sum_z}}
use Rattle.gs_model.specs.{Positions.{Target, at_point}, FrameFacts.{IsFrom, IsInside}}
use Rattle.gs_model.proofs.Basics.{product_le}
use Rattle.gs_seq.proofs.Forms.{form_classes, form_class_few, form_in_range, form_moves}
use Rattle.gs_best.specs.{ClassTotals.{earlier_class, total_worth}, LaterRows.{AreModestFrom}, Places.{IsFollowedFrom}}
use Rattle.gs_best.specs.{Sides.{frame_at, lists_at, plan_at, totals_at}, declared.side.Side.{Side}}
use Rattle.gs_best.proofs.{Chips.{form_modest}, Ranges.{range_abs}, Gathered.{tested_small}, Players.{apart, either_player, other_walked, walked}}
use Rattle.gs_best.proofs.TotalBounds.{totals_few}

pub figures : (total weight : ℕ) → total ≤ 2 ^ 36 → weight ≤ 67108864 → 4096 * (total * weight) ≤ 2 ^ 74
figures total weight l m = let p = product_le total weight (2 ^ 36) 67108864 l m in omega (arith, p)

module _ (s : Side) where
  pub known_few : (values : List ℤ) (move : ℕ → ℕ → ℕ) (from : ℕ) → IsFollowedFrom (frame_at s) (lists_at s) s.player (totals_at s values) move from
      → (g : Target) (c : ℕ) → IsInside (frame_at s) g → IsFrom from g → IsClass (lists_at s) (round_of (frame_at s) g) c
      → unsigned_abs (totals_at s values g c) ≤ 2 ^ 74
  known_few values move from h g c i a lc =
      let m = form_modest s.form.now in
      let plan = s.plan.plan in
      let b =
      totals_few (frame_at s) (form_in_range s.form.now) (lists_at s) (form_classes s.form.now) s.player (walked s) (other_walked s)
      (apart s.player s.some s.two) (plan_at s) plan.plan 4096
      (λ z n e lz ln. m.pays s.player z n e lz ln) (totals_at s values) move from (λ z e lz le. refl) h
      (λ q. either_player s.form.now s.player q s.some s.two) g c i a lc in
      omega (arith, b, figures (plan_at s).total _ plan.plan.total_in.1 m.weight)

  pub known_modest : (values : List ℤ) (move : ℕ → ℕ → ℕ) (from : ℕ) → IsFollowedFrom (frame_at s) (lists_at s) s.player (totals_at s values) move from
      → AreModestFrom (frame_at s) (lists_at s) (totals_at s values) from
  known_modest values move from h g c i a lc = omega (arith, known_few values move from h g c i a lc)

  -- what a move is worth, where all later totals are small
  pub worth_modest : (v : Values) (q m c : ℕ) → AreModestFrom (frame_at s) (lists_at s) v (q + 1) → q < point_count (frame_at s)
      → m < move_count (frame_at s) q → IsClass (lists_at s) (round_of (frame_at s) (at_point q)) c
      → unsigned_abs (total_worth (frame_at s) (lists_at s) v q m c) ≤ 200000 * 2 ^ 90
  worth_modest v q m c h lq lm lc =
      let f = frame_at s in
      let w = walked s in
      let g = leads_to f q m in
      let i = round_of f g in
      let j = round_of f (at_point q) in
      let some = w.some_round q lq in
      let onward = w.onward q m lq lm in
      let few = form_class_few s.form.now i (omega (arith, some, onward)) (w.within q m lq lm) in
      let all = range_abs (λ n. cond (earlier_class f (lists_at s) i j n == c) (v g n) (pos 0)) 1 (class_count (lists_at s) i) (2 ^ 90)
      (λ n lo hi. tested_small (earlier_class f (lists_at s) i j n == c) (v g n) (2 ^ 90)
      (let a = h g n (w.inside q m lq lm) (w.later q m lq lm) (omega arith, omega arith) in omega (arith, a))) in
      let up = product_le (class_count (lists_at s) i) (2 ^ 90) 200000 (2 ^ 90) few (omega arith) in
      omega (arith, all, up)

  -- and the worths of the first moves, added up
  pub worths_modest : (v : Values) (q c n : ℕ) → AreModestFrom (frame_at s) (lists_at s) v (q + 1) → q < point_count (frame_at s)
      → n ≤ move_count (frame_at s) q → IsClass (lists_at s) (round_of (frame_at s) (at_point q)) c
      → unsigned_abs (sum_z (λ m. total_worth (frame_at s) (lists_at s) v q m c) (range_with_len 0 n)) ≤ 26 * (200000 * 2 ^ 90)
  worths_modest v q c n h lq ln lc =
      let all = range_abs (λ m. total_worth (frame_at s) (lists_at s) v q m c) 0 n (200000 * 2 ^ 90)
      (λ m lo hi. worth_modest v q m c h lq (omega (arith, hi, ln)) lc) in
      let few = (form_moves s.form.now q lq).few in
      let up = product_le n (200000 * 2 ^ 90) 26 (200000 * 2 ^ 90) (omega (arith, ln, few)) (omega arith) in
      omega (arith, all, up)
