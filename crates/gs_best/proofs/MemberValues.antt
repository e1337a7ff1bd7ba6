-- Values of members, where class totals are best: each total over the size of its class.
use Rattle.std.proofs.{Common.{◌≡◌, ℕ, ◌+◌, ◌-◌, ◌^◌, ◌<◌, ◌≤◌, List, get_or, sym, ap, ◌∙◌, subst, arith}, Math.IntN.{*ℤ_comm}, Math.Nat.{mul-le-mul_right}}
use Rattle.std.proofs.lemmas.Int.{unsigned_abs-mul}
use Rattle.std.specs.Prelude.{ℤ, pos, ◌*ℤ◌, unsigned_abs}
use borrow.Author.Differences.{abs_is}
use Rattle.gs_model.specs.{BestAnswers.{IsBestValues, Values}, Classes.{IsClass, class_size}, Frame.{point_count, round_of}, FrameFacts.{IsInside}}
use Rattle.gs_model.specs.Positions.{Target, at_end, at_point}
use Rattle.gs_seq.specs.Plans.{lifted}
use Rattle.gs_seq.proofs.Forms.{form_classes, form_in_range, form_lossless}
use Rattle.gs_best.specs.{ClassTotals.{AreBestTotals}, Filled.{IsFilled}, Sides.{frame_at, lists_at, picks_at, plan_at, totals_at}, Tables.{start_of, table_of}}
use Rattle.gs_best.specs.{declared.tables.Table.{Table}, declared.side.Side.{Side}}
use Rattle.gs_best.proofs.{Modest.{known_few}, Players.{walked}, Shares.{some_member}, Stepping.{from_some}, TotalAnswers.{best_values, values_of}}
use Rattle.gs_best.proofs.{TotalsBest.{totals_sized}, Trimmed.{best_same, place_of}}

-- what a table of best class totals says of members
pub filled_values : (s : Side) (t : Table) → IsFilled s t → Values
filled_values s t h =
    values_of (frame_at s) (form_in_range s.form.now) (lists_at s) (form_classes s.form.now) (form_lossless s.form.now) s.player (walked s) (plan_at s)
    (totals_at s t.totals.items) (picks_at s t.picks.items) h.best

pub filled_best : (s : Side) (t : Table) (h : IsFilled s t)
    → IsBestValues (frame_at s) (lists_at s) s.player (lifted (frame_at s) (lists_at s) s.other.now) (filled_values s t h) (picks_at s t.picks.items)
unfolding filled_values
filled_best s t h =
    best_values (frame_at s) (form_in_range s.form.now) (lists_at s) (form_classes s.form.now) (form_lossless s.form.now) s.player (walked s) (plan_at s)
    (totals_at s t.totals.items) (picks_at s t.picks.items) h.best

-- a part is no larger than the whole
pub part_small : (n : ℕ) (x : ℤ) (most : ℕ) → 0 < n → unsigned_abs (pos n *ℤ x) ≤ most → unsigned_abs x ≤ most
part_small n x most some h = let m = mul-le-mul_right (unsigned_abs x) some in omega (arith, h, unsigned_abs-mul (pos n) x, abs_is (pos n), m)

module _ (s : Side) (totals values : List ℤ) (move : ℕ → ℕ → ℕ)
    (h : AreBestTotals (frame_at s) (lists_at s) s.player (plan_at s) (totals_at s totals) move)
    (shared : (q k : ℕ) (share : ℤ) → q < point_count (frame_at s) → IsClass (lists_at s) (round_of (frame_at s) (at_point q)) (k + 1)
    → get_or totals (start_of (frame_at s) (lists_at s) q + k) (pos 0) ≡ share *ℤ pos (class_size (lists_at s) (round_of (frame_at s) (at_point q)) (k + 1))
    → get_or values (start_of (frame_at s) (lists_at s) q + k) (pos 0) ≡ share) where
  W : Values
  W = values_of (frame_at s) (form_in_range s.form.now) (lists_at s) (form_classes s.form.now) (form_lossless s.form.now) s.player (walked s) (plan_at s)
      (totals_at s totals) move h

  best : IsBestValues (frame_at s) (lists_at s) s.player (lifted (frame_at s) (lists_at s) s.other.now) W move
  unfolding W
  best = best_values (frame_at s) (form_in_range s.form.now) (lists_at s) (form_classes s.form.now) (form_lossless s.form.now) s.player (walked s) (plan_at s)
      (totals_at s totals) move h

  sized : (q e : ℕ) → q < point_count (frame_at s) → IsClass (lists_at s) (round_of (frame_at s) (at_point q)) e
      → totals_at s totals (at_point q) e ≡ pos (class_size (lists_at s) (round_of (frame_at s) (at_point q)) e) *ℤ W (at_point q) e
  unfolding W
  sized q e lq le =
      totals_sized (frame_at s) (form_in_range s.form.now) (lists_at s) (form_classes s.form.now) (form_lossless s.form.now) s.player (walked s) (plan_at s)
      (totals_at s totals) move h.followed (at_point q) e lq le

  same : (g : Target) (e : ℕ) → IsInside (frame_at s) g → IsClass (lists_at s) (round_of (frame_at s) g) e
      → table_of (frame_at s) (lists_at s) s.player (lifted (frame_at s) (lists_at s) s.other.now) values g e ≡ W g e
  same (at_point q) e i le =
      let k = e - 1 in
      let up : k + 1 ≡ e = omega (arith, le.0) in
      let size = λ (n : ℕ). class_size (lists_at s) (round_of (frame_at s) (at_point q)) n in
      shared q k (W (at_point q) e) i (subst (IsClass (lists_at s) (round_of (frame_at s) (at_point q))) (sym up) le)
      (sized q e i le ∙ *ℤ_comm (pos (size e)) (W (at_point q) e) ∙ ap (λ n. W (at_point q) e *ℤ pos (size n)) (sym up))
  same (at_end z) e i le = sym (best.at_ends z e i le)

  pub shared_best : IsBestValues (frame_at s) (lists_at s) s.player (lifted (frame_at s) (lists_at s) s.other.now)
      (table_of (frame_at s) (lists_at s) s.player (lifted (frame_at s) (lists_at s) s.other.now) values) move
  shared_best = best_same (frame_at s) (lists_at s) (form_classes s.form.now) s.player (walked s) (lifted (frame_at s) (lists_at s) s.other.now) W
      (table_of (frame_at s) (lists_at s) s.player (lifted (frame_at s) (lists_at s) s.other.now) values) same move best

  -- and they are small
  pub shared_small : (i : ℕ) → i < start_of (frame_at s) (lists_at s) (point_count (frame_at s)) → unsigned_abs (get_or values i (pos 0)) ≤ 2 ^ 74
  shared_small i l =
      let f = frame_at s in
      let p = place_of f (lists_at s) (point_count f) i l in
      let g : Target = at_point p.point in
      let size = class_size (lists_at s) (round_of f g) p.class in
      let few = known_few s totals move 0 (from_some f (lists_at s) s.player (plan_at s) (totals_at s totals) move 0 h.followed) g p.class p.before
      (omega arith)
      p.is_class in
      let some = some_member f (lists_at s) (form_classes s.form.now) (round_of f g) p.class ((walked s).some_round p.point p.before)
      ((walked s).point_in p.point p.before) p.is_class in
      let whole : unsigned_abs (pos size *ℤ W g p.class) ≤ 2 ^ 74 = omega (arith, few, ap unsigned_abs (sized p.point p.class p.before p.is_class)) in
      omega (
        arith,
        part_small size (W g p.class) (2 ^ 74) some whole,
        ap unsigned_abs (same g p.class p.before p.is_class),
        ap (λ i. unsigned_abs (get_or values i (pos 0))) p.here,
      )
