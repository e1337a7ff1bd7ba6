-- Class totals that are read from the part of a list behind a place: at later points they are those of the whole list.
use Rattle.std.proofs.{Common.{◌≡◌, ℕ, ◌+◌, ◌-◌, ◌^◌, ◌<◌, ◌≤◌, ◌++◌, List, length, get_or, refl, sym, ◌∙◌, subst, arith}, lemmas.List.{get_or-append_right}}
use Rattle.std.specs.Prelude.{ℤ, pos, unsigned_abs, ◌≤ℤ◌, ◌<ℤ◌}
use Rattle.gs_model.specs.{Classes.{IsClass}, Frame.{leads_to, move_count, point_count, round_of}, FrameFacts.{IsFrom}, Positions.{Target, at_end, at_point}}
use Rattle.gs_seq.proofs.SlotLaws.{sum_range_le}
use Rattle.gs_best.specs.{ClassTotals.{total_worth}, LaterRows.{AreModestFrom, later_totals}, Rows.{IsMerged}, Tables.{classes_at, start_of}}
use Rattle.gs_best.specs.{Sides.{frame_at, lists_at, totals_at}, declared.side.Side.{Side}}
use Rattle.gs_best.proofs.{Gathered.{gathered_same}, Players.{walked}, Ranges.{sum_same}, Written.{behind_all}}

module _ (s : Side) (q from : ℕ) (front later : List ℤ) (long : length front ≡ from) (at : from ≡ start_of (frame_at s) (lists_at s) (q + 1)) where
  same_later : (t : Target) (c : ℕ) → IsFrom (q + 1) t → IsClass (lists_at s) (round_of (frame_at s) t) c
      → later_totals s from later t c ≡ totals_at s (front ++ later) t c
  same_later (at_point p) c lo lc =
      let i = start_of (frame_at s) (lists_at s) p + (c - 1) in
      let behind : from ≤ i = omega (arith, at, sum_range_le (classes_at (frame_at s) (lists_at s)) (q + 1) p lo) in
      behind_all from later i (i - from) (omega (arith, behind)) ∙ sym (get_or-append_right front later from i (pos 0) long behind)
  same_later (at_end z) c lo lc = refl

  pub modest_later : AreModestFrom (frame_at s) (lists_at s) (totals_at s (front ++ later)) (q + 1)
      → AreModestFrom (frame_at s) (lists_at s) (later_totals s from later) (q + 1)
  modest_later h t c i lo lc = subst (λ z. unsigned_abs z < 2 ^ 90) (sym (same_later t c lo lc)) (h t c i lo lc)

  module _ (lq : q < point_count (frame_at s)) where
    same_worth : (m c : ℕ) → m < move_count (frame_at s) q → total_worth (frame_at s) (lists_at s) (later_totals s from later) q m c
        ≡ total_worth (frame_at s) (lists_at s) (totals_at s (front ++ later)) q m c
    same_worth m c lm =
        let f = frame_at s in
        gathered_same f (lists_at s) (round_of f (leads_to f q m)) (round_of f (at_point q)) _ _ c
        (λ k lk. same_later (leads_to f q m) k ((walked s).later q m lq lm) lk)

    -- so a point gets the same totals and moves by them
    pub merged_later : (best : List ℤ) (moves : List ℕ)
        → IsMerged (frame_at s) (lists_at s) s.player (total_worth (frame_at s) (lists_at s) (later_totals s from later)) q best moves
        → IsMerged (frame_at s) (lists_at s) s.player (total_worth (frame_at s) (lists_at s) (totals_at s (front ++ later))) q best moves
    merged_later best moves h =
        let f = frame_at s in
        record {
          own = λ own c lc.
              let g = h.own own c lc in
              record {
                in_range = g.in_range;
                reached = g.reached ∙ same_worth _ c g.in_range;
                none_more = λ m lm. subst (λ z. z ≤ℤ get_or best (c - 1) (pos 0)) (same_worth m c lm) (g.none_more m lm);
                none_before = λ m lm. subst (λ z. z <ℤ get_or best (c - 1) (pos 0)) (same_worth m c (omega (arith, lm, g.in_range))) (g.none_before m lm);
              };
          others = λ other c lc. h.others other c lc
              ∙ sum_same (λ m. total_worth f (lists_at s) (later_totals s from later) q m c)
              (λ m. total_worth f (lists_at s) (totals_at s (front ++ later)) q m c) 0 (move_count f q) (λ m lo hi. same_worth m c (omega (arith, hi)));
        }
