-- What all members of a class gain together by a claim: the size of the class times what each one gains.
use Rattle.std.proofs.Common.{◌≡◌, ℕ, ◌+◌, ◌-◌, ◌^◌, ◌<◌, ◌≤◌, [], length, refl, sym, ap, ◌∙◌, subst, arith}
use Rattle.std.proofs.{Math.IntN.{*ℤ_comm}, lemmas.List.Sums.{count_by-le-length}}
use Rattle.std.specs.Prelude.{◌==◌, pos, ◌*ℤ◌, unsigned_abs}
use Rattle.gs_game.specs.Seen.{target_of}
use Rattle.gs_model.specs.{BestAnswers.{class_worth, end_worth, spread, start_sum}, Classes.{IsClass, class_size, classes_in, first_member, list_of}}
use Rattle.gs_model.specs.{Frame.{choices_at, end_count, last_round, leads_to, move_count, point_count, round_of}, FrameFacts.{IsFrom, IsInside}}
use Rattle.gs_model.specs.{Positions.{Target, at_end, at_point}, Sums.{sum_z}}
use Rattle.gs_model.proofs.Total.{sum_z-mul}
use Rattle.gs_seq.specs.{Payoffs.{end_sum}, Plans.{lifted}}
use Rattle.gs_seq.proofs.{SlotLaws.{sum_range_le, sum_range_more}, Forms.{form_classes, form_in_range, form_lossless, form_signals}}
use Rattle.gs_best.specs.{ClassTotals.{gathered_below, total_worth}, Sides.{frame_at, lists_at, plan_at, totals_at}, Tables.{classes_at, start_of}}
use Rattle.gs_best.specs.declared.side.Side.{Side}
use Rattle.gs_best.proofs.{Modest.{known_modest}, Players.{walked}, Ranges.{sum_same}, Shares.{end_share, some_member}, Starts.{in_round}}
use Rattle.gs_best.proofs.{Stepping.{none_followed}, TotalAnswers.{all_by_classes}, WorthTotals.{worth_total}}
use Rattle.gs_certificate.specs.Claims.{IsWay, claimed, first_place_of, claimed_totals}
use Rattle.gs_certificate.specs.{declared.claim.Claim.{Claim}, declared.spot.Spot.{Spot}, declared.way.Way.{Way}}

module _ (s : Side) where
  -- a class has few members
  pub size_few : (round c : ℕ) → 0 < round → round ≤ last_round (frame_at s) → class_size (lists_at s) round c ≤ 200000
  size_few round c some top = omega (
    arith,
    count_by-le-length (λ x. x == c) (list_of (lists_at s) round),
    (form_classes s.form.now).lengths round some top,
    form_signals s.form.now round some top,
  )

  -- what an end pays is small
  pub end_small : (z c : ℕ) → z < end_count (frame_at s) → IsClass (lists_at s) (round_of (frame_at s) (at_end z)) c
      → unsigned_abs (end_sum (frame_at s) (lists_at s) s.player (plan_at s) z c) < 2 ^ 90
  end_small z c lz lc =
      let move : ℕ → ℕ → ℕ = λ q c. 0 in
      known_modest s [] move (point_count (frame_at s))
      (none_followed (frame_at s) (lists_at s) s.player (totals_at s []) move (point_count (frame_at s)) (omega arith)) (at_end z) c lz tt lc

  pub way_round : (w : Way) → IsWay (frame_at s) (lists_at s) w → (0 < w.round) × (w.round ≤ last_round (frame_at s))
  way_round w h =
      let at = in_round (frame_at s) s.player (walked s) (target_of w.to) h.inside in
      (omega (arith, at.0, h.round_is), omega (arith, at.1, h.round_is))

module _ (c : Claim) where
  -- the place of a number lies within the list
  pub place_in : (q e : ℕ) → q < point_count (frame_at c.side) → IsClass (lists_at c.side) (round_of (frame_at c.side) (at_point q)) e
      → start_of (frame_at c.side) (lists_at c.side) q + (e - 1) < length c.numbers.now
  place_in q e lq le =
      let width = classes_at (frame_at c.side) (lists_at c.side) in
      omega (arith, le.0, le.1, c.long, sum_range_more width q, sum_range_le width (q + 1) (point_count (frame_at c.side)) (omega (arith, lq)))

  sized : (g : Target) (e : ℕ) → IsInside (frame_at c.side) g → IsClass (lists_at c.side) (round_of (frame_at c.side) g) e
      → claimed_totals c g e ≡ pos (class_size (lists_at c.side) (round_of (frame_at c.side) g) e) *ℤ claimed c g e
  sized (at_point q) e i le = refl
  sized (at_end z) e i le =
      let s = c.side in
      let a = s.form.now in
      let j = round_of (frame_at s) (at_end z) in
      end_share (frame_at s) (form_in_range a) (lists_at s) (form_classes a) (form_lossless a) s.player (walked s) (plan_at s) z e i le
      ∙ *ℤ_comm (end_worth (frame_at s) s.player (lifted (frame_at s) (lists_at s) s.other.now) z (first_member (lists_at s) j e))
      (pos (class_size (lists_at s) j e))

  -- at the start all classes together gain what all signals do
  pub start_is : sum_z (claimed_totals c (frame_at c.side).start) (classes_in (lists_at c.side) (round_of (frame_at c.side) (frame_at c.side).start))
      ≡ start_sum (frame_at c.side) (spread (frame_at c.side) (lists_at c.side) (claimed c))
  start_is =
      let s = c.side in
      let f = frame_at s in
      let at = in_round f s.player (walked s) f.start (walked s).start_in in
      sym (all_by_classes f (lists_at s) (form_classes s.form.now) (round_of f f.start) (claimed c f.start) (claimed_totals c f.start)
      at.0 at.1 (λ e le. sized f.start e (walked s).start_in le))

-- a position that is not before the next point is not before the point
pub not_before : (q : ℕ) (t : Target) → IsFrom (q + 1) t → IsFrom q t
not_before q (at_point p) l = omega (arith, l)
not_before q (at_end z) l = tt

-- of the classes of a point's round
module _ (p : Spot) where
  abbrev k : Claim
  k = p.claim

  -- the point itself
  pub here_way : IsWay (frame_at k.side) (lists_at k.side) p.here
  here_way = record {
    inside = subst (IsInside (frame_at k.side)) (sym p.to_is) p.inside;
    round_is = p.round_is ∙ ap (round_of (frame_at k.side)) (sym p.to_is);
    place_is = p.place_is ∙ ap (first_place_of (frame_at k.side) (lists_at k.side)) (sym p.to_is);
  }

  module _ (e : ℕ) (lc : IsClass (lists_at k.side) p.here.round e) where
    class_is : IsClass (lists_at k.side) (round_of (frame_at k.side) (at_point p.point)) e
    class_is = subst (λ j. IsClass (lists_at k.side) j e) p.round_is lc

    abbrev pub size : ℕ
    size = class_size (lists_at k.side) (round_of (frame_at k.side) (at_point p.point)) e

    pub some_size : 0 < size
    some_size =
        let s = k.side in
        some_member (frame_at s) (lists_at s) (form_classes s.form.now) (round_of (frame_at s) (at_point p.point)) e ((walked s).some_round p.point p.inside)
        ((walked s).point_in p.point p.inside) class_is

    -- what all members gain at the point is the size of the class times its number
    pub here_is : claimed_totals k (target_of p.here.to) e ≡ pos size *ℤ claimed k (at_point p.point) e
    here_is = ap (λ t. claimed_totals k t e) p.to_is

    -- a move's worth to all members is the size of the class times its worth to each one
    pub worth_is : (m : ℕ) → m < move_count (frame_at k.side) p.point
        → total_worth (frame_at k.side) (lists_at k.side) (claimed_totals k) p.point m e
        ≡ pos size *ℤ class_worth (frame_at k.side) (lists_at k.side) (claimed k) p.point m e
    worth_is m lm =
        let s = k.side in
        let a = s.form.now in
        worth_total (frame_at s) (form_in_range a) (lists_at s) (form_classes a) (form_lossless a) s.player (walked s) (claimed k) (claimed_totals k) p.point
        m e p.inside lm class_is
        (λ n ln. sized k (leads_to (frame_at s) p.point m) n ((walked s).inside p.point m p.inside lm) ln)

    -- and so it is of the sum of all worths
    pub worths_are : sum_z (λ m. total_worth (frame_at k.side) (lists_at k.side) (claimed_totals k) p.point m e) (choices_at (frame_at k.side) p.point)
        ≡ pos size *ℤ sum_z (λ m. class_worth (frame_at k.side) (lists_at k.side) (claimed k) p.point m e) (choices_at (frame_at k.side) p.point)
    worths_are =
        let f = frame_at k.side in
        let lists = lists_at k.side in
        sum_same (λ m. total_worth f lists (claimed_totals k) p.point m e) (λ m. pos size *ℤ class_worth f lists (claimed k) p.point m e) 0
        (move_count f p.point) (λ m lo hi. worth_is m (omega arith))
        ∙ sum_z-mul (pos size) (λ m. class_worth f lists (claimed k) p.point m e) (choices_at f p.point)

  -- what the classes below gain where a move leads is what the move is worth
  pub worth_at : (to : Way) → IsWay (frame_at k.side) (lists_at k.side) to → (m e : ℕ) → target_of to.to ≡ leads_to (frame_at k.side) p.point m
      → gathered_below (frame_at k.side) (lists_at k.side) to.round p.here.round (claimed_totals k (target_of to.to)) e
      ≡ total_worth (frame_at k.side) (lists_at k.side) (claimed_totals k) p.point m e
  worth_at to h m e leads =
      let f = frame_at k.side in
      let lists = lists_at k.side in
      ap (λ t. gathered_below f lists to.round p.here.round (claimed_totals k t) e) leads
      ∙ ap (λ i. gathered_below f lists i p.here.round (claimed_totals k (leads_to f p.point m)) e) (h.round_is ∙ ap (round_of f) leads)
      ∙ ap (λ j. gathered_below f lists (round_of f (leads_to f p.point m)) j (claimed_totals k (leads_to f p.point m)) e) p.round_is

  -- a move leads to the point's round or a later one
  pub onward : (to : Way) → IsWay (frame_at k.side) (lists_at k.side) to → (m : ℕ) → m < move_count (frame_at k.side) p.point
      → target_of to.to ≡ leads_to (frame_at k.side) p.point m → p.here.round ≤ to.round
  onward to h m lm leads =
      omega (arith, p.round_is, h.round_is ∙ ap (round_of (frame_at k.side)) leads, (walked k.side).onward p.point m p.inside lm)
