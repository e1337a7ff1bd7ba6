-- One cell of a sweep: what its function says, from what was found and fed.
use Rattle.std.proofs.Common.{◌≡◌, ℕ, ◌+◌, ◌<◌, ◌≤◌, length, set, sym, ap, ◌∙◌, subst, arith, ⊎_elim, get_or-set_other, get_or-set_same}
use Rattle.std.specs.Prelude.{ℤ, ◌-ℤ◌, slice_index}
use Rattle.std.proofs.{lemmas.Bool.{cases_eq}, lemmas.List.{set-get_or}}
use Rattle.gs_model.specs.{Classes.{ClassLists, IsClass}, Frame.{Frame, player_at, point_count, round_of}, FrameFacts.{IsFrom, IsWalked}, Positions.{at_point}}
use Rattle.gs_best.specs.Tables.{moves_of}
use Rattle.gs_best.proofs.PointStarts.{place_before, starts_le, starts_more}
use Rattle.gs_play.specs.{DueTurns.{IsNoneDue}, Lines.{flat, line_at, wrapped}, Plots.{HasNoWay, IsCellOf, IsRowIn, LeadsTo, cell_place}}
use Rattle.gs_play.specs.{Tallies.{AreSmallAtEnds, FeedsAbove, HasTallyRoom, IsLineFound, IsTally, slopes_of, up_of, zeros_of}, declared.line.Line.{Line}}
use Rattle.gs_play.specs.{declared.plot.PointRow.{PointRow}, declared.plot.Way.{Way}, declared.tally.Tally.{Tally}}
use Rattle.gs_play.proofs.{Chosen.{IsFoundAgain, IsFoundFor, found_again, found_for}, Feeds.{feeds_at, up_from, up_in}, Lists.{cell_inside}}
use Rattle.gs_play.proofs.{Kept.{kept_fed, kept_nowhere, kept_same}, PlotRows.{cell_within, class_here, class_in, place_here}}

module _ {f : Frame} {lists : ClassLists} {player : ℕ} (walked : IsWalked f player) {now last : ℕ} (order : now < last) (turns : last ≤ 1000001) {cell : ℕ}
    {r : PointRow} (row : IsRowIn f lists r) (is : IsCellOf f lists r.point cell) {old mid : Tally} (room : HasTallyRoom f lists old)
    (found : IsLineFound player r cell now last old mid) where
  abbrev class : ℕ
  class = class_here f lists r row cell

  at_cell : cell_place f lists r.point class ≡ cell
  at_cell = place_here f lists r row cell is

  class_is : IsClass lists (round_of f (at_point r.point)) class
  class_is = class_in f lists r row cell is

  found_here : IsFoundFor f lists player r.point class now last old mid
  found_here = found_for f lists player r row class now last old mid (subst (λ i. IsLineFound player r i now last old mid) (sym at_cell) found)

  -- no cell behind it is due
  abbrev pub AllLater : Type 0
  AllLater = IsNoneDue old.dues.turns.items (cell + 1) (length old.dues.turns.items) now

  late : AllLater → (p e : ℕ) → r.point < p → p < point_count f → IsClass lists (round_of f (at_point p)) e → now < moves_of f lists old.dues.turns.items p e
  late none p e l lp le =
      none (cell_place f lists p e) (omega (arith, is.below, starts_more f lists r.point, starts_le f lists (r.point + 1) p (omega (arith, l))))
      (cell_inside f lists p e old lp le room.turns)

  -- what is kept of the player is right again
  abbrev pub IsKept : Tally → Type 0
  IsKept t = (pays rise : ℕ → ℕ → ℤ) → AreSmallAtEnds f lists player pays rise → AllLater → IsTally f lists player pays rise now old
      → IsTally f lists player pays rise now t

  totals_same : line_at mid.totals.items cell ≡ line_at old.totals.items cell → mid.totals.items ≡ old.totals.items
  totals_same same = ⊎_elim
      (λ (own : player_at f r.point ≡ player). by _ (found_here.own own).totals)
      (λ (other : player_at f r.point ≡ player → ⊥). by _ (found_here.others other).totals)
      (cases_eq (player_at f r.point) player)
    where
      by : (x : Line) → mid.totals.items ≡ set old.totals.items (cell_place f lists r.point class) x → mid.totals.items ≡ old.totals.items
      by x written =
          let e : mid.totals.items ≡ set old.totals.items cell x = written ∙ ap (λ i. set old.totals.items i x) at_cell in
          let inside : cell < length old.totals.items = omega (arith, cell_within f lists r row cell is, room.totals) in
          let at : x ≡ line_at old.totals.items cell = sym (get_or-set_same old.totals.items cell x flat inside) ∙ ap (λ xs. line_at xs cell) (sym e) ∙ same in
          e ∙ ap (set old.totals.items cell) at ∙ set-get_or old.totals.items cell flat

  again : (pays rise : ℕ → ℕ → ℤ) → AreSmallAtEnds f lists player pays rise → AllLater → (h : IsTally f lists player pays rise now old)
      → IsFoundAgain f lists player
      (zeros_of f lists pays rise now old.totals.items) (slopes_of f lists rise old.totals.items) (zeros_of f lists pays rise now mid.totals.items)
      (slopes_of f lists rise mid.totals.items) r.point class now old mid
  again pays rise few none h = found_again f lists player walked pays rise now last (omega (arith, order, turns)) few old mid room h r.point class
      is.inside class_is
      (late none) found_here

  pub same_kept : line_at mid.totals.items cell ≡ line_at old.totals.items cell → IsKept mid
  same_kept same pays rise few none h =
      kept_same f lists player walked pays rise now last order old mid room h r.point class is.inside class_is found_here (again pays rise few none h)
      (totals_same same)

  pub nowhere_kept : HasNoWay f (at_point r.point) → IsKept mid
  nowhere_kept nowhere pays rise few none h =
      kept_nowhere f lists player walked pays rise now last order old mid room h r.point class is.inside class_is found_here
      (again pays rise few none h) nowhere

  -- the cell is due later
  pub found_later : now < slice_index mid.dues.turns.items cell
  found_later = subst (λ i. now < slice_index mid.dues.turns.items i) at_cell (⊎_elim
      (λ (own : player_at f r.point ≡ player). (found_here.own own).later)
      (λ (other : player_at f r.point ≡ player → ⊥).
      let at = cell_place f lists r.point class in
      let inside : at < length old.dues.turns.items = omega (arith, cell_within f lists r row cell is, at_cell, room.turns) in
      let e : slice_index mid.dues.turns.items at ≡ last = ap (λ xs. slice_index xs at) (found_here.others other).dues
      ∙ get_or-set_same old.dues.turns.items at last 0 inside in omega (arith, e, order))
      (cases_eq (player_at f r.point) player))

  -- and no other cell's turn has changed
  pub found_behind : (k : ℕ) → cell < k → slice_index mid.dues.turns.items k ≡ slice_index old.dues.turns.items k
  found_behind k l = ⊎_elim
      (λ (own : player_at f r.point ≡ player). by _ (found_here.own own).dues)
      (λ (other : player_at f r.point ≡ player → ⊥). by _ (found_here.others other).dues)
      (cases_eq (player_at f r.point) player)
    where
      by : (x : ℕ) → mid.dues.turns.items ≡ set old.dues.turns.items (cell_place f lists r.point class) x
          → slice_index mid.dues.turns.items k ≡ slice_index old.dues.turns.items k
      by x e = ap (λ xs. slice_index xs k) e
          ∙ get_or-set_other old.dues.turns.items (cell_place f lists r.point class) k x 0 (λ same. omega (arith, l, same, at_cell))

  module _ {w : Way} (to : LeadsTo f lists (at_point r.point) w) (lup : IsClass lists w.row.round (up_of f lists w class)) {more : Line} {new : Tally}
      (feeds : FeedsAbove f lists w class more mid new) where
    pub fed_kept : wrapped more.at ≡ wrapped ((line_at mid.totals.items cell).at -ℤ (line_at old.totals.items cell).at)
        → wrapped more.slope ≡ wrapped ((line_at mid.totals.items cell).slope -ℤ (line_at old.totals.items cell).slope) → IsKept new
    fed_kept by_zero by_slope pays rise few none h =
        kept_fed f lists player walked pays rise now last order old mid room h r.point class is.inside class_is found_here (again pays rise few none h)
        w.row.point w.choice to.way.row.inside to.way.choice to.leads more
        (subst (λ i. wrapped more.at ≡ wrapped ((line_at mid.totals.items i).at -ℤ (line_at old.totals.items i).at)) (sym at_cell) by_zero)
        (subst (λ i. wrapped more.slope ≡ wrapped ((line_at mid.totals.items i).slope -ℤ (line_at old.totals.items i).slope)) (sym at_cell) by_slope)
        (up_in f lists (at_point r.point) w to class lup) new (feeds_at f lists (at_point r.point) w to class more mid new feeds)

    abbrev up_place : ℕ
    up_place = cell_place f lists w.row.point (up_from f lists (at_point r.point) w to class)

    up_before : up_place < cell
    up_before =
        let earlier : w.row.point + 1 ≤ r.point = subst (IsFrom (w.row.point + 1)) to.leads
        (walked.later w.row.point w.choice to.way.row.inside to.way.choice) in
        omega (arith, place_before f lists w.row.point _ r.point (up_in f lists (at_point r.point) w to class lup) (omega (arith, earlier)), is.from)

    other_turn : (k : ℕ) → cell ≤ k → slice_index new.dues.turns.items k ≡ slice_index mid.dues.turns.items k
    other_turn k l = ap (λ xs. slice_index xs k) (feeds_at f lists (at_point r.point) w to class more mid new feeds).dues
        ∙ get_or-set_other mid.dues.turns.items up_place k 0 0 (λ e. omega (arith, l, e, up_before))

    pub fed_later : now < slice_index new.dues.turns.items cell
    fed_later = let l = found_later in let e = other_turn cell (omega arith) in omega (arith, l, e)

    pub fed_behind : (k : ℕ) → cell < k → slice_index new.dues.turns.items k ≡ slice_index old.dues.turns.items k
    fed_behind k l = other_turn k (omega (arith, l)) ∙ found_behind k l
