-- Where a line goes that is fed along a way.
use Rattle.std.proofs.Common.{◌≡◌, ℕ, ◌+◌, ◌-◌, ◌*◌, ◌<◌, sym, ap, ◌∙◌, ◌^◌, subst, arith, get_or}
use Rattle.gs_game.specs.{Seen.{step_of}, declared.positions.Step.{Step as StoredStep}}
use Rattle.gs_model.specs.{Classes.{ClassLists, IsClass}, Frame.{Frame, leads_to, move_count, point_count, round_of}, Positions.{Target, at_point}}
use Rattle.gs_seq.specs.{Abstracts.{abstract_frame, lists_of}, declared.form.Abstract.{Abstract}}
use Rattle.gs_best.specs.{Tables.{start_of}, ClassTotals.{earlier_class}}
use Rattle.gs_best.proofs.PointStarts.{place_before, starts_few}
use Rattle.gs_play.specs.{Plots.{IsMoveTo, IsPlot, IsRowIn, IsWayIn, LeadsTo, cell_place, worth_place, worth_start}, Tallies.{FeedsAbove, IsFed, up_of}}
use Rattle.gs_play.specs.{declared.line.Line.{Line}, declared.plot.Plot.{Plot}, declared.plot.Way.{Way}, declared.tally.Tally.{Tally}}
use Rattle.gs_play.proofs.{Lists.{worth_before}, PlotLaws.{worths_few}, PlotRows.{row_at}}

-- the row of a move's point, with the move and the round of the position to which the move leads
way_is : (f : Frame) (lists : ClassLists) (t : Target) (s : StoredStep) (w : Way) → IsMoveTo f t (step_of s) → IsRowIn f lists w.row
    → w.row.point ≡ s.point → w.choice ≡ s.choice → w.round ≡ round_of f t → LeadsTo f lists t w
way_is f lists t s w move row point choice round =
    let leads : leads_to f w.row.point w.choice ≡ t = ap (λ q. leads_to f q w.choice) point ∙ ap (leads_to f s.point) choice ∙ move.leads in
    record {
      way = record {
        row = row;
        choice = subst (λ q. w.choice < move_count f q) (sym point) (subst (λ m. m < move_count f s.point) (sym choice) move.choice);
        round = round ∙ ap (round_of f) (sym leads);
      };
      leads = leads;
    }

-- the way that is read for a position
pub way_read : (f : Frame) (lists : ClassLists) (p : Plot) → IsPlot f lists p → (t : Target) (s : StoredStep) (w : Way) → IsMoveTo f t (step_of s)
    → w.row ≡ get_or p.rows.items s.point w.row → w.choice ≡ s.choice → w.round ≡ round_of f t → LeadsTo f lists t w
way_read f lists p plot t s w move row choice round =
    let at = row_at f lists p plot s.point move.inside w.row row in way_is f lists t s w move at.known at.point choice round

-- ---- the places of a way's worth and cell, by its row

module _ (a : Abstract) (w : Way) (way : IsWayIn (abstract_frame a) (lists_of a) w) (c : ℕ) where
  abbrev f : Frame
  f = abstract_frame a

  abbrev lists : ClassLists
  lists = lists_of a

  pub worth_there : w.row.worth + ((c - 1) * w.row.moves + w.choice) ≡ worth_place f lists w.row.point c w.choice
  worth_there =
      let by : (c - 1) * w.row.moves ≡ (c - 1) * move_count f w.row.point = ap (λ n. (c - 1) * n) way.row.moves in
      omega (arith, way.row.worth, by)

  pub cell_there : w.row.cell + (c - 1) ≡ cell_place f lists w.row.point c
  cell_there = omega (arith, way.row.cell)

  module _ (lc : IsClass lists w.row.round c) where
    class_there : IsClass lists (round_of f (at_point w.row.point)) c
    class_there = subst (λ i. IsClass lists i c) way.row.round lc

    pub worth_first : worth_place f lists w.row.point c w.choice < worth_start f lists (point_count f)
    worth_first = worth_before f lists w.row.point c w.choice (point_count f) class_there way.choice way.row.inside

    pub cell_first : cell_place f lists w.row.point c < start_of f lists (point_count f)
    cell_first = place_before f lists w.row.point c (point_count f) class_there way.row.inside

    pub worth_few : w.row.worth + ((c - 1) * w.row.moves + w.choice) < 2 ^ 31
    worth_few = omega (arith, worth_there, worth_first, worths_few a (point_count f) (omega arith))

    pub cell_few : w.row.cell + (c - 1) < 2 ^ 31
    cell_few = omega (arith, cell_there, cell_first, starts_few a (point_count f) (omega arith))

module _ (f : Frame) (lists : ClassLists) (t : Target) (w : Way) (to : LeadsTo f lists t w) (e : ℕ) where
  -- the class above a class of a position
  abbrev pub up_from : ℕ
  up_from = earlier_class f lists (round_of f t) (round_of f (at_point w.row.point)) e

  pub up_is : up_of f lists w e ≡ up_from
  up_is =
      ap (λ i. earlier_class f lists i w.row.round e) (to.way.round ∙ ap (round_of f) to.leads)
      ∙ ap (λ j. earlier_class f lists (round_of f t) j e) to.way.row.round

  pub up_in : IsClass lists w.row.round (up_of f lists w e) → IsClass lists (round_of f (at_point w.row.point)) up_from
  up_in h = subst (λ i. IsClass lists i up_from) to.way.row.round (subst (λ k. IsClass lists w.row.round k) up_is h)

  pub feeds_at : (more : Line) (old new : Tally) → FeedsAbove f lists w e more old new
      → IsFed (worth_place f lists w.row.point up_from w.choice) (cell_place f lists w.row.point up_from) more old new
  feeds_at more old new h = subst (λ k. IsFed (worth_place f lists w.row.point k w.choice) (cell_place f lists w.row.point k) more old new) up_is h
