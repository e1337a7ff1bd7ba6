-- The rows of points: what is read from the plot of a game, and the places of a row.
use Rattle.std.proofs.{Common.{◌≡◌, ℕ, ◌+◌, ◌-◌, ◌*◌, ◌^◌, ◌<◌, ◌≤◌, get_or, length, sym, ap, ◌∙◌, subst, arith}, lemmas.List.{get_or_default}}
use Rattle.gs_model.specs.{Classes.{ClassLists, IsClass}, Frame.{Frame, move_count, player_at, point_count, round_of}, Positions.{at_point}}
use Rattle.gs_best.specs.Tables.{start_of}
use Rattle.gs_seq.specs.Abstracts.{abstract_frame, lists_of}
use Rattle.gs_seq.specs.declared.form.Abstract.{Abstract}
use Rattle.gs_best.proofs.PointStarts.{place_before, starts_few, starts_le, starts_more}
use Rattle.gs_play.specs.{Plots.{IsCellOf, IsPlot, IsRowIn, cell_place, row_in, worth_place, worth_start}, declared.plot.Plot.{Plot}, declared.plot.PointRow.{PointRow}}
use Rattle.gs_play.proofs.Lists.{worths_before}

-- a row of a point
pub record IsRowAt (f : Frame) (lists : ClassLists) (q : ℕ) (row : PointRow) : Type 0 where
  pub point : row.point ≡ q
  pub known : IsRowIn f lists row

-- a row that was read is that of its point
pub row_at : (f : Frame) (lists : ClassLists) (p : Plot) → IsPlot f lists p → (q : ℕ) → q < point_count f → (row : PointRow) → row ≡ get_or p.rows.items q row
    → IsRowAt f lists q row
row_at f lists p plot q l row is =
    let known = plot.rows q l in
    let read : row_in p.rows.items q ≡ row = get_or_default p.rows.items q _ row (omega (arith, l, plot.many)) ∙ sym is in
    subst (IsRowAt f lists q) read (record { point = known.0; known = known.1 })

-- the point that was read for a cell has it
pub point_at : (f : Frame) (lists : ClassLists) (p : Plot) → IsPlot f lists p → (cell q : ℕ) → cell < start_of f lists (point_count f)
    → q ≡ get_or p.points.items cell q → IsCellOf f lists q cell
point_at f lists p plot cell q l is =
    let inside : cell < length p.points.items = omega (arith, l, plot.long) in
    subst (λ i. IsCellOf f lists i cell) (get_or_default p.points.items cell 0 q inside ∙ sym is) (plot.points cell inside)

module _ (f : Frame) (lists : ClassLists) (q : ℕ) (row : PointRow) (h : IsRowAt f lists q row) where
  pub row_player : row.player ≡ player_at f q
  row_player = h.known.player ∙ ap (player_at f) h.point

  pub row_round : row.round ≡ round_of f (at_point q)
  row_round = h.known.round ∙ ap (λ i. round_of f (at_point i)) h.point

  -- the cell of a class
  pub row_cell : (c : ℕ) → row.cell + (c - 1) ≡ cell_place f lists q c
  row_cell c = ap (λ n. n + (c - 1)) (h.known.cell ∙ ap (start_of f lists) h.point)

-- the place of a class's cell among those of the game
pub record IsCellAt (f : Frame) (lists : ClassLists) (q c cell : ℕ) : Type 0 where
  pub place : cell + c - 1 ≡ cell_place f lists q c
  pub inside : cell_place f lists q c < start_of f lists (point_count f)
  pub few : cell + c ≤ 2 ^ 31

-- the first cell of a row that was read, for each class
pub cell_at : (a : Abstract) (p : Plot) → IsPlot (abstract_frame a) (lists_of a) p → (q c : ℕ) → q < point_count (abstract_frame a)
    → IsClass (lists_of a) (round_of (abstract_frame a) (at_point q)) c → (row : PointRow) → row ≡ get_or p.rows.items q row
    → IsCellAt (abstract_frame a) (lists_of a) q c row.cell
cell_at a p plot q c lq lc row is =
    let f = abstract_frame a in
    let lists = lists_of a in
    let place = row_cell f lists q row (row_at f lists p plot q lq row is) c in
    let inside = place_before f lists q c (point_count f) lc lq in
    record {
      place = omega (arith, place, lc.0);
      inside = inside;
      few = omega (arith, place, lc.0, inside, starts_few a (point_count f) (omega arith));
    }

-- ---- the places of a row

module _ (f : Frame) (lists : ClassLists) (r : PointRow) (row : IsRowIn f lists r) (cell : ℕ) where
  -- the first worth of a cell
  pub row_first : (c : ℕ) → cell - r.cell ≡ c - 1 → r.worth + (cell - r.cell) * r.moves ≡ worth_place f lists r.point c 0
  row_first c at =
      let by : (cell - r.cell) * r.moves ≡ (c - 1) * move_count f r.point = ap (λ n. n * r.moves) at ∙ ap (λ n. (c - 1) * n) row.moves in
      omega (arith, row.worth, by)

  -- the class of a cell
  abbrev pub class_here : ℕ
  class_here = cell - r.cell + 1

  module _ (is : IsCellOf f lists r.point cell) where
    pub place_here : cell_place f lists r.point class_here ≡ cell
    place_here = omega (arith, is.from, row.cell)

    pub class_in : IsClass lists (round_of f (at_point r.point)) class_here
    class_in = (omega arith, omega (arith, is.from, is.below, row.cell))

    pub cell_within : cell < start_of f lists (point_count f)
    cell_within = omega (arith, is.below, starts_more f lists r.point, starts_le f lists (r.point + 1) (point_count f) (omega (arith, is.inside)))

    pub worths_within : r.worth + (cell - r.cell) * r.moves + r.moves ≤ worth_start f lists (point_count f)
    worths_within = omega (arith, row_first class_here (omega arith), worths_before f lists r.point class_here (point_count f) class_in is.inside, row.moves)
