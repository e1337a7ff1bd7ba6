-- A player's last step before a point, and the cell above a cell in which it was taken.
use Rattle.std.proofs.{Common.{◌≡◌, ℕ, ◌<◌, ◌≤◌, List, length, Option, Some, refl, sym, ◌∙◌, subst, arith, ⊎_elim}, lemmas.Bool.{cases_lt}}
use Rattle.std.specs.Prelude.{[], ◌∷◌, ◌++◌, option_map, slice_index}
use Rattle.std.proofs.lemmas.List.{get_or_append_left, get_or_push, length_push}
use Rattle.gs_game.specs.{Seen.{step_of}, declared.positions.Step.{Step as StoredStep}}
use Rattle.gs_model.specs.{Classes.{ClassLists, IsClass}, Frame.{Frame, last_step, player_at, point_count, round_of}, Positions.{Step, at_point}}
use Rattle.gs_seq.specs.{Abstracts.{abstract_frame, game_in, lists_of}, declared.form.Abstract.{Abstract}}
use Rattle.gs_seq.proofs.{Forms.{form_classes, form_in_range}, Points.{walked_at}}
use Rattle.gs_best.specs.{ClassTotals.{earlier_class}, Tables.{start_of}}
use Rattle.gs_best.proofs.PointStarts.{place_before}
use Rattle.gs_play.specs.{Plots.{AreAbove, IsAbove, IsGate, IsPlot, IsStepBefore, cell_above, cell_place}, declared.plot.Plot.{Plot}}
use Rattle.gs_play.proofs.{Again.{IsGateOf, gate_facts}, Lists.{cell_one}}

-- it was made in the round of the point or before it
pub gate_before : (a : Abstract) (q : ℕ) → q < point_count (abstract_frame a) → (gate : Option StoredStep) → IsGate (abstract_frame a) q gate
    → IsStepBefore (abstract_frame a) (option_map step_of gate) q
gate_before a q lq gate h u is =
    let f = abstract_frame a in
    let w = walked_at (game_in a) (player_at f q) q lq refl in
    let made : last_step f (player_at f q) (at_point q) ≡ Some u = sym h ∙ is in
    let before = w.earlier q u lq made in
    (omega (arith, before, lq), w.past q u lq made)

-- a list gets the cell above one more cell
pub above_more : (f : Frame) (lists : ClassLists) (steps : ℕ → Option Step) (cells : List ℕ) (q c x : ℕ) → IsClass lists (round_of f (at_point q)) c
    → cell_place f lists q c ≡ length cells → IsAbove f lists (steps q) q c x → AreAbove f lists steps cells → AreAbove f lists steps (cells ++ x ∷ [])
above_more f lists steps cells q c x lc here is all p e lp le l = ⊎_elim
    (λ (before : cell_place f lists p e < length cells).
    subst (IsAbove f lists (steps p) p e) (sym (get_or_append_left cells (x ∷ []) 0 (cell_place f lists p e) before)) (all p e lp le before))
    (λ (behind : length cells ≤ cell_place f lists p e).
    let at : cell_place f lists p e ≡ length cells = omega (arith, behind, l, length_push cells x) in
    let same = cell_one f lists p e q c le lc (at ∙ sym here) in
    subst (IsAbove f lists (steps p) p e) (sym (get_or_push cells x 0 (cell_place f lists p e) (sym at)))
    (subst (λ i. IsAbove f lists (steps i) i e x) (sym same.row) (subst (λ k. IsAbove f lists (steps q) q k x) (sym same.place) is)))
    (cases_lt (cell_place f lists p e) (length cells))

-- ---- what is read from the plot of a game

module _ (a : Abstract) (p : Plot) (plot : IsPlot (abstract_frame a) (lists_of a) p) (q c : ℕ) (lq : q < point_count (abstract_frame a))
    (lc : IsClass (lists_of a) (round_of (abstract_frame a) (at_point q)) c) where
  abbrev f : Frame
  f = abstract_frame a

  abbrev lists : ClassLists
  lists = lists_of a

  pub gate_there : cell_place f lists q c < length p.gates.items
  gate_there = omega (arith, place_before f lists q c (point_count f) lc lq, plot.gates.long)

  module _ (u : Step) (is : last_step f (player_at f q) (at_point q) ≡ Some u) where
    pub gate_cell : slice_index p.gates.items (cell_place f lists q c) ≡ cell_above f lists q c u.point
    gate_cell = plot.gates.above q c lq lc gate_there u is

    facts : IsGateOf f lists q c u
    facts = gate_facts f (form_in_range a) lists (form_classes a) (player_at f q) (walked_at (game_in a) (player_at f q) q lq refl) q c u lq refl lc is

    pub gate_inside : cell_above f lists q c u.point < start_of f lists (point_count f)
    gate_inside =
        let e = facts.earlier in
        place_before f lists u.point (earlier_class f lists (round_of f (at_point q)) (round_of f (at_point u.point)) c) (point_count f) facts.class
        (omega (arith, e, lq))
