use Rattle.std.proofs.Common.{ℕ, ◌<◌, ap, sym, ◌∙◌, subst}
use Rattle.gs_filter.specs.Filter.{Filter}
use Rattle.gs_model.specs.Lossless.{IsLossless}
use Rattle.gs_seq.specs.{Cells.{cell_count}, Games.{frame_in}, Stops.{IsFaultAt}}
use Rattle.gs_tree.specs.declared.signals.Signals.{Signals}
use Rattle.gs_raw.specs.Answers.{raw_limits}
use Rattle.gs_raw.proofs.TooMany.{too_many_cells}
use Rattle.gs_raw.proofs.judging.raw_stop.Goals as goal

pub cell_total-requires-clause-lossless : goal.cell_total-requires-clause-lossless
cell_total-requires-clause-lossless c =
    subst (λ (x : Signals). IsLossless (frame_in x.game.now) c.classes.result.now.lists) (sym c.signals.ensures.held)
    (subst (λ (x : Filter). IsLossless (frame_in c.args.lossless.now.signals.now.game.now) x.lists) (sym c.classes.ensures.held) c.classes.ensures.lossless)

pub returns-in-Ok : goal.returns-in-Ok
returns-in-Ok c =
    let g = c.args.lossless.now.signals.now.game.now in
    let f = frame_in g in
    let count = c.in-Ok.ensures ∙ ap (λ (x : Signals). cell_count (frame_in x.game.now) c.classes.result.now.lists) c.signals.ensures.held
    ∙ ap (cell_count f) (ap (λ (x : Filter). x.lists) c.classes.ensures.held ∙ c.requires.singles) in
    let fault = subst (IsFaultAt raw_limits f c.args.lossless.now.classes.now.lists) c.in-TooManySequences.is c.requires.fault in
    let many = too_many_cells g c.args.lossless.now.classes.now.lists _ _ c.requires.singles fault in
    (count, subst (λ (n : ℕ). 16777216 < n) (sym count) many)

pub cell_total-requires-clause-parents : goal.cell_total-requires-clause-parents
cell_total-requires-clause-parents c = c.classes.ensures.parents ∙ ap (λ (s : Signals). (frame_in s.game.now).parents) (sym c.signals.ensures.held)
