use Rattle.std.proofs.Common.{◌≡◌, ap, sym, ◌∙◌, subst, arith}
use Rattle.std.specs.Prelude.{IfOk}
use Rattle.gs_game.specs.declared.valid.ValidGame.{ValidGame}
use Rattle.gs_model.specs.Frame.{last_round}
use Rattle.gs_tree.specs.declared.signals.Signals.{Signals}
use Rattle.gs_seq.specs.{Cells.{cell_count}, Games.{frame_in}, Rows.{AreRows, IsSingleIn}}
use Rattle.gs_seq.proofs.Carried.{carried}
use Rattle.gs_seq.proofs.rows.cell_total.Goals as goal

pub rows_of-requires : goal.rows_of-requires
rows_of-requires c =
    let made = c.known-lossless.result in
    λ t. carried c.args.signals.now.game.now made.signals.now.game.now c.args.classes.now made.classes.now
    (λ f lists. IsSingleIn lists (last_round f)) (ap (λ (x : Signals). x.game.now) (sym c.known-lossless.ensures.held_signals))
    (sym c.known-lossless.ensures.held_classes) (c.are_made.ensures t)

pub cells-requires : goal.cells-requires
cells-requires c = record {
  parents = c.requires.parents ∙ ap (λ (g : ValidGame). (frame_in g).parents) (sym c.game.ensures);
  rows = let made = c.known-lossless.result in
      subst (AreRows (frame_in c.game.result.now) c.args.classes.now.lists) (sym c.deref.ensures.value)
      (carried made.signals.now.game.now c.game.result.now made.classes.now c.args.classes.now (λ f lists. AreRows f lists c.in_ok-rows.rows.items)
      (ap (λ (x : Signals). x.game.now) c.known-lossless.ensures.held_signals ∙ sym c.game.ensures) c.known-lossless.ensures.held_classes
      c.in_ok-rows.ensures.rows);
}

pub returns : goal.returns
returns c = subst (λ (x : ValidGame). IfOk c.cells.result (λ n. n ≡ cell_count (frame_in x) c.args.classes.now.lists)) c.game.ensures c.cells.ensures

pub known-lossless-requires-clause-lossless : goal.known-lossless-requires-clause-lossless
known-lossless-requires-clause-lossless c = grind arith
