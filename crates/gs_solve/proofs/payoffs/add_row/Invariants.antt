use Rattle.std.proofs.Common.{◌≡◌, drop, take}
use Rattle.gs_model.specs.Sums.{sum_z}
use Rattle.gs_seq.specs.Abstracts.{abstract_frame, lists_of}
use Rattle.gs_seq.proofs.Turns.{passed}
use Rattle.gs_solve.specs.Layout.{AreAdded}
use Rattle.gs_solve.proofs.Cells.{pair_adds}
use Rattle.gs_solve.proofs.payoffs.add_row.Given as goal

abbrev pub invariant-loop-pair : goal.invariant-loop-pair
invariant-loop-pair l = record {
  on : l.pair-iterator ≡ drop (passed l.fn.row l.pair-iterator) l.fn.row;
  added : AreAdded (λ k. sum_z (pair_adds (abstract_frame l.form) (lists_of l.form) l.end l.class k) (take (passed l.fn.row l.pair-iterator) l.fn.row))
      l.initial.sums l.sums;
}
