use Rattle.std.proofs.Common.{◌≡◌, ℕ, ◌+◌, ◌<◌, get_or}
use Rattle.std.specs.Prelude.{pos}
use Rattle.gs_seq.specs.Abstracts.{abstract_frame, lists_of}
use Rattle.gs_best.specs.{ClassTotals.{gathered_below}, LaterRows.{row_from}}
use Rattle.gs_best.proofs.gathering.gather.Given as goal

abbrev pub invariant-loop-class : goal.invariant-loop-class
invariant-loop-class l = (k : ℕ) → k < l.class
    → get_or l.sums k (pos 0) ≡ gathered_below (abstract_frame l.form) (lists_of l.form) l.row.round l.from (row_from l.row.values.now l.row.start) (k + 1)
