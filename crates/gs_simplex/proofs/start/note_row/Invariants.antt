use Rattle.std.proofs.Common.{◌≡◌, ℕ, ◌<◌, ◌≤◌, slice_index}
use Rattle.gs_simplex.specs.{Numbers.{at}, Columns.{IsNoted}}
use Rattle.gs_simplex.proofs.start.note_row.Given as goal

abbrev pub invariant-loop-j : goal.invariant-loop-j
invariant-loop-j l = record {
  done : (k : ℕ) → k < l.j → IsNoted l.i (at l.row k) (slice_index l.fn.stands k) (slice_index l.stands k);
  left : (k : ℕ) → l.j ≤ k → slice_index l.stands k ≡ slice_index l.fn.stands k;
}
