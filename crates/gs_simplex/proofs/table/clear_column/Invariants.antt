use Rattle.std.proofs.Common.{◌≡◌, ◌≢◌, ℕ, ◌<◌, ◌≤◌, length, slice_index}
use Rattle.gs_simplex.specs.{Numbers.{at, cell, AreNarrowNumbers, IsAtMost}, Columns.{IsRowCleared}}
use Rattle.gs_simplex.proofs.table.clear_column.Given as goal

abbrev pub invariant-loop-i : goal.invariant-loop-i
invariant-loop-i l = record {
  width : l.width ≡ length l.lead.numbers.now;
  done : (h : ℕ) → h < l.i → h ≢ l.lead.row → IsRowCleared (at l.lead.numbers.now) l.q l.lead.column (length l.lead.numbers.now)
      (cell l.fn.numbers (length l.lead.numbers.now) h) (cell l.numbers (length l.lead.numbers.now) h);
  left : (h : ℕ) → (l.i ≤ h) → (j : ℕ) → j < length l.lead.numbers.now
      → cell l.numbers (length l.lead.numbers.now) h j ≡ cell l.fn.numbers (length l.lead.numbers.now) h j;
  kept : (j : ℕ) → j < length l.lead.numbers.now
      → cell l.numbers (length l.lead.numbers.now) l.lead.row j ≡ cell l.fn.numbers (length l.lead.numbers.now) l.lead.row j;
  narrow : AreNarrowNumbers l.numbers;
  tops_done : (h : ℕ) → h < l.i → IsAtMost (length l.lead.numbers.now) (cell l.numbers (length l.lead.numbers.now) h) (slice_index l.tops h);
  tops_left : (h : ℕ) → (l.i ≤ h) → slice_index l.tops h ≡ slice_index l.fn.tops h;
}
