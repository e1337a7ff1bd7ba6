use Rattle.std.proofs.Common.{◌≡◌, ℕ, ◌<◌, ◌≤◌}
use Rattle.gs_simplex.specs.Numbers.{cell, AreNarrowNumbers, IsDivided}
use Rattle.gs_simplex.proofs.start.divide_rows.Given as goal

abbrev pub invariant-loop-i : goal.invariant-loop-i
invariant-loop-i l = record {
  done : (h : ℕ) → h < l.i → IsDivided l.width (cell l.fn.numbers l.width h) (cell l.numbers l.width h);
  left : (h : ℕ) → l.i ≤ h → (j : ℕ) → j < l.width → cell l.numbers l.width h j ≡ cell l.fn.numbers l.width h j;
  narrow : AreNarrowNumbers l.numbers;
}
