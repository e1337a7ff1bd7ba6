use Rattle.std.proofs.Common.{◌≡◌, ℕ, ◌<◌, ◌≤◌, get_or}
use Rattle.std.specs.Prelude.{◌==◌, pos, ◌+ℤ◌, if◌then◌else◌}
use Rattle.gs_best.proofs.raising.add.Given as goal

abbrev pub invariant-loop-class : goal.invariant-loop-class
invariant-loop-class l = record {
  sums : (k : ℕ) → k < l.class → get_or l.sums k (pos 0) ≡ (if l.choice == 0 then get_or l.worths k (pos 0)
      else (get_or l.initial.sums k (pos 0) +ℤ get_or l.worths k (pos 0)));
  rest : (k : ℕ) → l.class ≤ k → get_or l.sums k (pos 0) ≡ get_or l.initial.sums k (pos 0);
}
