use Rattle.std.proofs.Common.{◌≡◌, ℕ, ◌<◌, ◌≤◌, get_or}
use Rattle.std.specs.Prelude.{pos, if◌then◌else◌}
use Rattle.gs_best.specs.Rows.{raises}
use Rattle.gs_best.proofs.raising.raise.Given as goal

abbrev pub invariant-loop-class : goal.invariant-loop-class
invariant-loop-class l = record {
  best : (k : ℕ) → k < l.class → get_or l.best k (pos 0) ≡ (if raises l.choice (get_or l.initial.best k (pos 0)) (get_or l.worths k (pos 0))
      then get_or l.worths k (pos 0) else get_or l.initial.best k (pos 0));
  moves : (k : ℕ) → k < l.class → get_or l.moves k 0 ≡ (if raises l.choice (get_or l.initial.best k (pos 0)) (get_or l.worths k (pos 0)) then l.choice
      else get_or l.initial.moves k 0);
  rest_best : (k : ℕ) → l.class ≤ k → get_or l.best k (pos 0) ≡ get_or l.initial.best k (pos 0);
  rest_moves : (k : ℕ) → l.class ≤ k → get_or l.moves k 0 ≡ get_or l.initial.moves k 0;
}
