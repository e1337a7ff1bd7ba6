use Rattle.std.proofs.Common.{ℕ, ◌<◌, ◌≤◌, slice_index}
use Rattle.gs_play.proofs.dues.least.Given as goal

abbrev pub invariant-loop-place : goal.invariant-loop-place
invariant-loop-place l = record {
  most : l.least ≤ l.most;
  least : (k : ℕ) → l.from ≤ k → k < l.place → l.least ≤ slice_index l.turns k;
}
