use Rattle.std.proofs.Common.{ℕ, ◌<◌, ◌≤◌}
use Rattle.gs_model.specs.Classes.{class_count}
use Rattle.gs_seq.specs.Abstracts.{lists_of}
use Rattle.gs_best.specs.Rooms.{IsWideTo}
use Rattle.gs_best.proofs.tables.widest_to.Given as goal

abbrev pub invariant-loop-before : goal.invariant-loop-before
invariant-loop-before l = record {
  wide : (round : ℕ) → 0 < round → round ≤ l.before → class_count (lists_of l.form) round ≤ l.most;
  least : (n : ℕ) → IsWideTo l.rounds (lists_of l.form) n → l.most ≤ n;
}
