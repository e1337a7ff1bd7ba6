use Rattle.std.proofs.Common.{◌≡◌, ℕ, ◌<◌, ◌≤◌, get_or}
use Rattle.gs_seq.specs.Abstracts.{abstract_frame, lists_of}
use Rattle.gs_best.specs.Tables.{start_of}
use Rattle.gs_best.proofs.tables.place_points.Given as goal

abbrev pub invariant-loop-point : goal.invariant-loop-point
invariant-loop-point l = let f = abstract_frame l.form in let lists = lists_of l.form in record {
  start_is : l.start ≡ start_of f lists l.point;
  starts : (q : ℕ) → q < l.point → get_or l.starts q 0 ≡ start_of f lists q;
  behind : (i : ℕ) → l.point ≤ i → get_or l.starts i 0 ≡ get_or l.initial.starts i 0;
}
