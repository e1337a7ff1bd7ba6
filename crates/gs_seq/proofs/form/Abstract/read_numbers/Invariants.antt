use Rattle.std.proofs.Common.{◌≡◌, ℕ, ◌+◌, ◌^◌, ◌<◌, ◌≤◌, get_or}
use Rattle.gs_model.specs.Pairs.{class_number}
use Rattle.gs_seq.specs.{Abstracts.{abstract_frame, lists_of}, Plans.{class_plan}}
use Rattle.gs_seq.proofs.form.Abstract.read_numbers.Given as goal

abbrev pub invariant-loop-before : goal.invariant-loop-before
invariant-loop-before l = let f = abstract_frame l.self in let lists = lists_of l.self in record {
  read : (k : ℕ) → k < l.before → get_or l.numbers k 0 ≡ class_number f lists l.plan.player (class_plan f lists l.plan) l.end (k + 1);
  few : (k : ℕ) → k < l.before → get_or l.numbers k 0 ≤ 2 ^ 36;
}
