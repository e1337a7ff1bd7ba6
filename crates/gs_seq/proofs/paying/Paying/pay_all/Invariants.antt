use Rattle.std.proofs.Common.{◌≡◌, ℕ, ◌+◌, ◌<◌, ◌≤◌, get_or}
use Rattle.std.specs.Prelude.{pos}
use Rattle.gs_seq.specs.{Abstracts.{abstract_frame, lists_of}, Payoffs.{number_sum}}
use Rattle.gs_seq.proofs.paying.Paying.pay_all.Given as goal

abbrev pub invariant-loop-before : goal.invariant-loop-before
invariant-loop-before l = let f = abstract_frame l.self.form.now in let lists = lists_of l.self.form.now in record {
  here : (k : ℕ) → k < l.before → get_or l.sums k (pos 0) ≡ number_sum f lists l.self.player l.self.numbers.now l.self.end (k + 1);
  behind : (i : ℕ) → l.before ≤ i → get_or l.sums i (pos 0) ≡ get_or l.initial.sums i (pos 0);
}
