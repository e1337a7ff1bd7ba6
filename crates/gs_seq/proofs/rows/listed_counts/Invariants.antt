use Rattle.std.proofs.Common.{◌≡◌, map, take}
use Rattle.gs_seq.specs.Rows.{pairs_of}
use Rattle.gs_seq.proofs.rows.listed_counts.Given as goal

abbrev pub invariant-loop-in_round : goal.invariant-loop-in_round
invariant-loop-in_round l = l.counts.items ≡ map (λ v. pairs_of v.items) (take l.in_round-index l.rows)
