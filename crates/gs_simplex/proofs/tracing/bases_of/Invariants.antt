use Rattle.std.proofs.Common.{◌+◌}
use Rattle.gs_simplex.specs.Trace.{AreBases}
use Rattle.gs_simplex.proofs.Traces.{IsReplayed}
use Rattle.gs_simplex.proofs.tracing.bases_of.Given as goal

abbrev pub invariant-loop-place : goal.invariant-loop-place
invariant-loop-place l = record {
  replayed : IsReplayed l.p l.opening l.place l.basis.items;
  bases : AreBases l.p l.opening (l.place + 1) l.bases.items;
}
