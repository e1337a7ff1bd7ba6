use Rattle.std.proofs.Common.{◌≡◌, ◌<◌, ℕ, get_or, length}
use Rattle.gs_split.proofs.aspects.aspect_firsts.Given as goal

abbrev pub invariant-loop-signal : goal.invariant-loop-signal
invariant-loop-signal l = record {
  long : length l.firsts.items ≡ l.signal;
  each : (s : ℕ) → s < l.signal → get_or l.firsts.items s 0 ≡ s;
}
