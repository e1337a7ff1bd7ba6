use Rattle.std.proofs.Common.{◌≡◌, ℕ, ◌<◌, ◌≤◌, ◌^◌, ◌*ℤ◌, ◌-ℤ◌, unsigned_abs}
use Rattle.gs_simplex.specs.Numbers.{at}
use Rattle.gs_simplex.proofs.row.mix.Given as goal

abbrev pub invariant-loop-j : goal.invariant-loop-j
invariant-loop-j l = record {
  mixed : (k : ℕ) → k < l.j → at l.mixed k ≡ l.own *ℤ at l.row k -ℤ l.far *ℤ at l.lead k;
  within : (k : ℕ) → k < l.j → unsigned_abs (at l.mixed k) ≤ 2 ^ 125;
}
