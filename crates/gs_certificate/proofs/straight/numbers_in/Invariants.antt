use Rattle.std.proofs.Common.{◌≡◌, ◌++◌, ◌<◌, ◌^◌, All}
use Rattle.std.specs.Prelude.{unsigned_abs}
use Rattle.gs_certificate.specs.Straight.{opened}
use Rattle.gs_certificate.proofs.straight.numbers_in.Given as goal

abbrev pub invariant-loop : goal.invariant-loop
invariant-loop l = record {
  text : l.bytes ≡ opened l.numbers.items ++ l.left;
  small : All (λ z. unsigned_abs z < 2 ^ 90) l.numbers.items;
}
