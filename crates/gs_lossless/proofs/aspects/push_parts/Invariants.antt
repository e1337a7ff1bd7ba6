use Rattle.std.proofs.Common.{◌≡◌, ◌++◌, ◌<◌, ◌^◌, length, map}
use Rattle.std.specs.Prelude.{All}
use Rattle.gs_model.specs.Deals.{Deal}
use Rattle.gs_lossless.specs.Amounts.{deal_part}
use Rattle.gs_lossless.proofs.aspects.push_parts.Given as goal

abbrev pub invariant-loop-deal : goal.invariant-loop-deal
invariant-loop-deal l = record {
  done : l.parts.items ++ map (deal_part l.keys l.by_outcome) l.deal-iterator ≡ l.initial.parts.items ++ map (deal_part l.keys l.by_outcome) l.fn.deals;
  inside : All (λ (d : Deal). d.two < length l.keys) l.deal-iterator;
  few : All (λ (d : Deal). d.weight < 2 ^ 32) l.deal-iterator;
}
