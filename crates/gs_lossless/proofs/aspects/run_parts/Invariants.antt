use Rattle.std.proofs.Common.{◌≡◌}
use Rattle.gs_model.specs.Deals.{deals}
use Rattle.gs_tree.specs.Trees.{rules_of}
use Rattle.gs_lossless.specs.Amounts.{deal_parts}
use Rattle.gs_lossless.proofs.aspects.run_parts.Given as goal

abbrev pub invariant-loop-place : goal.invariant-loop-place
invariant-loop-place l = l.parts.items ≡ deal_parts (deals (rules_of l.signals)) l.keys l.by_outcome l.fn.run.first l.place
