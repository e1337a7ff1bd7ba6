use Rattle.std.proofs.{Common.{List, rules}, lemmas.Iterator.{YieldsList-from_map, items_from_collect}, lemmas.Iterator.Consumers.{YieldsList-from_first}}
use Rattle.gs_model.specs.Deals.{Deal}
use Rattle.gs_iso.specs.Orders.{leaf_of}
use Rattle.gs_iso.proofs.leaves.leaves_of.Goals as goal

pub returns : goal.returns
returns c =
    items_from_collect _ c.collect.ensures.ran
    (YieldsList-from_map _ (leaf_of c.args.path) (YieldsList-from_first (λ (d : Deal). d) (λ (ds : List Deal). ds) c.args.deals c.map.ensures.source)
    c.map.ensures.closure (λ x r q k. search rules))
