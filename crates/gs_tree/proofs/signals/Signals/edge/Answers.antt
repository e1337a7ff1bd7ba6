use Rattle.std.proofs.Common.{◌≡◌, ◌-◌, List, get_or, ap, ◌∙◌, arith}
use Rattle.gs_tree.specs.{Trees.{rules_of}, declared.layer.Layer.{Layer}}
use Rattle.gs_tree.proofs.{Lookups.{IsLayerOf, layer_of}, signals.Signals.edge.Goals.{After-index}}
use Rattle.gs_tree.proofs.signals.Signals.edge.Goals as goal

-- the layer is that of the round
known : (c : After-index) → IsLayerOf (rules_of c.args.self.now) c.args.round c.index.result.now
known c =
    let s = c.args.self.now in
    let l : Layer = c.index.result.now in
    let ls : List Layer = s.tables.layers.items in
    let at : l ≡ get_or ls (c.args.round - 1) l = c.index.ensures ∙ ap (λ k. get_or ls (k - 1) l) c.from.ensures in
    layer_of (rules_of s) s.tables.parents.items ls c.args.round l s.sound.listed c.requires.some (omega (arith, s.sound.counted, c.requires.last)) at

pub of-requires : goal.of-requires
of-requires c = omega (arith, (known (goal.at.of-requires c).After-index).edges_long, c.requires.in_range)

pub returns : goal.returns
returns c = c.of.ensures ∙ (known (goal.at.returns c).After-index).weighs c.args.signal c.requires.in_range
