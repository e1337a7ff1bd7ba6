use Rattle.std.proofs.Common.{◌≡◌, ◌-◌, List, get_or, ap, sym, ◌∙◌, arith}
use Rattle.gs_model.specs.Game.{Game}
use Rattle.gs_tree.specs.{Trees.{rules_of}, declared.layer.Layer.{Layer}}
use Rattle.gs_tree.proofs.Lookups.{layer_of}
use Rattle.gs_tree.proofs.signals.Signals.are_light.Goals as goal

pub returns : goal.returns
returns c =
    let g : Game = rules_of c.args.self.now in
    let l : Layer = c.index.result.now in
    let ls : List Layer = c.args.self.now.tables.layers.items in
    let at : l ≡ get_or ls (c.args.round - 1) l = c.index.ensures ∙ ap (λ k. get_or ls (k - 1) l) c.from.ensures in
    let h = layer_of g c.args.self.now.tables.parents.items ls c.args.round l c.args.self.now.sound.listed c.requires.some
    (omega (arith, c.args.self.now.sound.counted, c.requires.last)) at in (
      (λ is i l. sym (h.weighs i l) ∙ c.are_ones.ensures.0 is i (omega (arith, l, h.edges_long))),
      (λ each. c.are_ones.ensures.1 (λ i l. h.weighs i (omega (arith, l, h.edges_long)) ∙ each i (omega (arith, l, h.edges_long)))),
    )
