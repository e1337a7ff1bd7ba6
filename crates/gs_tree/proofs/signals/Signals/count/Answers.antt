use Rattle.std.proofs.Common.{◌≡◌, ◌-◌, ◌≤◌, List, length, get_or, ap, ◌∙◌, arith}
use Rattle.gs_model.specs.Signals.{signals}
use Rattle.gs_tree.specs.{Trees.{rules_of}, declared.layer.Layer.{Layer}}
use Rattle.gs_tree.proofs.{Lookups.{layer_of}, signals.Signals.count.Goals.{After-index}}
use Rattle.gs_tree.proofs.signals.Signals.count.Goals as goal

-- the layer has all signals of the round
long : (c : After-index) → length c.index.result.now.shown.items ≡ length (signals (rules_of c.args.self.now) c.args.round)
long c =
    let s = c.args.self.now in
    let l : Layer = c.index.result.now in
    let ls : List Layer = s.tables.layers.items in
    let at : l ≡ get_or ls (c.args.round - 1) l = c.index.ensures ∙ ap (λ k. get_or ls (k - 1) l) c.from.ensures in
    (layer_of (rules_of s) s.tables.parents.items ls c.args.round l s.sound.listed c.requires.some (omega (arith, s.sound.counted, c.requires.in_range)) at).long

-- a valid game has few signals in a round
few : (c : After-index) → length c.index.result.now.shown.items ≤ 200000
few c = omega (arith, long c, c.args.self.now.game.now.limits.signals_in c.args.round c.requires.in_range)

pub overflow_cast-result : goal.overflow_cast-result
overflow_cast-result c = omega (arith, few (goal.at.overflow_cast-result c).After-index, c.len.ensures, c.index.result.now.shown.ok.0)

pub returns : goal.returns
returns c = record {
  value = c.len.ensures ∙ c.index.result.now.shown.ok.0 ∙ long (goal.at.returns c).After-index;
  few = omega (arith, few (goal.at.returns c).After-index, c.len.ensures, c.index.result.now.shown.ok.0);
}
