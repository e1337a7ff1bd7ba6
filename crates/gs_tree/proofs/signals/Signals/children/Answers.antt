use Rattle.std.proofs.{Common.{◌≡◌, ◌+◌, ◌<◌, ℕ, List, length, map, get_or, vec_len, ap, ◌∙◌, arith}, lemmas.List.FromFn.{length-map-range_with_len}}
use Rattle.std.specs.List.{range_with_len}
use Rattle.gs_model.specs.Signals.{signals, first_child}
use Rattle.gs_tree.specs.{Trees.{rules_of}, declared.layer.Layer.{Layer}}
use Rattle.gs_tree.proofs.{Readers.{firsts_of, first_at, first_next}, signals.Signals.children.Goals.{After-index}}
use Rattle.gs_tree.proofs.signals.Signals.children.Goals as goal

-- where each signal's children begin
begins : (c : After-index) → c.index.result.now.firsts.items ≡ map (first_child (rules_of c.args.self.now) c.args.round)
    (range_with_len 0 (length (signals (rules_of c.args.self.now) c.args.round) + 1))
begins c =
    let l : Layer = c.index.result.now in
    let ls : List Layer = c.args.self.now.tables.layers.items in
    firsts_of (rules_of c.args.self.now) c.args.self.now.tables.parents.items ls c.args.round l c.args.self.now.sound.listed
    (omega (arith, c.args.self.now.sound.counted, c.requires.before_last)) (c.index.ensures ∙ ap (λ k. get_or ls k l) c.from.ensures)

-- there is a place for the signal and for the one after it
within : (c : After-index) → c.args.signal + 1 < vec_len c.index.result.now.firsts
within c = omega (
  arith,
  ap (λ (x : List ℕ). length x) (begins c),
  length-map-range_with_len (first_child (rules_of c.args.self.now) c.args.round) 0
      (length (signals (rules_of c.args.self.now) c.args.round) + 1),
  c.index.result.now.firsts.ok.0,
  c.requires.in_range,
)

pub index-requires-2 : goal.index-requires-2
index-requires-2 c = omega (arith, within (goal.at.index-requires-2 c).After-index)

pub index-requires-3 : goal.index-requires-3
index-requires-3 c = within (goal.at.index-requires-3 c).After-index

pub returns : goal.returns
returns c = record {
  first = c.index-2.ensures ∙ first_at (rules_of c.args.self.now) c.args.round c.args.signal c.index-2.result.now c.index.result.now.firsts.items
      (begins (goal.at.returns c).After-index) (omega (arith, c.requires.in_range));
  end = c.index-3.ensures
      ∙ first_at (rules_of c.args.self.now) c.args.round (c.args.signal + 1) c.index-3.result.now c.index.result.now.firsts.items
      (begins (goal.at.returns c).After-index) (omega (arith, c.requires.in_range))
      ∙ first_next (rules_of c.args.self.now) c.args.round c.args.signal c.requires.in_range;
}
