use Rattle.std.proofs.Common.{◌-◌, ◌∙◌, ap, arith, get_or}
use Rattle.gs_tree.specs.Trees.{rules_of}
use Rattle.gs_tree.proofs.Lookups.{parents_of}
use Rattle.gs_tree.proofs.signals.Signals.parents_in.Goals as goal

pub returns : goal.returns
returns c =
    let s = c.args.self.now in
    let row = c.index.result.now in
    c.deref.ensures.value
    ∙ parents_of (rules_of s) s.tables.parents.items s.tables.layers.items c.args.round row s.sound.listed c.requires.some (omega (arith, s.sound.counted, c.requires.last))
    (c.index.ensures ∙ ap (λ k. get_or s.tables.parents.items (k - 1) row) c.from.ensures)
