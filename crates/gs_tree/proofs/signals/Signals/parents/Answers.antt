use Rattle.std.proofs.Common.{ℕ, List, map, ap, ◌∙◌}
use Rattle.std.specs.Global.{Vec}
use Rattle.gs_model.specs.Game.{round_count}
use Rattle.gs_tree.specs.Trees.{rules_of}
use Rattle.gs_tree.proofs.Readers.{rows_all}
use Rattle.gs_tree.proofs.signals.Signals.parents.Goals as goal

pub returns : goal.returns
returns c =
    let items : Vec ℕ → List ℕ = λ v. v.items in
    ap (map items) c.deref.ensures.value ∙ rows_all (rules_of c.args.self.now) c.args.self.now.tables.parents.items c.args.self.now.tables.layers.items
    (round_count (rules_of c.args.self.now)) c.args.self.now.sound.listed c.args.self.now.sound.counted
