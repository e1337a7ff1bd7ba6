use Rattle.std.proofs.Common.{ℕ, List, ◌∙◌, arith}
use Rattle.gs_tree.specs.Trees.{rules_of}
use Rattle.gs_tree.proofs.{Lookups.{same_read}, Steps.{row_start}}
use Rattle.gs_tree.proofs.signals.Signals.first_beside.Goals as goal

pub returns-then-one-len : goal.returns-then-one-len
returns-then-one-len c =
    let s = c.args.self.now in
    let firsts : List ℕ = s.boards.firsts.items in
    row_start (rules_of s) firsts s.boards.nexts.items c.args.one c.index.result.now s.sound.beside
    (omega (arith, s.sound.beside.firsts_long, c.len.ensures, c.if-one-len.true))
    (c.index.ensures ∙ same_read firsts c.args.one c.index.result.now 0
    (omega (arith, s.sound.beside.firsts_long, c.len.ensures, c.if-one-len.true)))

pub returns-else-one-len : goal.returns-else-one-len
returns-else-one-len c = grind arith
