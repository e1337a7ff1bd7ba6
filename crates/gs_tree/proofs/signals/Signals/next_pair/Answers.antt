use Rattle.std.proofs.Common.{◌≡◌, get_or, ◌∙◌, arith}
use Rattle.gs_tree.specs.Trees.{rules_of}
use Rattle.gs_tree.proofs.{Lookups.{same_read}, Steps.{next_in_row, next_row}, signals.Signals.next_pair.Goals.{After-index-next}}
use Rattle.gs_tree.proofs.signals.Signals.next_pair.Goals as goal

-- the next signal beside the second, as the list has it
at_next : (c : After-index-next) → c.index-next.result.now ≡ get_or c.args.self.now.boards.nexts.items c.args.two 0
at_next c = c.index-next.ensures ∙ same_read c.args.self.now.boards.nexts.items c.args.two c.index-next.result.now 0
    (omega (arith, c.args.self.now.sound.beside.nexts_long, c.requires.two_in))

pub returns-then-next-len : goal.returns-then-next-len
returns-then-next-len c =
    next_in_row (rules_of c.args.self.now) c.args.self.now.boards.firsts.items c.args.self.now.boards.nexts.items c.args.one c.args.two c.index-next.result.now
    c.args.self.now.sound.beside c.requires.one_in c.requires.two_in c.requires.same (at_next (goal.at.returns-then-next-len c).After-index-next)
    (omega (arith, c.if-next-len.true, c.args.self.now.sound.beside.nexts_long, c.len.ensures))

pub returns-else-next-len : goal.returns-else-next-len
returns-else-next-len c =
    next_row (rules_of c.args.self.now) c.args.self.now.boards.firsts.items c.args.self.now.boards.nexts.items c.args.one c.args.two c.index-next.result.now
    c.first_beside.result c.args.self.now.sound.beside c.requires.one_in c.requires.two_in c.requires.same
    (at_next (goal.at.returns-else-next-len c).After-index-next) (omega (arith, c.if-next-len.false, c.args.self.now.sound.beside.nexts_long, c.len.ensures))
    c.first_beside.ensures
