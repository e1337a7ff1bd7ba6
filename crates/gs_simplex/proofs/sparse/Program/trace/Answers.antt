use Rattle.std.proofs.Common.{List, ◌+◌, length, sym, subst}
use Rattle.gs_simplex.specs.{declared.answer.Turn.{Turn}, Trace.{AreTurns, AreBases}}
use Rattle.gs_simplex.proofs.Traces.{shown_begins, shown_turns, with_bases}
use Rattle.gs_simplex.proofs.sparse.Program.trace.Goals as goal

pub bases_of-requires-clause-path : goal.bases_of-requires-clause-path
bases_of-requires-clause-path c = shown_begins c.args.self.now c.args.opening.now c.args.limit c.in_ok-start.field-0 c.in_ok-start.ensures

pub bases_of-requires-clause-turns : goal.bases_of-requires-clause-turns
bases_of-requires-clause-turns c =
    subst (λ (x : List Turn). AreTurns c.args.self.now c.args.opening.now x) (sym c.deref.ensures.value)
    (shown_turns c.args.self.now c.args.opening.now c.args.limit c.in_ok-start.field-0 c.in_ok-start.ensures)

pub returns : goal.returns
returns c =
    let p = c.args.self.now in let o = c.args.opening.now in let f = c.in_ok-start.field-0 in
    let bases = subst (λ (x : List Turn). AreBases p o (length x + 1) c.in_ok-bases.bases.items) c.deref.ensures.value c.in_ok-bases.ensures in
    with_bases p o c.args.limit (record { start = f.start; turns = f.turns; bases = c.in_ok-bases.bases; aim = f.aim }) c.requires.opened.opens
    c.in_ok-start.ensures bases

pub bases_of-requires-clause-opened : goal.bases_of-requires-clause-opened
bases_of-requires-clause-opened c = c.requires.opened
