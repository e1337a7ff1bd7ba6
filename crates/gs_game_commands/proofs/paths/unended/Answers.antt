use Rattle.std.proofs.Common.{refl, rules}
use Rattle.gs_reply.specs.{Refusals.{Many_pivots, Overflows, Refusal, Too_large}, declared.refusals.Limit.TheVariants.{TableNumbers}}
use Rattle.gs_reply.specs.declared.refusals.Overflow.TheVariants.{AtStep}
use Rattle.gs_game_commands.proofs.Answering.{overflow_is}
use Rattle.gs_game_commands.proofs.paths.unended.Goals as goal

pub returns-in-TableTooLarge : goal.returns-in-TableTooLarge
returns-in-TableTooLarge c =
    let why : Refusal = Too_large (TableNumbers c.in-TableTooLarge.count) in let h = rw c.in-TableTooLarge.is at c.requires in
    record { path = (why, h, refl); solve = (why, h, refl) }

pub returns-in-Wide : goal.returns-in-Wide
returns-in-Wide c =
    let w = c.in-Wide in let why : Refusal = Overflows (AtStep w.step w.row w.col w.number) in let h = rw w.is at c.requires in
    let is = overflow_is w.step w.row w.col w.number (search rules) in
    record { path = (why, h, is); solve = (why, h, is) }

pub returns-in-Pivots : goal.returns-in-Pivots
returns-in-Pivots c = let h = rw c.in-Pivots.is at c.requires in record { path = (Many_pivots, h, refl); solve = (Many_pivots, h, refl) }
