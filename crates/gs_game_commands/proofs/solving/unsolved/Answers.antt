use Rattle.std.proofs.Common.{refl}
use Rattle.gs_reply.specs.{Refusals.{Overflows}, declared.refusals.Overflow.TheVariants.{AtTotal}}
use Rattle.gs_game_commands.proofs.solving.unsolved.Goals as goal

pub returns-in-Path : goal.returns-in-Path
returns-in-Path c = c.unended.ensures.solve

pub unended-requires : goal.unended-requires
unended-requires c = rw c.in-Path.is at c.requires

pub returns-in-Total : goal.returns-in-Total
returns-in-Total c = (Overflows (AtTotal c.in-Total.player c.in-Total.multiple), rw c.in-Total.is at c.requires, refl)
