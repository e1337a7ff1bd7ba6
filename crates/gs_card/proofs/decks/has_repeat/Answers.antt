use Rattle.std.proofs.lemmas.Grind.{common_steps}
use Rattle.std.proofs.Common.{sym, ◌∙◌, arith}
use Rattle.gs_card.proofs.Letters.{repeats_found, repeats_next}
use Rattle.gs_card.proofs.decks.has_repeat.Goals as goal

pub returns-then-contains : goal.returns-then-contains
returns-then-contains c = sym (repeats_found c.args.letters.now c.loop-i.i _ (omega arith) (sym c.contains.ensures.value ∙ c.if-contains.true))

pub loop-i-preserved : goal.loop-i-preserved
loop-i-preserved c = repeats_next c.args.letters.now c.loop-i.i _ (omega arith) c.loop-i.invariant (sym c.contains.ensures.value ∙ c.if-contains.false)

pub returns : goal.returns
returns c = grind (arith, common_steps)
