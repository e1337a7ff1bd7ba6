use Rattle.std.proofs.{Common.{◌∙◌, arith}, lemmas.Grind.{get_or_default_zero}}
use Rattle.gs_seq.specs.Abstracts.{abstract_frame, lists_of}
use Rattle.gs_seq.proofs.{Moves.{SlotFacts, slot_at}, form.Abstract.slot.Goals.{After-index}}
use Rattle.gs_seq.proofs.form.Abstract.slot.Goals as goal

-- where a slot stands that counts from what was read as the base
facts : (c : After-index) → SlotFacts (abstract_frame c.args.self.now) (lists_of c.args.self.now) c.args.point c.args.class c.args.choice c.index.result.now
    c.from-moves.result
facts c =
    slot_at c.args.self.now c.args.point c.args.class c.args.choice c.index.result.now c.from-moves.result c.requires.point c.requires.class c.requires.choice
    (c.index.ensures ∙ get_or_default_zero c.args.self.now.offsets.items c.args.point c.index.result.now
    (omega (arith, c.args.self.now.placed.long, c.requires.point)))
    (c.from-moves.ensures ∙ c.move_total.ensures.value)

pub overflow_mul-result : goal.overflow_mul-result
overflow_mul-result c = omega (arith, (facts (goal.at.overflow_mul-result c).After-index).few)

pub overflow_add-result : goal.overflow_add-result
overflow_add-result c = omega (arith, (facts (goal.at.overflow_add-result c).After-index).few)

pub overflow_add-result-2 : goal.overflow_add-result-2
overflow_add-result-2 c = omega (arith, (facts (goal.at.overflow_add-result-2 c).After-index).few, c.from.ensures)

pub returns : goal.returns
returns c = record {
  value = omega (arith, (facts (goal.at.returns c).After-index).is, c.from.ensures);
  within = omega (arith, (facts (goal.at.returns c).After-index).within, c.from.ensures);
}
