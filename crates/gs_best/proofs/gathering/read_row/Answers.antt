use Rattle.std.proofs.lemmas.Grind.{common_steps}
use Rattle.std.proofs.Common.{arith}
use Rattle.gs_seq.specs.Abstracts.{abstract_frame, lists_of}
use Rattle.gs_seq.proofs.Forms.{form_classes, form_in_range}
use Rattle.gs_best.proofs.Itself.{row_gathers}
use Rattle.gs_best.proofs.gathering.read_row.Goals as goal

pub returns : goal.returns
returns c = grind (arith, common_steps)

pub slice_bounds-result-end : goal.slice_bounds-result-end
slice_bounds-result-end c = grind arith

pub gather-requires : goal.gather-requires
gather-requires c = grind (arith, common_steps)

pub returns-then-row-from : goal.returns-then-row-from
returns-then-row-from c = record {
  gathered = let a = c.args.form.now in
      row_gathers (abstract_frame a) (form_in_range a) (lists_of a) (form_classes a) c.args.row.round c.args.from c.if-row-from.true c.requires.some
      (omega (arith, c.requires.row.later, c.requires.row.top)) c.args.row.values.now c.args.row.start c.class_total-count.result
      c.class_total-count.ensures.value;
  long = omega arith;
}
