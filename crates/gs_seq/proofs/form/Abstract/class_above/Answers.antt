use Rattle.std.proofs.lemmas.Grind.{common_steps}
use Rattle.std.proofs.Common.{◌≡◌, sym, ◌∙◌, subst, ap, arith}
use Rattle.gs_lossless.specs.declared.checking.Lossless.{Lossless}
use Rattle.gs_seq.specs.{Abstracts.{abstract_frame}, Sources.{IsClassAbove}}
use Rattle.gs_seq.proofs.Forms.{form_in_range}
use Rattle.gs_seq.proofs.form.Abstract.class_above.Goals as goal

pub returns-clause-value : goal.returns-clause-value
returns-clause-value c =
    let a = c.args.self.now in
    let same : c.classes.result.now ≡ a.lossless.now.classes.now = c.classes.ensures.held ∙ ap (λ (l : Lossless). l.classes.now) c.lossless.ensures in
    subst (λ k. IsClassAbove k c.args.from c.args.to c.args.class c.class_above.result) same c.class_above.ensures.above (abstract_frame a) (form_in_range a)
    (sym a.lossless.now.parents)

pub class_above-requires : goal.class_above-requires
class_above-requires c = grind (arith, common_steps)

pub returns-clause-class : goal.returns-clause-class
returns-clause-class c = grind arith
