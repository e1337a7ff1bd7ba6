use Rattle.std.proofs.Common.{◌≡◌, ap, ◌∙◌, arith}
use Rattle.gs_filter.specs.Filter.{Filter}
use Rattle.gs_lossless.specs.declared.checking.Lossless.{Lossless}
use Rattle.gs_model.specs.Classes.{class_count}
use Rattle.gs_seq.proofs.Forms.{form_class_few}
use Rattle.gs_seq.proofs.form.Abstract.class_total.Goals as goal

pub returns : goal.returns
returns c = record {
  value = grind arith;
  few = let a = c.args.self.now in
      let few = form_class_few a c.args.round c.requires.some c.requires.top in
      let held : c.classes.result.now ≡ a.lossless.now.classes.now = c.classes.ensures.held ∙ ap (λ (l : Lossless). l.classes.now) c.lossless.ensures in
      omega (arith, c.classes-2.ensures, ap (λ (k : Filter). class_count k.lists c.args.round) held, few);
}

pub classes-requires-2-clause-top : goal.classes-requires-2-clause-top
classes-requires-2-clause-top c = grind arith
