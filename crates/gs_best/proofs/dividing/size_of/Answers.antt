use Rattle.std.proofs.lemmas.Grind.{common_steps}
use Rattle.std.proofs.Common.{◌≡◌, ap, ◌∙◌, arith}
use Rattle.gs_filter.specs.Filter.{Filter}
use Rattle.gs_lossless.specs.declared.checking.Lossless.{Lossless}
use Rattle.gs_model.specs.Classes.{class_size}
use Rattle.gs_seq.specs.Abstracts.{abstract_frame, lists_of}
use Rattle.gs_seq.proofs.Forms.{form_classes}
use Rattle.gs_best.proofs.{Shares.{some_member}, dividing.size_of.Goals.{After-size}}
use Rattle.gs_best.proofs.dividing.size_of.Goals as goal

is : (c : After-size) → c.size.result ≡ class_size (lists_of c.args.form.now) c.args.round c.args.class
is c =
    let a = c.args.form.now in
    let held : c.classes.result.now ≡ a.lossless.now.classes.now = c.classes.ensures.held ∙ ap (λ (l : Lossless). l.classes.now) c.lossless.ensures in
    c.size.ensures ∙ ap (λ (k : Filter). class_size k.lists c.args.round c.args.class) held

pub returns : goal.returns
returns c = record {
  value = is (goal.at.returns c).After-size;
  members = let a = c.args.form.now in
      omega (
        arith,
        is (goal.at.returns c).After-size,
        some_member (abstract_frame a) (lists_of a) (form_classes a) c.args.round c.args.class
            c.requires.some c.requires.top c.requires.class,
      );
}

pub size-requires : goal.size-requires
size-requires c = grind (arith, common_steps)
