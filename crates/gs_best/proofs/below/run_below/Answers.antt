use Rattle.std.proofs.Common.{◌≡◌, ap, ◌∙◌, subst, arith}
use Rattle.gs_model.specs.Frame.{frame_of}
use Rattle.gs_tree.specs.{Trees.{rules_of}, declared.signals.Signals.{Signals}}
use Rattle.gs_lossless.specs.{Amounts.{IsRunIn}, declared.checking.Lossless.{Lossless}}
use Rattle.gs_seq.specs.Abstracts.{abstract_frame as form_frame}
use Rattle.gs_seq.proofs.Forms.{form_count, form_rounds}
use Rattle.gs_best.proofs.below.run_below.Goals as goal

pub descendants_in-requires-clause-top : goal.descendants_in-requires-clause-top
descendants_in-requires-clause-top c =
    let a = c.args.form.now in
    let held : c.signals.result.now ≡ a.lossless.now.signals.now = c.signals.ensures.held ∙ ap (λ (l : Lossless). l.signals.now) c.lossless.ensures in
    omega (arith, form_rounds a c.signals.result.now held, c.requires.top)

pub descendants_in-requires-clause-in_range : goal.descendants_in-requires-clause-in_range
descendants_in-requires-clause-in_range c =
    let a = c.args.form.now in
    let held : c.signals.result.now ≡ a.lossless.now.signals.now = c.signals.ensures.held ∙ ap (λ (l : Lossless). l.signals.now) c.lossless.ensures in
    omega (
      arith,
      form_count a c.signals.result.now held c.args.from c.requires.some (omega (arith, c.requires.onward, c.requires.top)),
      c.first_of-member.ensures.within,
    )

pub returns : goal.returns
returns c =
    let a = c.args.form.now in
    let held : c.signals.result.now ≡ a.lossless.now.signals.now = c.signals.ensures.held ∙ ap (λ (l : Lossless). l.signals.now) c.lossless.ensures in
    let run = subst (λ (s : Signals). IsRunIn (frame_of (rules_of s)) c.args.to c.args.from c.first_of-member.result c.descendants_in.result.first
    c.descendants_in.result.end) held c.descendants_in.ensures in
    subst (λ s. IsRunIn (form_frame a) c.args.to c.args.from s c.descendants_in.result.first c.descendants_in.result.end) c.first_of-member.ensures.value run
