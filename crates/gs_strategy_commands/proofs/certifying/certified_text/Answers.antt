use Rattle.std.proofs.Common.{◌++◌, ap, ◌∙◌}
use Rattle.gs_best.specs.Answers.{AreBestValues}
use Rattle.gs_certificate.specs.{Checks.{IsSound}, Promises.{AreReached, BoundsAll}}
use Rattle.gs_certificate.proofs.Promised.{bounds_all}
use Rattle.gs_seq.specs.{Abstracts.{abstract_frame, lists_of}, Plans.{class_plan, lifted}}
use Rattle.gs_file.specs.declared.version.Version.TheVariants.{Two}
use Rattle.gs_strategy.specs.{Texts.{strategy_text}, Views.{stored_view}}
use Rattle.gs_strategy_commands.proofs.Moved.{moved}
use Rattle.gs_strategy_commands.proofs.certifying.certified_text.Goals as goal

pub returns : goal.returns
returns c =
    let a = c.args.form.now in
    let s = c.args.stored.now in
    let l = a.lossless.now in
    let k = c.in_ok-c.c in
    let made = c.in_ok-c.ensures in
    let x = class_plan (abstract_frame a) (lists_of a) s.one in
    let y = class_plan (abstract_frame a) (lists_of a) s.two in
    record {
      certificate = k;
      holds = record {
        small = made.small;
        sound = moved (λ f n. IsSound f n (lifted f n s.one) (lifted f n s.two) k) l s c.requires made.sound;
        bounds = moved (λ f n. BoundsAll f (lifted f n s.one) (lifted f n s.two) k) l s c.requires (bounds_all a x y k made.sound);
      };
      first = moved (λ f n. AreBestValues f n 1 (lifted f n s.two) k.values1.items) l s c.requires made.first;
      second = moved (λ f n. AreBestValues f n 2 (lifted f n s.one) k.values2.items) l s c.requires made.second;
      reached = moved (λ f n. AreReached f (lifted f n s.one) (lifted f n s.two) k) l s c.requires made.reached;
      printed = c.in_ok-extend_from_slice.ensures.items ∙ ap (λ v. v ++ c.deref.result.now) c.in_ok-text.ensures
          ∙ ap (λ v. strategy_text Two (stored_view s) ++ v) (c.deref.ensures.value ∙ c.in_ok-line.ensures);
    }
