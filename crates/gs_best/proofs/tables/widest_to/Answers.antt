use Rattle.std.proofs.lemmas.Grind.{common_steps}
use Rattle.std.proofs.{Common.{◌≡◌, ◌+◌, ap, arith, ⊎_elim}, lemmas.Bool.{cases_eq}}
use Rattle.gs_model.specs.Classes.{class_count}
use Rattle.gs_seq.specs.Abstracts.{lists_of}
use Rattle.gs_best.proofs.tables.widest_to.Goals as goal

pub loop-before-preserved : goal.loop-before-preserved
loop-before-preserved c =
    let i = c.loop-before.before in
    record {
      wide = λ round some top. ⊎_elim
          (λ (same : round ≡ i + 1). omega (arith, c.max-most.ensures, c.class_total.ensures.value, ap (class_count (lists_of c.args.form.now)) same))
          (λ other. omega (arith, c.max-most.ensures, c.loop-before.invariant.wide round some (omega (arith, top, other))))
          (cases_eq round (i + 1));
      least = λ n h. omega (
        arith,
        c.max-most.ensures,
        c.class_total.ensures.value,
        c.loop-before.invariant.least n h,
        h (i + 1) (omega arith) (omega (arith, c.loop-before-test.true)),
      );
    }

pub returns : goal.returns
returns c = grind (arith, common_steps)
