use Rattle.std.proofs.{Common.{◌≡◌, ◌∙◌, ℕ, ap, arith, subst, sym, ⊎_elim}, lemmas.Bool.{cases_lt}}
use Rattle.gs_model.specs.Classes.{class_of, class_size}
use Rattle.gs_lossless.proofs.scan.are_alone.Goals as goal

pub loop-signal-preserved : goal.loop-signal-preserved
loop-signal-preserved c =
    let lists = c.args.classes.now.lists in
    let signal = c.loop-signal.signal in
    let one = ap (class_size lists c.args.round) (sym c.class_of.ensures.value) ∙ sym c.size.ensures ∙ c.if-size-ne1.false in
    λ s l. ⊎_elim (λ under. c.loop-signal.invariant s under) (λ over. let e : signal ≡ s = omega (arith, l, over) in
    subst (λ (x : ℕ). class_size lists c.args.round (class_of lists c.args.round x) ≡ 1) e one) (cases_lt s signal)
