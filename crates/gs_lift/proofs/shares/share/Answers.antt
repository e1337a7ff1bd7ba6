use Rattle.std.proofs.{Common.{◌≡◌, ◌*ℤ◌, ℤ, sym, ap, ◌∙◌, arith, to_z, of_z, cond}, lemmas.Bool.{eq-eqb, ne_eqb}, lemmas.Int.{ints, to_z_pos}}
use Rattle.std.specs.Int.{w128}
use Rattle.gs_seq.specs.{Abstracts.{abstract_frame, lists_of}, Plans.{lifted}}
use Rattle.gs_lift.proofs.{Ratios.{share_none, share_of}, shares.share.Goals.{then-choice-eq0, else-choice-eq0}}
use Rattle.gs_lift.proofs.shares.share.Goals as goal

pub returns-then-total-eq0 : goal.returns-then-total-eq0
returns-then-total-eq0 c =
    let f = abstract_frame c.args.a.now in
    let x = lifted f (lists_of c.args.a.now) c.args.plan.now in
    let none = sym c.requires.total ∙ c.if-total-eq0.true in
    let den = c.new.result.den in
    elim c.if-choice-eq0.branch [
      | then-choice-eq0 w ↦
          share_none f x c.args.spot.point c.args.spot.signal c.args.choice 1 c.new.result
          (sym (ap (λ b. cond b 1 0) (eq-eqb c.args.choice 0 w.if-choice-eq0.true))) none (c.new.ensures ∙ ap (λ z. z *ℤ den) w.new-is)
      | else-choice-eq0 w ↦
          share_none f x c.args.spot.point c.args.spot.signal c.args.choice 0 c.new.result
          (sym (ap (λ b. cond b 1 0) (ne_eqb c.args.choice 0 w.if-choice-eq0.false))) none (c.new.ensures ∙ ap (λ z. z *ℤ den) w.new-is)
    ]

pub returns : goal.returns
returns c =
    let f = abstract_frame c.args.a.now in
    let num = c.new-2.result.num in
    let den = c.new-2.result.den in
    let back : to_z w128 (of_z w128 c.from.result) ≡ c.from.result = omega (arith, ints) in
    let crossed = ap (λ (z : ℤ). num *ℤ z) (sym (to_z_pos w128 c.args.total c.requires.few)) ∙ c.new-2.ensures
    ∙ ap (λ (z : ℤ). z *ℤ den) (back ∙ c.from.ensures) in
    share_of f (lifted f (lists_of c.args.a.now) c.args.plan.now) c.args.spot.point c.args.spot.signal c.args.choice c.weight-weight.result c.args.total
    c.new-2.result c.weight-weight.ensures c.requires.total (omega (arith, c.if-total-eq0.false)) crossed
