use Rattle.std.proofs.{Common.{◌≡◌, ◌<◌, false, get_or, None, Some, refl, sym, ap, ◌∙◌, arith}, lemmas.List.{get_or_default}}
use Rattle.gs_game.specs.Seen.{step_of}
use Rattle.gs_model.specs.{Frame.{point_count}, Positions.{Step}}
use Rattle.gs_play.specs.Sides.{side_frame}
use Rattle.gs_play.proofs.{Gates.{gate_before}, answers.is_loose.Goals.{In-Some}}
use Rattle.gs_play.proofs.answers.is_loose.Goals as goal

inside : (c : In-Some) → c.in-Some.step.point < point_count (side_frame c.args.side.now)
inside c =
    let h = gate_before c.args.side.now.form.now c.args.point c.requires.point (Some c.in-Some.step) c.in-Some.ensures (step_of c.in-Some.step) refl in
    h.0

none_is : (u : Step) → None ≡ Some u → ⊥
none_is u e = absurd (cc)

some_is : (u v : Step) → Some u ≡ Some v → u ≡ v
some_is u v e = cc

pub index-requires : goal.index-requires
index-requires c = omega (arith, inside (goal.at.index-requires c).In-Some, c.requires.turned, c.args.answer.now.turned.ok.0)

pub returns-in-None : goal.returns-in-None
returns-in-None c = λ e. record { own = c.if-moved-point.false; gate = λ u is. absurd (none_is u (c.in-None.ensures ∙ is)) }

pub returns-in-Some : goal.returns-in-Some
returns-in-Some c = λ e.
    let turned = c.args.answer.now.turned.items in
    let l = inside (goal.at.returns-in-Some c).In-Some in
    record {
      own = c.if-moved-point.false;
      gate = λ u is.
          ap (λ (s : Step). get_or turned s.point false) (sym (some_is (step_of c.in-Some.step) u (c.in-Some.ensures ∙ is)))
          ∙ get_or_default turned c.in-Some.step.point false c.index.result.now (omega (arith, l, c.requires.turned))
          ∙ sym c.index.ensures ∙ e;
    }
