use Rattle.std.proofs.Common.{◌≡◌, ◌∙◌, ℕ, ap, arith}
use Rattle.gs_model.specs.Cards.{choose}
use Rattle.gs_game.proofs.Powers.{choose_one, choose_two, choose_three}
use Rattle.gs_game.proofs.deals.choose.Goals as goal

pub returns-in-1 : goal.returns-in-1
returns-in-1 c = rw (c.in-1.is, c.from-n.ensures) (choose_one c.args.n)

pub returns-in-2 : goal.returns-in-2
returns-in-2 c = rw (c.in-2.is) (choose_two c.from-n.result _ c.saturating_sub.ensures ∙ ap (λ (k : ℕ). choose k 2) c.from-n.ensures)

pub returns-in_default : goal.returns-in_default
returns-in_default c =
    let three : c.args.size ≡ 3 = omega arith in
    rw three (choose_three c.from-n.result _ _ c.saturating_sub-in_default.ensures c.saturating_sub-in_default-2.ensures
    ∙ ap (λ (k : ℕ). choose k 3) c.from-n.ensures)
