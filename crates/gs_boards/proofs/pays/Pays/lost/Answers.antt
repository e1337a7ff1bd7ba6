use Rattle.std.proofs.Common.{◌*◌, ◌<◌, ◌≤◌, ◌^◌, ◌∙◌, ℤ, pos, neg_ℤ, unsigned_abs, ap, arith, rules, subst, sym}
use Rattle.std.specs.Int.{w32}
use mir.Val.{SFits}
use Rattle.gs_boards.specs.Runs.{lost_by}
use Rattle.gs_boards.proofs.Chips.{stake_small, stake_fits, stake_is, product_of_two, counts_fit, loss_fits, loss_is, loss_size}
use Rattle.gs_boards.proofs.pays.Pays.lost.Goals.{After-from-in-Showdown}
use Rattle.gs_boards.proofs.pays.Pays.lost.Goals as goal

pub overflow_mul-result : goal.overflow_mul-result
overflow_mul-result c =
    let h : SFits w32 c.in-Fixed.stake = search rules in
    stake_fits c.in-Fixed.stake c.from.result c.args.behind.on_board h c.requires.few c.from.ensures

pub returns-in-Fixed : goal.returns-in-Fixed
returns-in-Fixed c = record {
  value = let h : SFits w32 c.in-Fixed.stake = search rules in
      stake_is c.in-Fixed.stake c.from.result c.args.behind.on_board h c.requires.few c.from.ensures
      ∙ sym (ap (λ x. lost_by x c.args.behind) c.in-Fixed.is);
  small = let h : SFits w32 c.in-Fixed.stake = search rules in let s = c.in-Fixed.stake in let n = c.args.behind.on_board in
      let P : ℤ → Type 0 = λ t. unsigned_abs t < 2 ^ 122 in
      subst P (sym (stake_is s c.from.result n h c.requires.few c.from.ensures)) (omega (arith, stake_small s n (2 ^ 90) h (omega (arith, c.requires.few))));
}

lost : (c : After-from-in-Showdown) → c.from-in-Showdown.result * c.args.behind.off_level ≤ 2 ^ 106
lost c =
    let chips : c.from-in-Showdown.result < 2 ^ 16 = omega arith in
    product_of_two c.from-in-Showdown.result c.args.behind.off_level chips (omega (arith, c.requires.few, c.requires.within))

pub overflow_mul-result-in-Showdown : goal.overflow_mul-result-in-Showdown
overflow_mul-result-in-Showdown c = let w = goal.at.overflow_mul-result-in-Showdown c in record { fits = omega (arith, lost w.After-from-in-Showdown) }

pub overflow_cast-result-in-Showdown : goal.overflow_cast-result-in-Showdown
overflow_cast-result-in-Showdown c = let w = goal.at.overflow_cast-result-in-Showdown c in counts_fit _ (lost w.After-from-in-Showdown)

pub overflow_sub-result : goal.overflow_sub-result
overflow_sub-result c = let w = goal.at.overflow_sub-result c in loss_fits _ (lost w.After-from-in-Showdown)

pub returns-in-Showdown : goal.returns-in-Showdown
returns-in-Showdown c = record {
  value = let w = goal.at.returns-in-Showdown c in
      let a = c.from-in-Showdown in let k = c.args.behind.off_level in
      loss_is (a.result * k) (lost w.After-from-in-Showdown) ∙ ap (λ x. neg_ℤ (pos (x * k))) a.ensures
      ∙ sym (ap (λ x. lost_by x c.args.behind) c.in-Showdown.is);
  small = let w = goal.at.returns-in-Showdown c in
      let n = c.from-in-Showdown.result * c.args.behind.off_level in
      let P : ℤ → Type 0 = λ t. unsigned_abs t < 2 ^ 122 in
      subst P (sym (loss_is n (lost w.After-from-in-Showdown))) (omega (arith, lost w.After-from-in-Showdown, loss_size n));
}
