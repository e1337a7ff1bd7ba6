use Rattle.std.proofs.Common.{◌*◌, ◌<◌, ◌≤◌, ◌^◌, ◌∙◌, ℤ, pos, unsigned_abs, ap, arith, rules, subst, sym}
use Rattle.std.specs.Int.{w32}
use mir.Val.{SFits}
use Rattle.gs_boards.specs.Runs.{won_by}
use Rattle.gs_boards.proofs.{Chips.{stake_small, stake_fits, stake_is, product_of_three, counts, counts_fit}, pays.Pays.won.Goals.{After-from-in-Showdown-2}}
use Rattle.gs_boards.proofs.pays.Pays.won.Goals as goal

pub overflow_mul-result : goal.overflow_mul-result
overflow_mul-result c =
    let h : SFits w32 c.in-Fixed.stake = search rules in
    stake_fits c.in-Fixed.stake c.from.result c.args.before.on_board h (omega (arith, c.requires.few)) c.from.ensures

pub returns-in-Fixed : goal.returns-in-Fixed
returns-in-Fixed c = record {
  value = let h : SFits w32 c.in-Fixed.stake = search rules in
      stake_is c.in-Fixed.stake c.from.result c.args.before.on_board h (omega (arith, c.requires.few)) c.from.ensures
      ∙ sym (ap (λ x. won_by x c.args.place c.args.before) c.in-Fixed.is);
  small = let h : SFits w32 c.in-Fixed.stake = search rules in let s = c.in-Fixed.stake in let n = c.args.before.on_board in
      let P : ℤ → Type 0 = λ t. unsigned_abs t < 2 ^ 120 in
      subst P (sym (stake_is s c.from.result n h (omega (arith, c.requires.few)) c.from.ensures))
      (omega (arith, stake_small s n (2 ^ 82) h (omega (arith, c.requires.few))));
}

won : (c : After-from-in-Showdown-2) → c.from-in-Showdown.result * c.from-in-Showdown-2.result * c.args.before.off_level ≤ 2 ^ 106
won c =
    let chips : c.from-in-Showdown.result < 2 ^ 16 = omega arith in let win : c.from-in-Showdown-2.result < 2 ^ 8 = omega arith in
    product_of_three c.from-in-Showdown.result c.from-in-Showdown-2.result c.args.before.off_level chips win
    (omega (arith, c.requires.few, c.requires.within))

pub overflow_mul-result-in-Showdown-2 : goal.overflow_mul-result-in-Showdown-2
overflow_mul-result-in-Showdown-2 c = let w = goal.at.overflow_mul-result-in-Showdown-2 c in record { fits = omega (arith, won w.After-from-in-Showdown-2) }

pub overflow_cast-result-in-Showdown : goal.overflow_cast-result-in-Showdown
overflow_cast-result-in-Showdown c = let w = goal.at.overflow_cast-result-in-Showdown c in counts_fit _ (won w.After-from-in-Showdown-2)

pub returns-in-Showdown : goal.returns-in-Showdown
returns-in-Showdown c = record {
  value = let w = goal.at.returns-in-Showdown c in
      let a = c.from-in-Showdown in let b = c.from-in-Showdown-2 in let k = c.args.before.off_level in
      counts (a.result * b.result * k) (won w.After-from-in-Showdown-2)
      ∙ ap (λ x. pos (x * b.result * k)) a.ensures ∙ ap (λ x. pos (c.in-Showdown.chips * x * k)) b.ensures
      ∙ sym (ap (λ x. won_by x c.args.place c.args.before) c.in-Showdown.is);
  small = let w = goal.at.returns-in-Showdown c in
      let n = c.from-in-Showdown.result * c.from-in-Showdown-2.result * c.args.before.off_level in
      let P : ℤ → Type 0 = λ t. unsigned_abs t < 2 ^ 120 in
      subst P (sym (counts n (won w.After-from-in-Showdown-2))) (omega (arith, won w.After-from-in-Showdown-2));
}
