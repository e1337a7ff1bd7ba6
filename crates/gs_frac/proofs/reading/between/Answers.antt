use Rattle.std.proofs.Common.{◌≡◌, sym, eqb, true, false, ◌&&◌}
use Rattle.gs_frac.specs.Texts.{is_numeral}
use Rattle.gs_frac.proofs.Made.{between_is}
use Rattle.gs_frac.proofs.reading.between.Goals as goal

pub returns : goal.returns
returns c =
    let zero : (c.args.negative && eqb c.capped-num.result 0) ≡ false = sym c.if-is_minus_zero.ensures in
    let left_is : is_numeral c.args.digits.now ≡ true = sym c.if-not-is_number.ensures in
    let right_is : is_numeral c.args.right.now ≡ true = sym c.if-not-is_number-2.ensures in
    rw (between_is c.args.negative c.args.digits.now c.args.right.now left_is right_is (rw c.capped-num.ensures at zero))
    (rw (c.capped-num.ensures, c.capped.ensures) at c.made.ensures)
