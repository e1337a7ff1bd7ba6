use Rattle.std.proofs.Common.{◌≡◌, ap, refl, ◌∙◌, arith, of_z, to_z}
use Rattle.std.specs.{Int.{w128}, Prelude.{◌+ℤ◌, ◌*ℤ◌, pos, unsigned_abs}}
use Rattle.gs_game.specs.Seen.{end_of}
use Rattle.gs_seq.specs.Payoffs.{pair_pays}
use Rattle.gs_seq.proofs.{Signed.{read_back}, payoff.add_pays.Goals.{After-times_pays}}
use Rattle.gs_seq.proofs.payoff.add_pays.Goals as goal

-- the sum of both
both_is : (c : After-times_pays) → to_z w128 (of_z w128 c.args.sum) +ℤ to_z w128 (of_z w128 c.times_pays.result) ≡ c.args.sum +ℤ pos c.args.number *ℤ pair_pays
    c.args.player (end_of c.args.end) c.args.pair
both_is c = ap (λ z. z +ℤ to_z w128 (of_z w128 c.times_pays.result)) (read_back c.args.sum _ c.ranges.sum refl)
    ∙ ap (λ w. c.args.sum +ℤ w) (read_back c.times_pays.result _ (record { sfits = c.times_pays.type_inv }) c.times_pays.ensures)

pub plus-requires : goal.plus-requires
plus-requires c = omega (arith, c.requires.fits, ap unsigned_abs (both_is (goal.at.plus-requires c).After-times_pays))

pub returns : goal.returns
returns c = read_back c.plus.result _ (record { sfits = c.plus.type_inv }) (c.plus.ensures ∙ both_is (goal.at.returns c).After-times_pays)
