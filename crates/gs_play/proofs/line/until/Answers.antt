use Rattle.std.proofs.{lemmas.Grind.{common_steps}, Common.{◌≡◌, ◌+◌, ◌<◌, ◌^◌, sym, ◌∙◌, subst, arith, rules, to_z, of_z}, lemmas.Int.{ints, to_z-of_z}}
use Rattle.std.specs.{Prelude.{◌-ℤ◌, unsigned_abs}, Int.RustNames.{FitsSigned}}
use mir.Syntax.{w128}
use Rattle.gs_play.proofs.{Behind.{behind_same}, Turning.{behind_by, stays_by}, Sizes.{Fits, gap_small}, line.until.Goals.{After-value-2}}
use Rattle.gs_play.specs.Lines.{value_in}
use Rattle.gs_play.proofs.line.until.Goals as goal

value_is : (c : After-value-2) → to_z w128 (of_z w128 c.value.result) ≡ value_in c.args.ahead c.args.now
value_is c =
    let fits : FitsSigned w128 c.value.result = record { sfits = c.value.type_inv } in
    to_z-of_z w128 c.value.result fits ∙ c.value.ensures

worth_is : (c : After-value-2) → to_z w128 (of_z w128 c.value-2.result) ≡ value_in c.args.other c.args.now
worth_is c =
    let fits : FitsSigned w128 c.value-2.result = record { sfits = c.value-2.type_inv } in
    to_z-of_z w128 c.value-2.result fits ∙ c.value-2.ensures

slope_is : (c : After-value-2) → to_z w128 (of_z w128 c.from-slope.result) ≡ c.args.ahead.slope
slope_is c =
    let fits : FitsSigned w128 c.from-slope.result = record { sfits = c.from-slope.type_inv } in
    let e : c.from-slope.result ≡ c.args.ahead.slope = omega (arith, ints, c.from-slope.ensures) in
    to_z-of_z w128 c.from-slope.result fits ∙ e

rise_is : (c : After-value-2) → to_z w128 (of_z w128 c.from-rise.result) ≡ c.args.other.slope
rise_is c =
    let fits : FitsSigned w128 c.from-rise.result = record { sfits = c.from-rise.type_inv } in
    let e : c.from-rise.result ≡ c.args.other.slope = omega (arith, ints, c.from-rise.ensures) in
    to_z-of_z w128 c.from-rise.result fits ∙ e

-- the numbers of a line that was passed fit 64 bits
ahead_fits : (c : After-value-2) → Fits c.args.ahead
ahead_fits c = record { at = search rules; slope = search rules }

other_fits : (c : After-value-2) → Fits c.args.other
other_fits c = record { at = search rules; slope = search rules }

pub returns-clause-stays : goal.returns-clause-stays
returns-clause-stays c =
    let at = (goal.at.returns-clause-stays c).After-value-2 in
    let a = c.args.ahead in
    let o = c.args.other in
    stays_by c.args.before a.at a.slope o.at o.slope c.args.now c.behind-turns.result
    (behind_same c.args.before _ (value_in a c.args.now) _ (value_in o c.args.now) _ a.slope _ o.slope c.behind-turns.result (value_is at) (worth_is at)
    (slope_is at) (rise_is at) c.behind-turns.ensures.behind)

pub returns-clause-greatest : goal.returns-clause-greatest
returns-clause-greatest c =
    let at = (goal.at.returns-clause-greatest c).After-value-2 in
    let a = c.args.ahead in
    let o = c.args.other in
    let e : c.args.now + c.behind-turns.result + 1 ≡ c.args.now + (c.behind-turns.result + 1) = omega arith in
    λ l h. c.behind-turns.ensures.greatest (omega (arith, l, c.requires.order))
    (behind_same c.args.before (value_in a c.args.now) _ (value_in o c.args.now) _ a.slope _ o.slope _ (c.behind-turns.result + 1) (sym (value_is at))
    (sym (worth_is at)) (sym (slope_is at)) (sym (rise_is at))
    (behind_by c.args.before a.at a.slope o.at o.slope c.args.now (c.behind-turns.result + 1)
    (λ n lo hi. h n lo (omega (arith, hi)))))

pub returns-clause-some : goal.returns-clause-some
returns-clause-some c = grind arith

pub behind-turns-requires : goal.behind-turns-requires
behind-turns-requires c = record {
  ahead = grind arith;
  gap = let at = (goal.at.behind-turns-requires c).After-value-2 in
      subst (λ x. unsigned_abs (x -ℤ to_z w128 (of_z w128 c.value-2.result)) < 2 ^ 120) (sym (value_is at))
      (subst (λ x. unsigned_abs (value_in c.args.ahead c.args.now -ℤ x) < 2 ^ 120) (sym (worth_is at))
      (gap_small c.args.ahead c.args.other c.args.now (ahead_fits at) (other_fits at) (omega (arith, c.requires.order, c.requires.few))));
  gain = grind (arith, common_steps);
}
