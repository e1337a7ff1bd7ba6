use Rattle.std.proofs.{Common.{◌≡◌, ℕ, ◌*◌, ◌^◌, ◌<◌, ◌≤◌, sym, ap, ◌∙◌, subst, arith, rules, to_z, of_z}, Math.Nat.{mul-le-mul_left}}
use Rattle.std.specs.{Prelude.{pos, ◌+ℤ◌, ◌*ℤ◌, unsigned_abs}, Int.RustNames.{FitsSigned}}
use Rattle.std.proofs.lemmas.Int.{ints, to_z-of_z}
use mir.Syntax.{w128}
use Rattle.gs_play.proofs.{Sizes.{Fits, fits_abs, value_small}, line.value.Goals.{After-from, After-scaled}}
use Rattle.gs_play.proofs.line.value.Goals as goal

slope_is : (c : After-from) → to_z w128 (of_z w128 c.from-slope.result) ≡ c.args.line.slope
slope_is c =
    let fits : FitsSigned w128 c.from-slope.result = record { sfits = c.from-slope.type_inv } in
    let e : c.from-slope.result ≡ c.args.line.slope = omega (arith, ints, c.from-slope.ensures) in
    to_z-of_z w128 c.from-slope.result fits ∙ e

at_is : (c : After-from) → to_z w128 (of_z w128 c.from-at.result) ≡ c.args.line.at
at_is c =
    let fits : FitsSigned w128 c.from-at.result = record { sfits = c.from-at.type_inv } in
    let e : c.from-at.result ≡ c.args.line.at = omega (arith, ints, c.from-at.ensures) in
    to_z-of_z w128 c.from-at.result fits ∙ e

line_fits : (c : After-from) → Fits c.args.line
line_fits c = record { at = search rules; slope = search rules }

pub scaled-requires : goal.scaled-requires
scaled-requires c =
    let at = (goal.at.scaled-requires c).After-from in
    let n : c.args.turn * unsigned_abs c.args.line.slope ≤ c.args.turn * 2 ^ 63 = mul-le-mul_left c.args.turn
    (fits_abs c.args.line.slope (line_fits at).slope) in
    subst (λ (k : ℕ). k * unsigned_abs (to_z w128 (of_z w128 c.from-slope.result)) < 2 ^ 127) (sym c.from.ensures)
    (subst (λ z. c.args.turn * unsigned_abs z < 2 ^ 127) (sym (slope_is at)) (omega (arith, n, c.requires)))

risen_is : (c : After-scaled) → to_z w128 (of_z w128 c.scaled.result) ≡ pos c.args.turn *ℤ c.args.line.slope
risen_is c =
    let fits : FitsSigned w128 c.scaled.result = record { sfits = c.scaled.type_inv } in
    to_z-of_z w128 c.scaled.result fits ∙ c.scaled.ensures ∙ ap (λ (k : ℕ). pos k *ℤ to_z w128 (of_z w128 c.from-slope.result)) c.from.ensures
    ∙ ap (λ z. pos c.args.turn *ℤ z) (slope_is (goal.at.After-scaled c).After-from)

pub plus-requires : goal.plus-requires
plus-requires c =
    let done = (goal.at.plus-requires c).After-scaled in
    let at = (goal.at.plus-requires c).After-from in
    let v = value_small c.args.line c.args.turn (line_fits at) c.requires in
    subst (λ z. unsigned_abs (z +ℤ to_z w128 (of_z w128 c.scaled.result)) < 2 ^ 127) (sym (at_is at))
    (subst (λ z. unsigned_abs (c.args.line.at +ℤ z) < 2 ^ 127) (sym (risen_is done)) (omega (arith, v)))

pub returns : goal.returns
returns c =
    let done = (goal.at.returns c).After-scaled in
    let at = (goal.at.returns c).After-from in
    let fits : FitsSigned w128 c.plus.result = record { sfits = c.plus.type_inv } in
    to_z-of_z w128 c.plus.result fits ∙ c.plus.ensures ∙ ap (λ z. z +ℤ to_z w128 (of_z w128 c.scaled.result)) (at_is at)
    ∙ ap (λ z. c.args.line.at +ℤ z) (risen_is done)
