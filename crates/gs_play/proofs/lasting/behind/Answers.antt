use Rattle.std.proofs.lemmas.Grind.{common_steps}
use Rattle.std.proofs.{Common.{◌≡◌, ◌+◌, ◌^◌, ◌<◌, true, sym, subst, ap, ◌∙◌, arith, rules, to_z, of_z}, lemmas.Int.{ints, to_z-of_z}}
use Rattle.std.specs.{Prelude.{ℤ, ◌-ℤ◌, ◌<ℤ◌, unsigned_abs}, Int.RustNames.{FitsSigned}, Int.Signed.{lt_z}}
use mir.Syntax.{w128}
use Rattle.gs_play.proofs.{Overtaking.{behind_by, slower_stays, within_by}, lasting.behind.Goals.{After-above-gain}}
use Rattle.gs_play.proofs.lasting.behind.Goals as goal

below_from : (a b x y : ℤ) → x ≡ a → y ≡ b → lt_z x y ≡ true → a <ℤ b
below_from a b x y e f t = omega (arith, ints, e, f, t)

gap_is : (c : After-above-gain) → c.above-gap.result ≡ unsigned_abs (c.args.value -ℤ c.args.worth)
gap_is c =
    let fits_value : FitsSigned w128 c.args.value = search rules in
    let fits_worth : FitsSigned w128 c.args.worth = search rules in
    c.above-gap.ensures.value ∙ ap (λ x. unsigned_abs (x -ℤ to_z w128 (of_z w128 c.args.worth))) (to_z-of_z w128 c.args.value fits_value)
    ∙ ap (λ x. unsigned_abs (c.args.value -ℤ x)) (to_z-of_z w128 c.args.worth fits_worth)

gain_is : (c : After-above-gain) → c.above-gain.result ≡ unsigned_abs (c.args.rise -ℤ c.args.slope)
gain_is c =
    let fits_slope : FitsSigned w128 c.args.slope = search rules in
    let fits_rise : FitsSigned w128 c.args.rise = search rules in
    c.above-gain.ensures.value ∙ ap (λ x. unsigned_abs (x -ℤ to_z w128 (of_z w128 c.args.slope))) (to_z-of_z w128 c.args.rise fits_rise)
    ∙ ap (λ x. unsigned_abs (c.args.rise -ℤ x)) (to_z-of_z w128 c.args.slope fits_slope)

fast : (c : After-above-gain) → lt_z (to_z w128 (of_z w128 c.args.slope)) (to_z w128 (of_z w128 c.args.rise)) ≡ true → c.args.slope <ℤ c.args.rise
fast c t =
    let fits_slope : FitsSigned w128 c.args.slope = search rules in
    let fits_rise : FitsSigned w128 c.args.rise = search rules in
    below_from c.args.slope c.args.rise _ _ (to_z-of_z w128 c.args.slope fits_slope) (to_z-of_z w128 c.args.rise fits_rise) t

pub returns-then-slope-rise-clause-behind : goal.returns-then-slope-rise-clause-behind
returns-then-slope-rise-clause-behind c =
    let at = (goal.at.returns-then-slope-rise-clause-behind c).After-above-gain in
    behind_by c.args.value c.args.worth c.args.slope c.args.rise c.above-gap.result c.above-gain.result (gap_is at) (gain_is at) c.requires.ahead.most
    (fast at c.if-slope-rise.true) c.args.before c.within_gap.result c.within_gap.ensures.within

pub returns-then-slope-rise-clause-greatest : goal.returns-then-slope-rise-clause-greatest
returns-then-slope-rise-clause-greatest c =
    let at = (goal.at.returns-then-slope-rise-clause-greatest c).After-above-gain in
    λ l h. c.within_gap.ensures.greatest l (within_by c.args.value c.args.worth c.args.slope c.args.rise c.above-gap.result c.above-gain.result (gap_is at)
    (gain_is at) c.requires.ahead.most (fast at c.if-slope-rise.true) c.args.before (c.within_gap.result + 1) h)

pub returns-else-slope-rise-clause-behind : goal.returns-else-slope-rise-clause-behind
returns-else-slope-rise-clause-behind c = slower_stays c.args.before c.args.value c.args.worth c.args.slope c.args.rise c.args.times
    (omega (arith, ints, c.if-slope-rise.false)) c.requires.ahead

pub returns-then-slope-rise-clause-some : goal.returns-then-slope-rise-clause-some
returns-then-slope-rise-clause-some c = grind arith

pub within_gap-requires : goal.within_gap-requires
within_gap-requires c = grind (arith, common_steps)

pub above-gain-requires : goal.above-gain-requires
above-gain-requires c =
    subst (λ x. unsigned_abs (x -ℤ to_z w128 (of_z w128 c.args.slope)) < 2 ^ 120) (sym (to_z-of_z w128 c.args.rise c.ranges.rise))
    (subst (λ x. unsigned_abs (c.args.rise -ℤ x) < 2 ^ 120) (sym (to_z-of_z w128 c.args.slope c.ranges.slope)) c.requires.gain)

pub above-gap-requires : goal.above-gap-requires
above-gap-requires c =
    subst (λ x. unsigned_abs (x -ℤ to_z w128 (of_z w128 c.args.worth)) < 2 ^ 120) (sym (to_z-of_z w128 c.args.value c.ranges.value))
    (subst (λ x. unsigned_abs (c.args.value -ℤ x) < 2 ^ 120) (sym (to_z-of_z w128 c.args.worth c.ranges.worth)) c.requires.gap)
