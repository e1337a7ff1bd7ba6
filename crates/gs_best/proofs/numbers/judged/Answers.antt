use Rattle.std.proofs.{lemmas.Grind.{common_steps}, Common.{◌≡◌, ◌*◌, ap, ◌∙◌, arith, to_z, of_z}, lemmas.Int.{fits_signed_from_abs, ints, to_z-of_z}}
use Rattle.std.specs.Prelude.{pos, ◌+ℤ◌, ◌-ℤ◌, ◌*ℤ◌, ◌<ℤ◌, unsigned_abs}
use mir.Syntax.{w128}
use Rattle.gs_model.proofs.{Sparse.{abs_sum}, Choose.{products_positive}}
use Rattle.gs_best.proofs.{Fractions.{abs_difference, over_scale, over_turn, turned_sum}, Totals.{scaled_small}}
use Rattle.gs_best.proofs.numbers.judged.Goals.{After-scaled-scale, After-scaled, After-minus-gap1, After-scaled-2, After-plus-gap2}
use Rattle.gs_best.proofs.numbers.judged.Goals as goal

-- the scale is the weight times both totals
scale_is : (c : After-scaled-scale) → to_z w128 (of_z w128 c.scaled-scale.result) ≡ pos (c.args.weight * c.args.totals.0 * c.args.totals.1)
scale_is c =
    to_z-of_z w128 c.scaled-scale.result (record { sfits = c.scaled-scale.type_inv })
    ∙ over_scale (c.args.weight * c.args.totals.0) c.args.totals.1 c.scaled-scale.result _ c.scaled-scale.ensures
    (to_z-of_z w128 c.from.result (record { sfits = c.from.type_inv }) ∙ c.from.ensures)

positive : (c : After-scaled-scale) → pos 0 <ℤ to_z w128 (of_z w128 c.scaled-scale.result)
positive c = omega (
  arith,
  ints,
  scale_is c,
  products_positive c.args.weight c.args.totals.0 c.args.totals.1 c.requires.weight.0 c.requires.one.0
      c.requires.two.0,
)

-- what each best answer gains with the other's total, and the gaps
first : (c : After-scaled) → c.scaled.result ≡ pos c.args.totals.0 *ℤ c.args.best.0
first c = c.scaled.ensures ∙ ap (λ z. pos c.args.totals.0 *ℤ z)
    (to_z-of_z w128 c.args.best.0 (fits_signed_from_abs w128 c.args.best.0 (omega (arith, c.requires.first))))

second : (c : After-scaled-2) → c.scaled-2.result ≡ pos c.args.totals.1 *ℤ c.args.best.1
second c = c.scaled-2.ensures ∙ ap (λ z. pos c.args.totals.1 *ℤ z)
    (to_z-of_z w128 c.args.best.1 (fits_signed_from_abs w128 c.args.best.1 (omega (arith, c.requires.second))))

gap_one : (c : After-minus-gap1) → c.scaled.result ≡ pos c.args.totals.0 *ℤ c.args.best.0
    → to_z w128 (of_z w128 c.minus-gap1.result) ≡ pos c.args.totals.0 *ℤ c.args.best.0 -ℤ c.args.paid
gap_one c is =
    to_z-of_z w128 c.minus-gap1.result (record { sfits = c.minus-gap1.type_inv }) ∙ c.minus-gap1.ensures
    ∙ ap (λ z. z -ℤ to_z w128 (of_z w128 c.args.paid)) (to_z-of_z w128 c.scaled.result (record { sfits = c.scaled.type_inv }) ∙ is)
    ∙ ap (λ z. pos c.args.totals.0 *ℤ c.args.best.0 -ℤ z) (to_z-of_z w128 c.args.paid c.ranges.paid)

gap_two : (c : After-plus-gap2) → c.scaled-2.result ≡ pos c.args.totals.1 *ℤ c.args.best.1
    → to_z w128 (of_z w128 c.plus-gap2.result) ≡ pos c.args.totals.1 *ℤ c.args.best.1 +ℤ c.args.paid
gap_two c is =
    to_z-of_z w128 c.plus-gap2.result (record { sfits = c.plus-gap2.type_inv }) ∙ c.plus-gap2.ensures
    ∙ turned_sum c.scaled-2.result (pos c.args.totals.1 *ℤ c.args.best.1) c.args.paid _ _ is
    (to_z-of_z w128 c.scaled-2.result (record { sfits = c.scaled-2.type_inv })) (to_z-of_z w128 c.args.paid c.ranges.paid)

pub plus-gap2-requires : goal.plus-gap2-requires
plus-gap2-requires c =
    let x1 = pos c.args.totals.1 *ℤ c.args.best.1 in
    let wrapped = to_z-of_z w128 c.scaled-2.result (record { sfits = c.scaled-2.type_inv }) in
    let e = ap unsigned_abs (turned_sum c.scaled-2.result x1 c.args.paid _ _ (second (goal.at.plus-gap2-requires c).After-scaled-2) wrapped
    (to_z-of_z w128 c.args.paid c.ranges.paid)) in
    omega (arith, e, abs_sum x1 c.args.paid, scaled_small c.args.totals.1 c.args.best.1 c.requires.two.1 c.requires.second, c.requires.paid)

pub fraction-requires-2 : goal.fraction-requires-2
fraction-requires-2 c = record {
  positive = positive (goal.at.fraction-requires-2 c).After-scaled-scale;
  fits = let at = goal.at.fraction-requires-2 c in
      let gap = ap unsigned_abs (gap_one at.After-minus-gap1 (first at.After-scaled)) in
      omega (
        arith,
        gap,
        abs_difference (pos c.args.totals.0 *ℤ c.args.best.0) c.args.paid,
        scaled_small c.args.totals.0 c.args.best.0 c.requires.one.1 c.requires.first,
        c.requires.paid,
      );
}

pub fraction-requires-3 : goal.fraction-requires-3
fraction-requires-3 c = record {
  positive = positive (goal.at.fraction-requires-3 c).After-scaled-scale;
  fits = let at = goal.at.fraction-requires-3 c in
      let gap = ap unsigned_abs (gap_two at.After-plus-gap2 (second at.After-scaled-2)) in
      omega (
        arith,
        gap,
        abs_sum (pos c.args.totals.1 *ℤ c.args.best.1) c.args.paid,
        scaled_small c.args.totals.1 c.args.best.1 c.requires.two.1
            c.requires.second,
        c.requires.paid,
      );
}

pub returns : goal.returns
returns c =
    let at = goal.at.returns c in
    let n = c.args.weight * c.args.totals.0 * c.args.totals.1 in
    let scale = scale_is at.After-scaled-scale in
    record {
      value = over_turn _ _ c.args.paid (pos n) c.fraction.result c.fraction.ensures (to_z-of_z w128 c.args.paid c.ranges.paid) scale;
      first = over_turn _ _ (pos c.args.totals.0 *ℤ c.args.best.0 -ℤ c.args.paid) (pos n) c.fraction-2.result c.fraction-2.ensures
          (gap_one at.After-minus-gap1 (first at.After-scaled)) scale;
      second = over_turn _ _ (pos c.args.totals.1 *ℤ c.args.best.1 +ℤ c.args.paid) (pos n) c.fraction-3.result c.fraction-3.ensures
          (gap_two at.After-plus-gap2 (second at.After-scaled-2)) scale;
    }

pub minus-gap1-requires : goal.minus-gap1-requires
minus-gap1-requires c =
    let x = pos c.args.totals.0 *ℤ c.args.best.0 in
    let read : to_z w128 (of_z w128 c.scaled.result) -ℤ to_z w128 (of_z w128 c.args.paid) ≡ x -ℤ c.args.paid =
    ap (λ z. z -ℤ to_z w128 (of_z w128 c.args.paid)) (to_z-of_z w128 c.scaled.result (record { sfits = c.scaled.type_inv }) ∙ first c)
    ∙ ap (λ z. x -ℤ z) (to_z-of_z w128 c.args.paid c.ranges.paid) in
    omega (
      arith,
      ap unsigned_abs read,
      abs_difference x c.args.paid,
      scaled_small c.args.totals.0 c.args.best.0 c.requires.one.1 c.requires.first,
      c.requires.paid,
    )

pub scaled-requires-2 : goal.scaled-requires-2
scaled-requires-2 c = grind (arith, common_steps)

pub scaled-scale-requires : goal.scaled-scale-requires
scaled-scale-requires c = grind arith

pub scaled-requires : goal.scaled-requires
scaled-requires c = grind arith

pub fraction-requires : goal.fraction-requires
fraction-requires c = record {
  positive = positive (goal.at.fraction-requires c).After-scaled-scale;
  fits = grind (arith, common_steps);
}

pub overflow_mul-weight : goal.overflow_mul-weight
overflow_mul-weight c = grind arith
