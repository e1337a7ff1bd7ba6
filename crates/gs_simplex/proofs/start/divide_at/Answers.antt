use Rattle.std.proofs.{Common.{◌≡◌, ℕ, ◌+◌, ◌-◌, ◌<◌, ◌≤◌, ℤ, length, List, take, drop, refl, sym, subst, ◌∙◌, arith}, lemmas.Grind.{common_steps}}
use borrow.Rule.Slice.PartMut.{put_mid}
use Rattle.gs_simplex.specs.Numbers.{at, IsDivided}
use Rattle.gs_simplex.proofs.Places.{at_part, part_long, length_put, at_put_inside, narrow_put, divided_same, others_put}
use Rattle.gs_simplex.proofs.start.divide_at.Goals as goal

divided : (xs ys : List ℤ) (start w n : ℕ) → n ≡ start + w - start → start + w ≤ length xs → length ys ≡ n → 0 < w
    → IsDivided (length (take n (drop start xs))) (at (take n (drop start xs))) (at ys)
    → IsDivided w (λ j. at xs (start + j)) (λ j. at (put_mid start n xs ys) (start + j))
divided xs ys start w n e h long some u =
    let P : ℕ → Type 0 = λ k. IsDivided k (at (take n (drop start xs))) (at ys) in
    divided_same w (at (take n (drop start xs))) (λ j. at xs (start + j)) (at ys) (λ j. at (put_mid start n xs ys) (start + j)) some
    (λ j l. at_part xs start n j (omega arith)) (λ j l. sym (at_put_inside xs ys start n j (omega arith) long (omega arith)))
    (subst P (part_long xs start w n e h) u)

pub returns : goal.returns
returns c = record {
  others = let w = c.args.width in let s = c.args.start in let n = s + w - s in
      others_put c.args.numbers.now c.divide_row.new.row s w n refl c.requires.inside
      (c.divide_row.auto.row ∙ part_long c.args.numbers.now s w n refl c.requires.inside ∙ omega arith);
  divided = let w = c.args.width in let s = c.args.start in let n = s + w - s in
      let long : length c.divide_row.new.row ≡ n = omega (arith, c.divide_row.auto.row, part_long c.args.numbers.now s w n refl c.requires.inside) in
      divided c.args.numbers.now c.divide_row.new.row s w n refl c.requires.inside long c.requires.some c.divide_row.ensures.divided;
  narrow = let w = c.args.width in let s = c.args.start in let n = s + w - s in
      let long : length c.divide_row.new.row ≡ n = omega (arith, c.divide_row.auto.row, part_long c.args.numbers.now s w n refl c.requires.inside) in
      λ k h. narrow_put c.args.numbers.now c.divide_row.new.row s n long (omega (arith, c.requires.inside)) c.requires.narrow c.divide_row.ensures.narrow k
      (let e = length_put c.args.numbers.now c.divide_row.new.row s n long (omega (arith, c.requires.inside)) in omega arith);
}

pub divide_row-requires-clause-narrow : goal.divide_row-requires-clause-narrow
divide_row-requires-clause-narrow c = grind (arith, common_steps)

pub fill-count-requires-clause-narrow : goal.fill-count-requires-clause-narrow
fill-count-requires-clause-narrow c = grind (arith, common_steps)
