use Rattle.std.proofs.{Common.{◌≡◌, inl, inr, ⊎_elim, ℕ, ◌+◌, ◌-◌, ◌<◌, ◌≤◌, ℤ, List, length, take, drop, refl, sym, subst, ◌∙◌, arith}, lemmas.Grind.{common_steps}}
use Rattle.gs_simplex.specs.{Numbers.{at, AreNarrowNumbers, IsLeadOf}, Columns.{IsOwnFreed, IsRowLed}}
use Rattle.gs_simplex.proofs.Places.{at_part, part_long, others_put, narrow_put, length_put}
use Rattle.gs_simplex.proofs.table.take_lead.Goals as goal

-- what was taken of a part is so of the whole
taken : (xs ys row lead : List ℤ) (start q w n : ℕ) → n ≡ start + w - start → start + w ≤ length xs → length lead ≡ w → q + 1 < w → length ys ≡ w → lead ≡ row
    → AreNarrowNumbers row → length row ≡ w
    → IsOwnFreed q (length (take n (drop start xs)) - 1) (length (take n (drop start xs))) (at (take n (drop start xs))) (at ys)
    → IsLeadOf (at ys) (at row) (w - 1) (length ys) → IsRowLed (λ j. at xs (start + j)) (at lead) q (length lead - 1) (length lead)
taken xs ys row lead start q w n e h long qw yl same narrow rl of u =
    let part = take n (drop start xs) in
    let O : ℕ → Type 0 = λ k. IsOwnFreed q (k - 1) k (at part) (at ys) in
    let f = subst O (part_long xs start w n e h) of in
    let put : (k : ℕ) → k < w → at part k ≡ at xs (start + k) = λ k l. at_part xs start n k (omega arith) in
    let freed : IsOwnFreed q (w - 1) w (λ j. at xs (start + j)) (at ys) = record {
      spare = f.spare ∙ put q (omega arith);
      own = f.own ∙ put (w - 1) (omega arith);
      slot = λ up. f.slot up ∙ put 0 (omega arith);
      others = λ k l up nq nb. f.others k l up nq nb ∙ put k l;
    } in
    let W : ℕ → Type 0 = λ k. IsLeadOf (at ys) (at row) (w - 1) k in
    let led : IsLeadOf (at ys) (at row) (w - 1) w = subst W yl u in
    let V : ℕ → Type 0 = λ k. IsRowLed (λ j. at xs (start + j)) (at lead) q (k - 1) k in
    let L : List ℤ → Type 0 = λ x. IsRowLed (λ j. at xs (start + j)) (at x) q (w - 1) w in
    subst V (sym long) (subst L (sym same) (record { row = (at ys, freed, led); narrow = λ k l. narrow k (omega arith) }))

pub take_row-requires : goal.take_row-requires
take_row-requires c = grind (arith, common_steps)

pub returns : goal.returns
returns c = record {
  same = grind (arith, common_steps);
  taken = let w = length c.args.lead.now in let s = c.args.start in
      let rl : length c.take_row.new.row ≡ w = omega (
        arith,
        c.take_row.auto.row,
        c.free_own.auto.row,
        part_long c.args.numbers.now s w (s + w - s) refl
            c.requires.inside,
      ) in
      taken c.args.numbers.now c.free_own.new.row c.take_row.new.row c.take_row.new.lead s c.args.q w (s + w - s) refl c.requires.inside c.take_row.auto.lead
      c.requires.place (omega (arith, c.free_own.auto.row, part_long c.args.numbers.now s w (s + w - s) refl c.requires.inside)) c.take_row.ensures.same
      c.take_row.ensures.narrow rl c.free_own.ensures.freed c.take_row.ensures.taken;
  support = grind arith;
  others = λ k h.
      let w = length c.args.lead.now in let s = c.args.start in let n = s + w - s in
      let long : length c.take_row.new.row ≡ n = omega (
        arith,
        c.take_row.auto.row,
        c.free_own.auto.row,
        part_long c.args.numbers.now s w n refl
            c.requires.inside,
      ) in
      others_put c.args.numbers.now c.take_row.new.row s w n refl c.requires.inside long k
      (⊎_elim (λ l. inl l) (λ l. inr (omega (arith, c.take_row.auto.lead))) h);
  narrow = λ k h.
      let w = length c.args.lead.now in let s = c.args.start in let n = s + w - s in let xs = c.args.numbers.now in let ys = c.take_row.new.row in
      let long : length ys ≡ n = omega (arith, c.take_row.auto.row, c.free_own.auto.row, part_long xs s w n refl c.requires.inside) in
      let inside : s + n ≤ length xs = omega (arith, c.requires.inside) in
      narrow_put xs ys s n long inside c.requires.narrow c.take_row.ensures.narrow k (omega (arith, h, length_put xs ys s n long inside));
}
