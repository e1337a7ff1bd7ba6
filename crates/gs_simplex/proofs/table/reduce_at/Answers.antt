use Rattle.std.proofs.Common.{◌≡◌, MatchResult, Result, Ok, Err, ℕ, ◌+◌, ◌-◌, ◌<◌, ◌≤◌, ℤ, length, List, take, drop, refl, sym, subst, ◌∙◌, arith}
use Rattle.std.proofs.lemmas.Grind.{common_steps}
use borrow.Rule.Slice.PartMut.{put_mid}
use Rattle.gs_simplex.specs.{Numbers.{at, AreNarrowNumbers, AllAtMost, IsAtMost, IsMixed, IsWideReduced}, Columns.{IsSlotFreed, IsRowCleared}}
use Rattle.gs_simplex.proofs.Places.{at_part, part_long, length_put, at_put_inside, narrow_put, multiple_same, at_most_same, others_put}
use Rattle.gs_simplex.proofs.table.reduce_at.Goals.{After-free_slot}
use Rattle.gs_simplex.proofs.table.reduce_at.Goals as goal

-- what was freed in a part is freed in the whole
freed_whole : (xs ys : List ℤ) (start q w n : ℕ) → n ≡ start + w - start → start + w ≤ length xs → q + 1 < w
    → IsSlotFreed q (length (take n (drop start xs)) - 1) (length (take n (drop start xs))) (at (take n (drop start xs))) (at ys)
    → IsSlotFreed q (w - 1) w (λ j. at xs (start + j)) (at ys)
freed_whole xs ys start q w n e h qw of =
    let part = take n (drop start xs) in
    let O : ℕ → Type 0 = λ k. IsSlotFreed q (k - 1) k (at part) (at ys) in
    let f = subst O (part_long xs start w n e h) of in
    let put : (k : ℕ) → k < w → at part k ≡ at xs (start + k) = λ k l. at_part xs start n k (omega arith) in
    record {
      slot = λ up. record {
        first = (f.slot up).first ∙ put (w - 1) (omega arith);
        second = (f.slot up).second ∙ put q (omega arith);
        others = λ k l nq nb. (f.slot up).others k l nq nb ∙ put k l;
      };
      none = λ z k l. f.none z k l ∙ put k l;
    }

-- the row after its slot was freed
freed_here : (c : After-free_slot) → IsSlotFreed c.args.q c.args.lead.now.column (length c.args.lead.now.numbers.now)
    (λ j. at c.args.numbers.now (c.args.start + j)) (at c.free_slot.new.row)
freed_here c =
    let w = length c.args.lead.now.numbers.now in let s = c.args.start in let n = s + w - s in let xs = c.args.numbers.now in
    let B : ℕ → Type 0 = λ b. IsSlotFreed c.args.q b w (λ j. at xs (s + j)) (at c.free_slot.new.row) in
    let e : w - 1 ≡ c.args.lead.now.column = omega (arith, c.requires.spare) in
    subst B e (freed_whole xs c.free_slot.new.row s c.args.q w n refl c.requires.inside (omega (arith, c.requires.spare, c.requires.place))
    c.free_slot.ensures.freed)

pub reduce_row-requires-clause-bound : goal.reduce_row-requires-clause-bound
reduce_row-requires-clause-bound c =
    let xs = c.args.numbers.now in let w = length c.args.lead.now.numbers.now in let s = c.args.start in let n = s + w - s in
    let P : ℕ → Type 0 = λ k. IsAtMost k (at (take n (drop s xs))) c.args.top in
    c.free_slot.ensures.bound c.args.top (subst P (sym (part_long xs s w n refl c.requires.inside))
    (at_most_same w c.args.top (λ j. at xs (s + j)) (at (take n (drop s xs))) (λ j h. sym (at_part xs s n j (omega arith))) c.requires.bound))

pub reduce_row-requires-clause-support : goal.reduce_row-requires-clause-support
reduce_row-requires-clause-support c =
    let w = goal.at.reduce_row-requires-clause-support c in c.requires.live (at c.free_slot.new.row) (freed_here w.After-free_slot)

-- the row as it was put back
answer : (lead xs mid ys mixed : List ℤ) (start q c n : ℕ) (r : Result ℕ ℕ) → n ≡ start + length lead - start → start + length lead ≤ length xs
    → length ys ≡ n → AreNarrowNumbers xs → IsSlotFreed q c (length lead) (λ j. at xs (start + j)) (at mid)
    → MatchResult r (λ most. IsMixed (at lead) c (length lead) (at mid) (at ys) × AreNarrowNumbers ys × AllAtMost ys most)
    (λ by. IsWideReduced (at lead) c (length lead) (at mid) mixed by)
    → length (put_mid start n xs ys) ≡ length xs
    → MatchResult r (λ most. IsRowCleared (at lead) q c (length lead) (λ j. at xs (start + j)) (λ j. at (put_mid start n xs ys) (start + j))
    × AreNarrowNumbers (put_mid start n xs ys) × IsAtMost (length lead) (λ j. at (put_mid start n xs ys) (start + j)) most)
    (λ by. (m : ℕ → ℤ) × (IsSlotFreed q c (length lead) (λ j. at xs (start + j)) m) × IsWideReduced (at lead) c (length lead) m mixed by)
answer lead xs mid ys mixed start q c n (Ok most) e h long nx of u same =
    let put : (j : ℕ) → j < length lead → at ys j ≡ at (put_mid start n xs ys)
    (start + j) = λ j l. sym (at_put_inside xs ys start n j (omega arith) long (omega arith)) in (
      record {
        row = (
          at mid,
          of,
          multiple_same (length lead) (Rattle.gs_simplex.specs.Numbers.cleared_by (at lead) c (at mid))
              (Rattle.gs_simplex.specs.Numbers.cleared_by (at lead) c (at mid)) (at ys) (λ j. at (put_mid start n xs ys) (start + j)) (λ j l. refl) put u.0,
        );
      },
      λ k l. narrow_put xs ys start n long (omega arith) nx u.1 k (omega arith),
      at_most_same (length lead) most (at ys) (λ j. at (put_mid start n xs ys) (start + j)) put (λ j l. u.2 j (omega arith)),
    )
answer lead xs mid ys mixed start q c n (Err by) e h long nx of u same = (at mid, of, u)

pub returns : goal.returns
returns c = record {
  others = let w = length c.args.lead.now.numbers.now in let s = c.args.start in let n = s + w - s in
      others_put c.args.numbers.now c.reduce_row.new.row s w n refl c.requires.inside
      (omega (arith, c.reduce_row.auto.row, c.free_slot.auto.row, part_long c.args.numbers.now s w n refl c.requires.inside));
  answer = let k = goal.at.returns c in
      let w = length c.args.lead.now.numbers.now in let s = c.args.start in let n = s + w - s in
      let long : length c.reduce_row.new.row ≡ n = omega (
        arith,
        c.reduce_row.auto.row,
        c.free_slot.auto.row,
        part_long c.args.numbers.now s w n refl
            c.requires.inside,
      ) in
      answer c.args.lead.now.numbers.now c.args.numbers.now c.free_slot.new.row c.reduce_row.new.row c.reduce_row.new.mixed s c.args.q c.args.lead.now.column n
      c.reduce_row.result refl c.requires.inside long c.requires.narrow (freed_here k.After-free_slot) c.reduce_row.ensures
      (length_put c.args.numbers.now c.reduce_row.new.row s n long (omega (arith, c.requires.inside)));
}

pub free_slot-requires-clause-narrow : goal.free_slot-requires-clause-narrow
free_slot-requires-clause-narrow c = grind (arith, common_steps)
