use Rattle.std.proofs.lemmas.Grind.{common_steps}
use Rattle.std.proofs.Common.{◌≡◌, ◌⊎◌, ℕ, ◌+◌, ◌*◌, ◌<◌, ◌≤◌, ℤ, List, refl, sym, arith, below_more}
use Rattle.gs_simplex.specs.Numbers.{at, cell, IsDivided}
use Rattle.gs_simplex.proofs.Places.{divided_same, row_stays, rows_left}
use Rattle.gs_simplex.proofs.start.divide_rows.Goals as goal

module _ (old now new : List ℤ) (w i : ℕ) (some : 0 < w) (done : (h : ℕ) → h < i → IsDivided w (cell old w h) (cell now w h))
    (left : (h : ℕ) → i ≤ h → (j : ℕ) → j < w → cell now w h j ≡ cell old w h j)
    (others : (k : ℕ) → (k < i * w) ⊎ (i * w + w ≤ k) → at new k ≡ at now k) (here : IsDivided w (cell now w i) (cell new w i)) where
  done_more : (h : ℕ) → h < i + 1 → IsDivided w (cell old w h) (cell new w h)
  done_more = below_more (λ h. IsDivided w (cell old w h) (cell new w h)) i
      (λ h l. divided_same w (cell old w h) (cell old w h) (cell now w h) (cell new w h) some (λ j jw. refl)
      (λ j jw. sym (row_stays now new w i others h (λ e. omega arith) j jw)) (done h l))
      (divided_same w (cell now w i) (cell old w i) (cell new w i) (cell new w i) some (λ j jw. left i (omega arith) j jw) (λ j jw. refl) here)

pub loop-i-preserved : goal.loop-i-preserved
loop-i-preserved c =
    let v = c.loop-i.invariant in
    let old = c.args.numbers.now in let now = c.loop-i.numbers in let new = c.divide_at.new.numbers in
    record {
      done = done_more old now new c.args.width c.loop-i.i c.requires.some v.done v.left c.divide_at.ensures.others c.divide_at.ensures.divided;
      left = rows_left old now new c.args.width c.loop-i.i c.divide_at.ensures.others v.left;
      narrow = c.divide_at.ensures.narrow;
    }

pub divide_at-requires : goal.divide_at-requires
divide_at-requires c = grind (arith, common_steps)

pub loop-i-init : goal.loop-i-init
loop-i-init c = grind arith

pub overflow_mul-i : goal.overflow_mul-i
overflow_mul-i c = grind arith

pub returns-clause-narrow : goal.returns-clause-narrow
returns-clause-narrow c = grind arith
