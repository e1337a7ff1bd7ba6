-- Turns of play with best answers converge: Robinson's theorem at the matrix game of pure plans.
use Rattle.std.proofs.{Common.{◌≡◌, ℕ, zero, suc, ◌+◌, ◌*◌, ◌<◌, ◌≤◌, ap, ◌∙◌, arith}, lemmas.Int.{ints}}
use Rattle.std.specs.Prelude.{ℤ, pos, ◌+ℤ◌, ◌-ℤ◌, ◌*ℤ◌, ◌≤ℤ◌}
use Rattle.std.proofs.Math.{IntN.{pos-*ℤ-pos}}
use Rattle.gs_model.proofs.{Ranges.{in_range}, Walked.{walked_one, walked_two}, Exchanged.{exchanged_one}}
use Rattle.gs_model.proofs.Total.{mul-add_right}
use Rattle.gs_converge.proofs.Answered.{answer_is_raw, first_paid, second_paid, turns_are_best}
use Rattle.gs_converge.specs.BestTurns.{IsBestAnswer, AreBestTurns}
use Rattle.gs_model.specs.{Classes.{ClassLists, IsClasses}, Frame.{Frame, frame_of, total_weight}}
use Rattle.gs_model.specs.{FrameFacts.{InRange, IsWalked, IsExchanged}, Payoff.{raw_payoff}, Plans.{Plan, IsRawPlan, lift}}
use Rattle.gs_model.specs.{Play.{IsPlanSum}, Verdict.{IsVerdict}}
use Rattle.gs_converge.proofs.{Gaps.{gaps_at_most, mul-sub_right}, Numbers.{ends_add}, Payoffs.{first_adds, second_adds, stakes}}
use Rattle.gs_converge.proofs.Pure.{HasMoves, number_of, number_in, pure_count}
use Rattle.gs_converge.proofs.Traced.{raw_at_most, raw_at_least, entry, is_matrix, trace, first_is_row, second_is_column, first_pure, second_pure}
use Rattle.gs_converge.specs.Laws.{AreTogetherAtMost, BestTurnsConverge, GapsConverge, PlayConverges}
use Rattle.gs_robinson.proofs.Converged.{turns_converge_from}
use Rattle.gs_robinson.specs.Matrix.{AreTurns, IsMatrix, IsWithin}

module _ (f : Frame) (lists : ClassLists) (r : InRange f) (w1 : IsWalked f 1) (w2 : IsWalked f 2) (ex : IsExchanged f 1) (k : IsClasses f.parents lists) where
  -- what both best answers before the last turn are paid bounds every raw plan after it
  above_first : (x y y' bx by : Plan) → IsBestAnswer f lists 1 (lift f lists y') bx → IsBestAnswer f lists 2 (lift f lists x) by
      → IsPlanSum f lists 2 y' by y → (z : Plan) → IsRawPlan f 1 z
      → raw_payoff f z (lift f lists y) ≤ℤ (pos z.total *ℤ (raw_payoff f (lift f lists bx) (lift f lists y') +ℤ pos (stakes f r)))
  above_first x y y' bx by b1 b2 s z raw =
      let best = raw_payoff f (lift f lists bx) (lift f lists y') in
      let most = first_paid f lists (lift f lists y') bx b1 z raw in
      let few = raw_at_most f lists r w1 w2 ex k z (lift f lists by) raw (answer_is_raw f lists 2 (lift f lists x) by w2 k b2) in
      let one : z.total * by.total * stakes f r ≡ z.total * stakes f r = ap (λ n. z.total * n * stakes f r) b2.one ∙ omega arith in
      let sum = second_adds f r z (lift f lists y') (lift f lists by) (lift f lists y) (ends_add f lists 2 r w2 k y' by y s) in
      let right = mul-add_right (pos z.total) best (pos (stakes f r)) in
      let scaled = pos-*ℤ-pos z.total (stakes f r) in
      joined (raw_payoff f z (lift f lists y)) (raw_payoff f z (lift f lists y')) (raw_payoff f z (lift f lists by)) (pos z.total *ℤ best)
      (pos z.total *ℤ pos (stakes f r)) (pos z.total *ℤ (best +ℤ pos (stakes f r))) (z.total * by.total * stakes f r) (z.total * stakes f r)
      sum most few one right scaled
    where
      joined : (p q o m s t : ℤ) (i j : ℕ) → p ≡ q +ℤ o → q ≤ℤ m → o ≤ℤ pos i → i ≡ j → t ≡ m +ℤ s → s ≡ pos j → p ≤ℤ t
      joined p q o m s t i j h1 h2 h3 h4 h5 h6 = omega (arith, ints)

  below_second : (x x' y bx by : Plan) → IsBestAnswer f lists 1 (lift f lists y) bx → IsBestAnswer f lists 2 (lift f lists x') by
      → IsPlanSum f lists 1 x' bx x → (z : Plan) → IsRawPlan f 2 z
      → (pos z.total *ℤ (raw_payoff f (lift f lists x') (lift f lists by) -ℤ pos (stakes f r))) ≤ℤ raw_payoff f (lift f lists x) z
  below_second x x' y bx by b1 b2 s z raw =
      let best = raw_payoff f (lift f lists x') (lift f lists by) in
      let least = second_paid f lists (lift f lists x') by ex b2 z raw in
      let few = raw_at_least f lists r w1 w2 ex k (lift f lists bx) z (answer_is_raw f lists 1 (lift f lists y) bx w1 k b1) raw in
      let one : bx.total * z.total * stakes f r ≡ z.total * stakes f r = ap (λ n. n * z.total * stakes f r) b1.one ∙ omega arith in
      let sum = first_adds f r (lift f lists x') (lift f lists bx) (lift f lists x) z (ends_add f lists 1 r w1 k x' bx x s) in
      let right = mul-sub_right z.total best (pos (stakes f r)) in
      let scaled = pos-*ℤ-pos z.total (stakes f r) in
      joined (raw_payoff f (lift f lists x) z) (raw_payoff f (lift f lists x') z) (raw_payoff f (lift f lists bx) z) (pos z.total *ℤ best)
      (pos z.total *ℤ pos (stakes f r)) (pos z.total *ℤ (best -ℤ pos (stakes f r))) (bx.total * z.total * stakes f r) (z.total * stakes f r)
      sum least few one right scaled
    where
      joined : (p q o m s t : ℤ) (i j : ℕ) → p ≡ q +ℤ o → m ≤ℤ q → pos 0 ≤ℤ (o +ℤ pos i) → i ≡ j → t ≡ m -ℤ s → s ≡ pos j → t ≤ℤ p
      joined p q o m s t i j h1 h2 h3 h4 h5 h6 = omega (arith, ints)

  module _ (weighs : 0 < total_weight f) (p q : ℕ) (some : 0 < p) where
    -- when the matrix game has converged
    converged : (T : ℕ) × ((turns : ℕ) (A U V : ℕ → ℕ → ℤ) (row column : ℕ → ℕ) → IsMatrix (stakes f r) (pure_count f lists) (pure_count f lists) A
        → AreTurns (pure_count f lists) (pure_count f lists) turns A U V row column → IsWithin (pure_count f lists) (pure_count f lists) U V 0 (2 * stakes f r)
        → (t : ℕ) → T ≤ t → t ≤ turns → (h : ℕ) × (2 * q * h ≤ t) × IsWithin (pure_count f lists) (pure_count f lists) U V t h)
    converged = turns_converge_from (pure_count f lists) (pure_count f lists) (stakes f r) (2 * q) (2 * stakes f r)

    small : (h n M : ℕ) → 2 * q * h ≤ n → 4 * (q * stakes f r) ≤ n → n ≤ M → q * (h + 2 * stakes f r) ≤ p * (total_weight f * M)
    small h n M a b c =
        let d = at_least (total_weight f) M weighs in let e = at_least p (total_weight f * M) some in omega arith
      where
        at_least : (p t : ℕ) → 0 < p → t ≤ p * t
        at_least zero t h = absurd (omega arith)
        at_least (suc p) t h = omega arith

    after_turn : (n : ℕ) (x y : Plan) (value gap1 gap2 : ℤ × ℕ) → converged.0 ≤ n → 4 * (q * stakes f r) ≤ n → AreBestTurns f lists (suc n) x y
        → IsVerdict f (lift f lists x) (lift f lists y) value gap1 gap2 → AreTogetherAtMost gap1 gap2 p q
    after_turn n x y value gap1 gap2 late much (x', y', bx, by, before, b1, b2, s1, s2) v =
        let h1 : HasMoves f lists 1 = λ q c lq hp lc. (let l = b1.in_range q c lq hp lc in omega arith) in
        let h2 : HasMoves f lists 2 = λ q c lq hp lc. (let l = b2.in_range q c lq hp lc in omega arith) in
        let t = trace f lists r w1 w2 ex k h1 h2 n x' y' before in
        let e1 = raw_payoff f (lift f lists bx) (lift f lists y') in
        let e2 = raw_payoff f (lift f lists x') (lift f lists by) in
        let near = converged.1 n (entry f lists r w1 w2 ex k h1 h2) t.U t.V t.row t.column (is_matrix f lists r w1 w2 ex k h1 h2) t.turns t.start n late
        (omega arith) in
        let row = number_of f lists b1.move in let column = number_of f lists b2.move in
        let close = near.2 row column (number_in f lists b1.move) (number_in f lists b2.move) in
        let i1 = t.rows row in let i2 = t.columns column in
        let j1 = first_is_row f lists r w1 w2 ex k h1 h2 (lift f lists y') y' bx b1 in
        let j2 = second_is_column f lists r w1 w2 ex k h1 h2 x' (lift f lists x') by b2 in
        let apart = joined (t.V n row) (t.U n column) (raw_payoff f (first_pure f lists r w1 w2 ex k h1 h2 row) (lift f lists y'))
        (raw_payoff f (lift f lists x') (second_pure f lists r w1 w2 ex k h1 h2 column)) e1 e2 near.0 (stakes f r) close i1 i2 j1 j2 in
        let z1 = v.first_gap.some_reaches in let z2 = v.second_gap.some_reaches in
        let t1 = s1.total in let o1 = b1.one in let f1 = t.first_total in
        let t2 = s2.total in let o2 = b2.one in let f2 = t.second_total in
        gaps_at_most (total_weight f) x.total y.total (near.0 + 2 * stakes f r) p q gap1.1 gap2.1 z1.0.total z2.0.total gap1.0 gap2.0
        (raw_payoff f (lift f lists x) (lift f lists y)) (raw_payoff f z1.0 (lift f lists y)) (raw_payoff f (lift f lists x) z2.0)
        (e1 +ℤ pos (stakes f r)) (e2 -ℤ pos (stakes f r)) weighs (omega arith) (omega arith) z1.1.some z2.1.some z1.2 z2.2
        (above_first x' y y' bx by b1 b2 s2 z1.0 z1.1) (below_second x x' y' bx by b1 b2 s1 z2.0 z2.1) apart
        (small near.0 n x.total near.1 much (omega arith))
      where
        joined : (v u a b e1 e2 : ℤ) (h s : ℕ) → v ≤ℤ (u +ℤ pos h) → v ≡ a → u ≡ b → e1 ≡ a → e2 ≡ b → (e1 +ℤ pos s) ≤ℤ ((e2 -ℤ pos s) +ℤ pos (h + 2 * s))
        joined v u a b e1 e2 h s h1 h2 h3 h4 h5 = omega (arith, ints)

pub best_turns_converge : BestTurnsConverge
best_turns_converge f lists r w1 w2 ex k weighs p q some = (
  suc ((converged f lists r w1 w2 ex k weighs p q some).0 + 4 * (q * stakes f r)),
  λ n x y value gap1 gap2 late play v.
      by_turns n x y value gap1 gap2 (omega arith) (omega arith) (omega arith) play v,
)
  where
    by_turns : (n : ℕ) (x y : Plan) (value gap1 gap2 : ℤ × ℕ) → 0 < n → (converged f lists r w1 w2 ex k weighs p q some).0 < n
        → 4 * (q * stakes f r) < n → AreBestTurns f lists n x y
        → IsVerdict f (lift f lists x) (lift f lists y) value gap1 gap2 → AreTogetherAtMost gap1 gap2 p q
    by_turns zero x y value gap1 gap2 more late much play v = absurd (omega arith)
    by_turns (suc n) x y value gap1 gap2 more late much play v =
        after_turn f lists r w1 w2 ex k weighs p q some n x y value gap1 gap2 (omega arith) (omega arith) play v

pub play_converges : PlayConverges
play_converges f lists r w1 w2 ex k g weighs p q some =
    let done = best_turns_converge f lists r w1 w2 ex k weighs p q some in
    (done.0, λ n x y value gap1 gap2 late play v. done.1 n x y value gap1 gap2 late (turns_are_best f lists r w1 w2 k g n x y play) v)

pub gaps_converge : GapsConverge
gaps_converge g lists h k lossless weighs p q some =
    play_converges (frame_of g) lists (in_range g h) (walked_one g h) (walked_two g h) (exchanged_one g) k lossless weighs p q some
