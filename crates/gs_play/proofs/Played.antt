-- Turns in which the answers stay: by class totals that are settled, the answer by their choices is the first best one as long as nothing is due.
use Rattle.std.proofs.{Common.{◌≡◌, ℕ, zero, suc, ◌+◌, ◌-◌, ◌*◌, ◌<◌, ◌≤◌, Bool, true, false, cond, refl, ap, ◌∙◌, arith}, Math.IntN.{*ℤ_comm}}
use Rattle.std.specs.Prelude.{◌==◌, length, slice_index, ℤ, pos, ◌+ℤ◌, ◌-ℤ◌, ◌*ℤ◌}
use Rattle.std.proofs.lemmas.Int.{ints}
use Rattle.gs_model.specs.{BestAnswers.{Values}, Classes.{ClassLists, IsClass, IsClasses}}
use Rattle.gs_model.specs.Frame.{Frame, end_count, other_player, payoff_to, point_count, round_of}
use Rattle.gs_model.specs.{FrameFacts.{InRange, IsWalked}, Lossless.{IsLossless}, Plans.{Plan}, Positions.{at_point}}
use Rattle.gs_model.proofs.Total.{mul-add_right}
use Rattle.gs_seq.specs.Payoffs.{end_sum}
use Rattle.gs_best.specs.Tables.{AreInMoves, classes_at, moves_of, start_of}
use Rattle.gs_best.proofs.{Placed.{place_inside}, TotalAnswers.{chosen_is_best}}
use Rattle.gs_play.specs.{Jumps.{line}, PlanSums.{ArePlansAlike}, Answers.{HasAnswer, answer_plan, plan_after}, declared.answers.Answer.{Answer}}
use Rattle.gs_play.proofs.{JumpLaws.{best_alike, tables_after}, SumLaws.{end_plus, kept_alike}, Alike.{tally_same}, Settled.{AreLinesSettled, best_after}}
use Rattle.gs_play.specs.{Tallies.{HasTallyRoom, IsTally, slopes_of, zeros_of}, declared.tally.Tally.{Tally}}
use Rattle.gs_play.proofs.{Settling.{all_settled}, Jumps.{AnswerStays}, SumLaws.{ArePaid, plus_times}, Taken.{PutsAll}}

-- ---- the plan so far

-- some turns later each move that is taken has as many more
pub plan_later : (f : Frame) (lists : ClassLists) (player now k : ℕ) (a : Answer) → HasAnswer f lists player now a
    → ArePlansAlike f lists player (plan_after f lists a (now + k)) (plus_times (plan_after f lists a now) k (answer_plan f lists a))
plan_later f lists player now k a h = record {
  total = omega arith;
  numbers = λ q c m lq own lc lm. more (m == moves_of f lists a.taken.items q c) _ (moves_of f lists a.since.items q c)
      (h.begun (start_of f lists q + (c - 1)));
}
  where
    more : (t : Bool) (w s : ℕ) → s ≤ now → w + cond t (now + k - s) 0 ≡ (w + cond t (now - s) 0) + k * cond t 1 0
    more true w s l = omega (arith, l)
    more false w s l = omega arith

-- where an answer is taken from turn 0 on, the plan of turn 1 is the answer
pub plan_first : (f : Frame) (lists : ClassLists) (player : ℕ) (a : Answer) → HasAnswer f lists player 0 a
    → ArePlansAlike f lists player (plan_after f lists a 1) (answer_plan f lists a)
plan_first f lists player a h = record {
  total = refl;
  numbers = λ q c m lq own lc lm. once (m == moves_of f lists a.taken.items q c) _ (moves_of f lists a.since.items q c) (h.few q c m lq own lc lm)
      (h.begun (start_of f lists q + (c - 1)));
}
  where
    once : (t : Bool) (w s : ℕ) → w ≤ s → s ≤ 0 → w + cond t (1 - s) 0 ≡ cond t 1 0
    once true w s l none = omega (arith, l, none)
    once false w s l none = omega (arith, l, none)

-- ---- what ends pay

back : (x s : ℤ) (now : ℕ) → line (x -ℤ pos now *ℤ s) s now ≡ x
back x s now = omega (arith, ints)

-- in turn 0 an end pays the same by lines that are known in a later turn
end_stays : (f : Frame) (lists : ClassLists) (player : ℕ) (y b : Plan) (now k z c : ℕ)
    → end_sum f lists player (plus_times y k b) z c -ℤ pos (now + k) *ℤ end_sum f lists player b z c
    ≡ end_sum f lists player y z c -ℤ pos now *ℤ end_sum f lists player b z c
end_stays f lists player y b now k z c =
    let s = end_sum f lists player b z c in
    let whole : pos (now + k) ≡ pos now +ℤ pos k = omega (arith, ints) in
    let split : pos (now + k) *ℤ s ≡ pos now *ℤ s +ℤ pos k *ℤ s =
    *ℤ_comm (pos (now + k)) s ∙ ap (λ x. s *ℤ x) whole ∙ mul-add_right s (pos now) (pos k) ∙ ap (λ x. x +ℤ s *ℤ pos k) (*ℤ_comm s (pos now))
    ∙ ap (λ x. pos now *ℤ s +ℤ x) (*ℤ_comm s (pos k)) in
    let e = end_plus f lists player y b k z c in
    omega (arith, ints, split, e)

module _ (f : Frame) (r : InRange f) (lists : ClassLists) (k : IsClasses f.parents lists) (player : ℕ) (w : IsWalked f player)
    (v : IsWalked f (other_player player)) where
  -- ends pay the same against plans that are alike
  pub end_alike : (x y : Plan) → ArePlansAlike f lists (other_player player) x y → (z c : ℕ) → z < end_count f
      → end_sum f lists player x z c ≡ end_sum f lists player y z c
  end_alike x y a z c lz = kept_alike f r lists k (other_player player) v (payoff_to f player z) x y a z c lz

  -- class totals are those of a later turn as well
  pub faces_later : (y b z : Plan) (now times later : ℕ) (t : Tally) → later ≡ now + times
      → ArePlansAlike f lists (other_player player) z (plus_times y times b)
      → IsTally f lists player (end_sum f lists player y) (end_sum f lists player b) now t
      → IsTally f lists player (end_sum f lists player z) (end_sum f lists player b) later t
  faces_later y b z now times later t e a h =
      tally_same f lists player w (end_sum f lists player y) (end_sum f lists player b) (end_sum f lists player z) (end_sum f lists player b) now later
      (λ n c lz lc. ap (λ x. x -ℤ pos later *ℤ end_sum f lists player b n c) (end_alike z (plus_times y times b) a n c lz)
      ∙ ap (λ (m : ℕ). end_sum f lists player (plus_times y times b) n c -ℤ pos m *ℤ end_sum f lists player b n c) e
      ∙ end_stays f lists player y b now times n c)
      (λ n c lz lc. refl) t (omega (arith, e)) h

  -- those that are 0 in turn 0 are the ones of turn 1, if the plan of turn 1 is the one that each turn adds
  pub faces_first : (b z : Plan) (t : Tally) → ArePlansAlike f lists (other_player player) z b
      → IsTally f lists player (λ n c. pos 0) (end_sum f lists player b) 0 t → IsTally f lists player (end_sum f lists player z) (end_sum f lists player b) 1 t
  faces_first b z t a h =
      tally_same f lists player w (λ n c. pos 0) (end_sum f lists player b) (end_sum f lists player z) (end_sum f lists player b) 0 1
      (λ n c lz lc. let e = end_alike z b a n c lz in omega (arith, ints, e)) (λ n c lz lc. refl) t (omega arith) h

  -- ---- answers

  module _ (lossless : IsLossless f lists) (y b : Plan) (now : ℕ) (t : Tally) (room : HasTallyRoom f lists t)
      (faces : IsTally f lists player (end_sum f lists player y) (end_sum f lists player b) now t) where
    abbrev Z : Values
    Z = zeros_of f lists (end_sum f lists player y) (end_sum f lists player b) now t.totals.items

    abbrev S : Values
    S = slopes_of f lists (end_sum f lists player b) t.totals.items

    paid : ArePaid f lists player y b Z S now
    paid = record { so_far = λ z c lz lc. back (end_sum f lists player y z c) (end_sum f lists player b z c) now; each = λ z c lz lc. refl }

    module _ (times : ℕ) (some : 0 < times) (least : (n : ℕ) → n < length t.dues.turns.items → now + times ≤ slice_index t.dues.turns.items n) where
      late : (q c : ℕ) → q < point_count f → IsClass lists (round_of f (at_point q)) c → now + times ≤ moves_of f lists t.dues.turns.items q c
      late q c lq lc =
          least (start_of f lists q + (c - 1)) (let p = place_inside (classes_at f lists) (point_count f) q c lq lc in omega (arith, p, room.turns))

      settled : AreLinesSettled f lists player Z S (moves_of f lists t.picks.items) now (now + times)
      settled = all_settled f lists player Z S (moves_of f lists t.picks.items) (moves_of f lists t.dues.turns.items) now (now + times)
          (λ q c lq lc. let l = late q c lq lc in omega (arith, l, some)) late faces.settled

      pub picks_inside : AreInMoves f lists player (moves_of f lists t.picks.items)
      picks_inside q c lq own lc = ((settled q c lq lc).own own).in_range

      -- the answer by the choices stays as long as nothing is due
      pub answer_stays : (answer : Plan) → PutsAll f lists player (moves_of f lists t.picks.items) answer → AnswerStays f lists player y b answer times
      answer_stays answer puts n z soon alike =
          chosen_is_best f r lists k lossless player w z (tables_after Z S (now + n)) (moves_of f lists t.picks.items)
          (best_alike f r lists k player v z (plus_times y n b) alike (tables_after Z S (now + n)) (moves_of f lists t.picks.items)
          (best_after f lists player y b Z S (moves_of f lists t.picks.items) now (now + times) paid settled n (omega (arith, soon)))) answer puts.one puts.puts

-- in its own turn an answer hangs on the other's plan alone; for more turns it is known by what is due later
pub stays_on : (f : Frame) (lists : ClassLists) (player : ℕ) (y b c answer : Plan) (times : ℕ) → AnswerStays f lists player y b answer 1
    → (1 < times → AnswerStays f lists player y c answer times) → AnswerStays f lists player y c answer times
stays_on f lists player y b c answer times once more zero z soon alike = once 0 z (omega arith) (record {
  total = omega (arith, alike.total);
  numbers =
      λ q d m lq own ld lm. omega (arith, alike.numbers q d m lq own ld lm);
})
stays_on f lists player y b c answer times once more (suc n) z soon alike = more (omega (arith, soon)) (suc n) z soon alike
