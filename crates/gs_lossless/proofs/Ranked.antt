-- Seats whose levels are made their ranks, one after another.
use Rattle.std.proofs.Common.{◌≡◌, ◌+◌, ◌<◌, ◌≤◌, ◌∙◌, ℕ, List, get_or, length, set, refl, sym, ap, subst, arith, below_more, length-set}
use Rattle.std.proofs.lemmas.List.{ext_get_or, get_or-map, get_or-set_other, get_or-set_same, length-map}
use Rattle.std.specs.List.Sorted.{IsNonDecreasingBy}
use Rattle.gs_lossless.specs.{Boards.{levels_in, ranked, ranked_in, smaller}, declared.board.Seat.{Seat}}
use Rattle.gs_lossless.proofs.{Ranks.{IsRanked, ranked_above, ranked_again, ranked_none}, Seats.{ascending_in, none}}

-- the first seats have their ranks, the others their levels
pub record AreRanked (seats : List Seat) (n : ℕ) (now : List Seat) (rank above : ℕ) : Type 0 where
  pub last : IsRanked (levels_in seats) n rank above
  pub long : length now ≡ length seats
  pub before : (k : ℕ) → k < n → get_or now k none ≡ ranked_in seats (get_or seats k none)
  pub after : (k : ℕ) → n ≤ k → get_or now k none ≡ get_or seats k none

pub start_ranked : (seats : List Seat) → AreRanked seats 0 seats 0 0
start_ranked seats = record { last = ranked_none (levels_in seats); long = refl; before = λ k l. absurd (omega arith); after = λ k l. refl }

module _ (seats : List Seat) (up : IsNonDecreasingBy (λ (s : Seat). s.level) seats) (n : ℕ) (l : n
    < length seats) (now : List Seat) (rank above : ℕ) (h : AreRanked seats n now rank above) where
  abbrev zs : List ℕ
  zs = levels_in seats

  level_was : get_or zs n 0 ≡ (get_or seats n none).level
  level_was = get_or-map (λ (s : Seat). s.level) seats n none 0 l

  within : n < length zs
  within = omega (arith, l, length-map seats (λ (s : Seat). s.level))

  pub level_is : get_or zs n 0 ≡ (get_or now n none).level
  level_is = level_was ∙ ap (λ (s : Seat). s.level) (sym (h.after n (omega arith)))

  one_more : (next : ℕ) → IsRanked zs (n + 1) next (get_or zs n 0) → AreRanked seats (n + 1) (set now n (let s : Seat =
      record { level = next; signal = (get_or now n none).signal } in s)) next (get_or zs n 0)
  one_more next r =
      let new : Seat = record { level = next; signal = (get_or now n none).signal } in
      let at : n < length now = omega (arith, l, h.long) in
      let rank_is : next ≡ smaller (get_or seats n none).level zs = r.rank_is ∙ ap (λ a. smaller a zs) level_was in
      let is : new ≡ ranked_in seats (get_or seats n none) =
      ap (λ (k : ℕ). (let s : Seat = record { level = k; signal = (get_or now n none).signal } in s)) rank_is
      ∙ ap (λ (x : Seat). (let s : Seat = record { level = smaller (get_or seats n none).level zs; signal = x.signal } in s)) (h.after n (omega arith)) in
      record {
        last = r;
        long = length-set now n new ∙ h.long;
        before = below_more (λ (k : ℕ). get_or (set now n new) k none ≡ ranked_in seats (get_or seats k none)) n
            (λ k m. get_or-set_other now n k new none (λ e. absurd (omega (arith, e, m))) ∙ h.before k m)
            (get_or-set_same now n new none at ∙ is);
        after = λ k m. get_or-set_other now n k new none (λ e. absurd (omega (arith, e, m))) ∙ h.after k (omega (arith, m));
      }

  -- a stronger seat
  pub more_ranked : above < get_or zs n 0 → AreRanked seats (n + 1) (set now n (let s : Seat = record { level = n; signal = (get_or now n none).signal } in
      s)) n (get_or zs n 0)
  more_ranked more = one_more n (ranked_above zs (ascending_in seats up) n within rank above h.last more)

  -- one that is as strong
  pub more_again : get_or zs n 0 ≤ above → AreRanked seats (n + 1) (set now n (let s : Seat = record { level = rank; signal = (get_or now n none).signal } in
      s)) rank above
  more_again less =
      let there : above ≤ get_or zs n 0 = h.last.rest n (omega arith) within in
      let same : get_or zs n 0 ≡ above = omega (arith, less, there) in
      subst (AreRanked seats (n + 1) (set now n (let s : Seat = record { level = rank; signal = (get_or now n none).signal } in s)) rank) same
      (one_more rank (ranked_again zs (ascending_in seats up) n within rank above h.last less))

-- all
pub all_ranked : (seats : List Seat) (n : ℕ) (now : List Seat) (rank above : ℕ) → length seats ≤ n → AreRanked seats n now rank above → now ≡ ranked seats
all_ranked seats n now rank above l h =
    ext_get_or none now (ranked seats) (h.long ∙ sym (length-map seats (ranked_in seats))) (λ i m.
    let in' : i < length seats = omega (arith, m, h.long) in
    h.before i (omega (arith, in', l)) ∙ sym (get_or-map (ranked_in seats) seats i none none in'))
