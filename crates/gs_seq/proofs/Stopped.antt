-- The row of a class of a round before the last, from the deals of its first member where the game stops after the round.
use Rattle.std.proofs.Common.{◌≡◌, ℕ, ℤ, pos, ◌+◌, ◌*◌, ◌<◌, ◌≤◌, ◌^◌, Bool, true, false, cond, List, [], ◌∷◌, length, get_or, map, refl, sym, ap, ◌∙◌, subst}
use Rattle.std.proofs.{Common.{arith, sum_by}, Math.Nat.{mul-div_cancel_left, mul-le-mul_right, mul-le-mul_left}, lemmas.List.Elements.{recursion_from_All}}
use Rattle.std.proofs.lemmas.List.Sums.{sum_by-cons}
use Rattle.std.specs.{Prelude.{◌==◌, ◌/◌, ◌*ℤ◌}, List.{AllByRecursion, range_with_len}, Ordering.{int_eq}, declared.cmp.Ordering.TheVariants.{Less}}
use Rattle.gs_filter.specs.Filter.{Filter}
use Rattle.gs_game.specs.{Games.{game_of}, GoingOn.{StopsAfter, ways_on}, declared.valid.ValidGame.{ValidGame}}
use Rattle.gs_game.proofs.{SomeWays.{some_ways}, StopLaws.{against_stopped, stops_later, stops_signals}}
use Rattle.gs_lossless.specs.{Amounts.{AreAmounts}, Sums.{PartsRise, key_cmp, sum_at, weight_at}, declared.parts.Part.{Part}}
use Rattle.gs_lossless.specs.declared.aspects.Aspect.TheVariants.{Deals}
use Rattle.gs_lossless.proofs.Transfer.{amount_before_last}
use Rattle.gs_model.specs.{Classes.{ClassLists, class_of, class_size, list_of}, Deals.{Deal}, Frame.{at_round, last_round, signal_count, total_weight}}
use Rattle.gs_model.specs.{Game.{round_count}, Lossless.{IsLossless, weight_against}, Signals.{Signal, signals}}
use Rattle.gs_model.proofs.{Ranges.{signal_count_is}, Walked.{last_round_of}, Basics.{sum-same, sum_by-map}}
use Rattle.gs_seq.specs.{Games.{frame_in}, Rows.{IsRow, gathered, join, pair_of}, declared.pair.Pair.{Pair}}
use Rattle.gs_seq.proofs.{Gathered.{gathered-total}, RowFacts.{class_weight, classes_weigh, row_weighs, sum-times}, RowLaws.{is_row, size_is, size_some}}
use Rattle.gs_seq.proofs.{RowRoom.{table}, Singles.{by_keys}, SlotLaws.{over}, SomeDeal.{some_deal}}

-- ---- sums that are so many times as large

abbrev pub times : ℕ → Part → Part
times w p = record p { weight = w * p.weight }

times_out : (a b : Bool) (w n : ℕ) → cond a (cond b (w * n) 0) 0 ≡ w * cond a (cond b n 0) 0
times_out true true w n = refl
times_out true false w n = omega arith
times_out false b w n = omega arith

sum_times : (w : ℕ) (ps : List Part) (c : ℕ) (o : ℤ) → sum_at (map (times w) ps) c o ≡ w * sum_at ps c o
sum_times w ps c o =
    sum_by-map (weight_at c o) (times w) ps
    ∙ sum-same (λ (p : Part). weight_at c o (times w p)) (λ p. w * weight_at c o p) (λ p. times_out (int_eq p.outcome o) (p.class == c) w p.weight) ps
    ∙ sum-times w (weight_at c o) ps

after_times : (w : ℕ) (p : Part) (ps : List Part) → AllByRecursion (λ q. key_cmp p q ≡ Less) ps
    → AllByRecursion (λ q. key_cmp (times w p) q ≡ Less) (map (times w) ps)
after_times w p [] h = tt
after_times w p (q ∷ qs) h = (h.0, after_times w p qs h.1)

rises_times : (w : ℕ) → 0 < w → (ps : List Part) → PartsRise ps → PartsRise (map (times w) ps)
rises_times w some [] h = tt
rises_times w some (p ∷ ps) h =
    let one : 1 ≤ w = omega arith in
    let weight : 0 < w * p.weight = omega (arith, mul-le-mul_right p.weight one, h.0) in
    (weight, after_times w p ps h.1, rises_times w some ps h.2)

gathered_times : (m w : ℕ) (ps : List Part) → gathered m (map (times w) ps) ≡ gathered (m * w) ps
gathered_times m w [] = refl
gathered_times m w (p ∷ ps) =
    let assoc : m * (w * p.weight) ≡ (m * w) * p.weight = omega arith in
    ap (λ (n : ℕ). let q : Pair = record { two = p.class; weight = n; signed = pos n *ℤ p.outcome } in join q (gathered m (map (times w) ps))) assoc
    ∙ ap (join (pair_of (m * w) p)) (gathered_times m w ps)

out : (b : Bool) (w n : ℕ) → w * cond b n 0 ≡ cond b (w * n) 0
out true w n = refl
out false w n = omega arith

module _ (g h : ValidGame) (round : ℕ) (some : 0 < round) (top : round ≤ round_count (game_of g.game))
    (stops : StopsAfter (game_of g.game) round (game_of h.game)) where
  abbrev pub ways : ℕ
  ways = ways_on (game_of g.game) round

  pub later : round < round_count (game_of h.game)
  later = stops_later (game_of g.game) (game_of h.game) round top stops

  pub same_signals : signals (game_of h.game) round ≡ signals (game_of g.game) round
  same_signals = stops_signals (game_of g.game) (game_of h.game) round top stops

  less : round < last_round (frame_in h)
  less = omega (arith, last_round_of (game_of h.game), later)

  -- the round is one of the stopped game
  pub in_stopped : (0 < round) × (round ≤ last_round (frame_in h))
  in_stopped = (some, omega (arith, less))

  pub some_on : 0 < ways
  some_on = some_ways (game_of g.game) round g.accepted

  goes_on : (lists others : ClassLists) → list_of others round ≡ list_of lists round → (s c : ℕ)
      → weight_against (frame_in g) lists round s c ≡ ways * weight_against (frame_in h) others round s c
  goes_on lists others same = against_stopped (game_of g.game) (game_of h.game) round lists others some top stops same

  -- ---- the ways to go on are a quotient of weights

  total_by : (x : ValidGame) → round ≤ round_count (game_of x.game) → total_weight (frame_in x)
      ≡ sum_by (λ s. weight_against (frame_in x) [] round s 0) (range_with_len 0 (length (signals (game_of x.game) round)))
  total_by x within =
      let f = frame_in x in
      let r = game_of x.game in
      let last = last_round_of r in
      let n : signal_count f round ≡ length (signals r round) = signal_count_is r round some within in
      by_keys (λ (d : Deal). at_round f round d.one) (λ d. d.weight) 0 (length (signals r round)) f.deals
      (recursion_from_All (λ (d : Deal). (0 ≤ at_round f round d.one) × (at_round f round d.one < 0 + length (signals r round))) f.deals (λ i d l.
      (let k = (table x).kept (last_round f) round (get_or f.deals i d).one some (omega (arith, last, within)) ((table x).dealt i d l) in
      (omega arith, omega (arith, k, n)))))

  pub weights_on : total_weight (frame_in g) ≡ ways * total_weight (frame_in h)
  weights_on =
      let all = range_with_len 0 (length (signals (game_of h.game) round)) in
      total_by g top
      ∙ ap (λ (xs : List Signal). sum_by (λ s. weight_against (frame_in g) [] round s 0) (range_with_len 0 (length xs))) (sym same_signals)
      ∙ sum-same (λ s. weight_against (frame_in g) [] round s 0) (λ s. ways * weight_against (frame_in h) [] round s 0) (λ s. goes_on [] [] refl s 0) all
      ∙ sum-times ways (λ s. weight_against (frame_in h) [] round s 0) all
      ∙ ap (λ n. ways * n) (sym (total_by h (omega (arith, later))))

  pub some_stopped : 0 < total_weight (frame_in h)
  some_stopped = some_deal h

  pub quotient : total_weight (frame_in g) / total_weight (frame_in h) ≡ ways
  quotient = ap (λ n. n / total_weight (frame_in h)) (weights_on ∙ turn ways (total_weight (frame_in h))) ∙ mul-div_cancel_left ways some_stopped
    where
      turn : (a b : ℕ) → a * b ≡ b * a
      turn a b = omega arith

  -- ---- the row

  module _ (before : round < round_count (game_of g.game)) (c : Filter) (e : c.parents
      ≡ (frame_in g).parents) (lossless : IsLossless (frame_in g) c.lists) (others : ClassLists) (same : list_of others round
      ≡ list_of c.lists round)
      (class first members : ℕ) (size : members ≡ class_size c.lists round class) (sums : List Part)
      (a : AreAmounts (frame_in h) others Deals round first sums) where
    one_less : round < last_round (frame_in g)
    one_less = omega (arith, last_round_of (game_of g.game), before)

    scaled : AreAmounts (frame_in g) c.lists Deals round first (map (times ways) sums)
    scaled = record {
      rises = rises_times ways some_on sums a.rises;
      sum = λ k o. sum_times ways sums k o ∙ ap (λ n. ways * n) (a.sum k o ∙ amount_before_last (frame_in h) others round first k o less)
          ∙ out (int_eq (pos 0) o) ways (weight_against (frame_in h) others round first k)
          ∙ ap (λ n. cond (int_eq (pos 0) o) n 0) (sym (goes_on c.lists others same first k))
          ∙ sym (amount_before_last (frame_in g) c.lists round first k o one_less);
    }

    long : length (list_of c.lists round) ≡ signal_count (frame_in g) round
    long = (over (frame_in g) c e).lengths round some (omega (arith, one_less))

    pub row_is : first < length (list_of c.lists round) → class_of c.lists round first ≡ class
        → IsRow (frame_in g) c.lists round class (gathered (members * ways) sums)
    row_is l member =
        subst (IsRow (frame_in g) c.lists round class) (gathered_times members ways sums)
        (is_row (frame_in g) (table g) c.lists lossless round some (omega (arith, one_less)) first class members (map (times ways) sums)
        (omega (arith, l, long)) member (size ∙ size_is (frame_in g) c.lists round class long) scaled
        (let one = size_some c.lists round class first l member in omega (arith, size, one)))

    pub row_fits : first < length (list_of c.lists round) → class_of c.lists round first ≡ class
        → (members * ways) * sum_by (λ (p : Part). p.weight) sums < 2 ^ 32
    row_fits l member =
        let k = over (frame_in g) c e in
        let weigh = class_weight (frame_in g) (table g) c.lists k round some (omega (arith, one_less)) in
        omega (
          arith,
          gathered-total (members * ways) sums,
          row_weighs (frame_in g) (table g) c.lists k round some (omega (arith, one_less)) class (gathered (members * ways) sums) (row_is l member),
          classes_weigh (frame_in g) (table g) c.lists k round some (omega (arith, one_less)) class 1,
          sum_by-cons weigh class [],
          g.limits.weight_in,
        )

  -- it fits 64 bits
  pub ways_few : ways ≤ 67108864
  ways_few = let m = mul-le-mul_left ways some_stopped in omega (arith, weights_on, g.limits.weight_in, m)
