-- What a game's tests leave, taken together.
use Rattle.std.proofs.Common.{◌≡◌, ℕ, zero, suc, ◌+◌, ◌-◌, ◌*◌, ◌<◌, ◌≤◌, ◌^◌, min, true, nat_lt, List, [], ◌∷◌, length, map, refl, sym, ◌∙◌, inl, inr, arith}
use Rattle.std.proofs.{lemmas.Bool.{cases_Bool, cases_eq, ltb-false}, lemmas.List.{length-map}, lemmas.List.Elements.{All-from_recursion, recursion_from_All}}
use Rattle.std.proofs.Math.Nat.{mul-le-mul_left}
use Rattle.std.specs.{Prelude.{Option, Some, None, All}, List.{AllByRecursion}}
use Rattle.gs_card.specs.Rankings.{ranking_of}
use Rattle.gs_model.specs.{Deals.{deals}, Frame.{frame_of, total_weight, trees_of}, Walk.{walk, walk_start, walk_rounds}, Numbering.{greatest}}
use Rattle.gs_model.specs.{Game.{Game as Rules, Round as RoundRules, Ranking, High, Pair, Three, round_count}, Outcome.{IsBonus, categories}, Signals.{signals}}
use Rattle.gs_game.specs.{declared.faults.GameError.{GameError}, declared.faults.GameFault.{GameFault}, declared.game.Game.{Game}, declared.game.Round.{Round}, declared.positions.Point.{Point}}
use Rattle.gs_game.specs.{declared.positions.End.{End}, declared.positions.Target.{Target as StoredTarget}, FaultOf.{IsErrorOf, IsFaultOf}, Money.{first_of, most_in}}
use Rattle.gs_game.specs.{Games.{HasFewCards, game_of, round_rules, plain_trees}, Limits.{IsDealable, IsWithinLimits}, Lines.{RoundsFollow}}
use Rattle.gs_game.specs.Refusals.{put_too_large, too_many_lines, too_heavy, too_many_signals, too_many_deals, card_refusal, betting_refusal, even_refusal}
use Rattle.gs_game.specs.Refusals.{uneven_refusal, put_refusal, lines_refusal, deal_refusal, weight_refusal, signals_from, signals_refusal, deals_refusal}
use Rattle.gs_game.specs.{Refusals.{first_refusal}, Valid.{IsWalkOf}, Walks.{Grows, RoundsWalkable}}
use Rattle.gs_model.proofs.Basics.{some-none}
use Rattle.gs_game.proofs.{DealChecks.{cards_pass}, Deciding.{error_first, error_second, fault_first, trees_are, ends_are}, Evenly.{neither}, PointBound.{few_points}}

-- a test that found nothing
not-over : {A : Type 0} (limit n : ℕ) (x : A) (r : Option A) → (nat_lt limit n ≡ true → r ≡ Some x) → r ≡ None → n ≤ limit
not-over limit n x r h e = elim (cases_Bool (nat_lt limit n)) [
  | inl over ↦ absurd (some-none x (sym (h over) ∙ e))
  | inr within ↦ ltb-false limit n within
]

-- ---- the first refusal

pub cards_fault : (g : Rules) (f : GameFault) → IsFaultOf (card_refusal g) f → IsFaultOf (first_refusal g) f
unfolding first_refusal
cards_fault g f h = fault_first (card_refusal g) _ f h

pub betting_fault : (g : Rules) (f : GameError) → card_refusal g ≡ None → IsErrorOf (betting_refusal g) f → IsErrorOf (first_refusal g) f
unfolding first_refusal
betting_fault g f c h = error_second (card_refusal g) _ f c (error_first (betting_refusal g) _ f h)

pub deals_fault : (g : Rules) (f : GameError) → card_refusal g ≡ None → betting_refusal g ≡ None → IsErrorOf (deal_refusal g) f → IsErrorOf (first_refusal g) f
unfolding first_refusal
deals_fault g f c b h = error_second (card_refusal g) _ f c (error_second (betting_refusal g) _ f b h)

pub no_refusal : (g : Rules) → card_refusal g ≡ None → betting_refusal g ≡ None → deal_refusal g ≡ None → first_refusal g ≡ None
unfolding first_refusal
no_refusal g c b d = rw (c, b, d) refl

-- ---- the bonuses

most-nine : (xs : List ℕ) → AllByRecursion (λ n. (0 < n) × (n ≤ 9)) xs → greatest xs ≤ 9
most-nine [] h = omega arith
most-nine (x ∷ xs) h = let p = h.0 in omega (arith, p.1, most-nine xs h.1)

pub bonus_most : (r : Ranking) (bonus : List ℕ) → IsBonus r bonus → greatest bonus ≤ 9
bonus_most r bonus h = most-nine bonus (recursion_from_All (λ n. (0 < n) × (n ≤ 9)) bonus h.in_range)

pub some-category : (r : Ranking) → 0 < categories r
some-category High = omega arith
some-category Pair = omega arith
some-category Three = omega arith

least-one : (xs : List ℕ) → 0 < length xs → AllByRecursion (λ n. (0 < n) × (n ≤ 9)) xs → 1 ≤ greatest xs
least-one [] h a = absurd (omega arith)
least-one (x ∷ xs) h a = let p = a.0 in omega (arith, p.0)

bonus-least : (r : Ranking) (bonus : List ℕ) → IsBonus r bonus → 1 ≤ greatest bonus
bonus-least r bonus h = least-one bonus (omega (arith, h.each, some-category r)) (recursion_from_All (λ n. (0 < n) × (n ≤ 9)) bonus h.in_range)

-- ---- the walk has room

put-within : (g : Rules) → put_refusal g ≡ None → most_in (trees_of g) g.ante g.ante * greatest g.bonus ≤ 4096
unfolding put_refusal
put-within g h = not-over 4096 (most_in (trees_of g) g.ante g.ante * greatest g.bonus)
    (put_too_large (most_in (trees_of g) g.ante g.ante * greatest g.bonus)) _ (λ o. rw o refl) h

lines-within : (g : Rules) → lines_refusal g ≡ None → length (walk g.ante (trees_of g)).ends ≤ 8192
unfolding lines_refusal
lines-within g h = not-over 8192 (length (walk g.ante (trees_of g)).ends) (too_many_lines (min (length (walk g.ante (trees_of g)).ends) (2 ^ 128 - 1))) _
    (λ o. rw o refl) h

pub walkable : (game : Game) → All HasFewCards game.rounds.items → IsBonus (ranking_of game.ranking) game.bonus.items → card_refusal (game_of game) ≡ None
    → betting_refusal (game_of game) ≡ None
    → RoundsWalkable (plain_trees game.rounds.items) (walk_start game.ante)
unfolding betting_refusal
walkable game few bonus c b =
    let g = game_of game in
    let one = neither (even_refusal g) (first_of (uneven_refusal g) (first_of (put_refusal g) (lines_refusal g))) b in
    let two = neither (uneven_refusal g) (first_of (put_refusal g) (lines_refusal g)) one.1 in
    let three = neither (put_refusal g) (lines_refusal g) two.1 in
    let cards = cards_pass game few c in
    let put = rw (trees_are game) at (put-within g three.0) in
    let lines = rw (trees_are game, ends_are game.ante (plain_trees game.rounds.items)) at (lines-within g three.1) in
    let times = mul-le-mul_left (most_in (plain_trees game.rounds.items) game.ante game.ante)
    (bonus-least (ranking_of game.ranking) game.bonus.items bonus) in
    let long : length (plain_trees game.rounds.items) ≡ length game.rounds.items = length-map game.rounds.items _ in
    record {
      round = omega (arith, long, cards.few);
      put = omega (arith, put, times);
      points = omega (arith, few_points game.rounds.items cards.few lines);
      ends = omega (arith, lines);
    }

-- ---- what a valid game holds

signals-within : (g : Rules) (left n : ℕ) → signals_from g left n ≡ None → (k : ℕ) → n ≤ k → k < n + left → length (signals g k) ≤ 200000
signals-within g zero n h k low high = absurd (omega arith)
signals-within g (suc left) n h k low high = elim (cases_Bool (nat_lt 200000 (length (signals g n)))) [
  | inl over ↦ absurd (some-none (too_many_signals n) (rw over at h))
  | inr within ↦ elim (cases_eq k n) [
    | inl e ↦ rw e (ltb-false 200000 (length (signals g n)) within)
    | inr other ↦ signals-within g left (n + 1) (rw within at h) k (omega (arith, low, other)) (omega arith)
  ]
]

weight-within : (g : Rules) → weight_refusal g ≡ None → total_weight (frame_of g) ≤ 67108864
unfolding weight_refusal
weight-within g h = not-over 67108864 (total_weight (frame_of g)) (too_heavy (total_weight (frame_of g))) _ (λ o. rw o refl) h

signals-few : (g : Rules) → signals_refusal g ≡ None → (round : ℕ) → round ≤ round_count g → length (signals g round) ≤ 200000
unfolding signals_refusal
signals-few g h zero within = omega arith
signals-few g h (suc round) within = signals-within g (round_count g) 1 h (suc round) (omega arith) (omega arith)

deals-few : (g : Rules) → deals_refusal g ≡ None → length (deals g) ≤ 8000000
unfolding deals_refusal
deals-few g h = not-over 8000000 (length (deals g)) too_many_deals _ (λ o. rw o refl) h

pub limits : (game : Game) → All HasFewCards game.rounds.items → card_refusal (game_of game) ≡ None → deal_refusal (game_of game) ≡ None
    → IsWithinLimits (game_of game)
unfolding deal_refusal
limits game few c d =
    let g = game_of game in
    let one = neither (weight_refusal g) (first_of (signals_refusal g) (deals_refusal g)) d in
    let two = neither (signals_refusal g) (deals_refusal g) one.1 in
    let cards = cards_pass game few c in
    let long = length-map game.rounds.items round_rules in
    record {
      some_round = omega (arith, cards.some, long);
      few_rounds = omega (arith, cards.few, long);
      signals_in = signals-few g two.0;
      deals_in = deals-few g two.1;
      weight_in = weight-within g one.0;
    }

small-rounds : (rs : List Round) → AllByRecursion HasFewCards rs → AllByRecursion (λ (r : RoundRules). (r.private ≤ 2) × (r.public ≤ 3)) (map round_rules rs)
small-rounds [] h = tt
small-rounds (r ∷ rs) h = let few = h.0 in ((few.private, few.public), small-rounds rs h.1)

pub is_dealable : (game : Game) → All HasFewCards game.rounds.items → IsBonus (ranking_of game.ranking) game.bonus.items → card_refusal (game_of game) ≡ None
    → IsDealable (game_of game)
is_dealable game few bonus c = record {
  small = All-from_recursion (λ (r : RoundRules). (r.private ≤ 2) × (r.public ≤ 3)) (map round_rules game.rounds.items)
      (small-rounds game.rounds.items (recursion_from_All HasFewCards game.rounds.items few));
  ranked = (cards_pass game few c).ranked;
  bonuses = bonus;
}

pub is_walk : (game : Game) (points : List Point) (ends : List End) (start : StoredTarget)
    → Grows [] points [] ends start (walk_start game.ante) (walk_rounds (plain_trees game.rounds.items) (walk_start game.ante))
    → IsWalkOf (game_of game) points ends start
is_walk game points ends start h =
    record { points_are = rw (trees_are game) h.points_are; ends_are = rw (trees_are game) h.ends_are; start_is = rw (trees_are game) h.root_is }

-- ---- what lines rest on

pub lines_follow : (game : Game) → first_refusal (game_of game) ≡ None → length game.rounds.items ≤ 4 → RoundsFollow (plain_trees game.rounds.items) 0 0
unfolding first_refusal betting_refusal even_refusal
lines_follow game h few =
    let g = game_of game in
    let all = neither (card_refusal g) (first_of (betting_refusal g) (deal_refusal g)) h in
    let betting = (neither (betting_refusal g) (deal_refusal g) all.1).0 in
    let one = neither (even_refusal g) (first_of (uneven_refusal g) (first_of (put_refusal g) (lines_refusal g))) betting in
    let two = neither (uneven_refusal g) (first_of (put_refusal g) (lines_refusal g)) one.1 in
    let three = neither (put_refusal g) (lines_refusal g) two.1 in
    let lines = rw (trees_are game, ends_are game.ante (plain_trees game.rounds.items)) at (lines-within g three.1) in
    let evens = rw (trees_are game) at one.0 in
    record {
      evens = evens;
      few_points = omega (arith, few_points game.rounds.items few lines);
      few_ends = omega (arith, lines);
    }
