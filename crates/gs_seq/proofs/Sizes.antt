-- How large the numbers of a valid game are.
use Rattle.std.proofs.Common.{◌≡◌, ℕ, zero, suc, ◌-◌, ◌*◌, ◌<◌, ◌≤◌, ◌^◌, min, List, [], ◌∷◌, length, map, refl, sym, ◌∙◌, arith, Bool, true, false, cond}
use Rattle.std.proofs.Common.{Option, Some, None, inl, inr}
use Rattle.std.proofs.{Math.Nat.{mul-le-mul_left}, lemmas.Bool.{cases_Bool}, lemmas.Int.{ints}, lemmas.List.Elements.{All-from_recursion}}
use Rattle.std.specs.{Prelude.{All, pos, neg_ℤ, nat_lt, slice_index, unsigned_abs}, List.{enumerate_from}}
use borrow.Author.Differences.{abs_is}
use borrow.Author.Tests.{ltb-false}
use Rattle.gs_game.specs.{Games.{game_of}, Money.{first_of, most_in}, Refusals.{too_many_lines, uneven_refusal}, declared.valid.ValidGame.{ValidGame}}
use Rattle.gs_game.specs.Refusals.{Refusal, betting_refusal, card_refusal, deal_refusal, even_refusal, first_refusal, lines_refusal, put_refusal, put_too_large}
use Rattle.gs_model.specs.{Numbering.{greatest}, Deals.{Deal, deal_of, deals, pairings}, Frame.{Frame, end_at, end_count, total_weight, trees_of}}
use Rattle.gs_model.specs.{Game.{Game, round_count}, Positions.{End, Show}, Signals.{Signal, signals}, Walk.{walk}}
use Rattle.gs_game.proofs.{Evenly.{neither}, Playable.{puts_within}, Checked.{some-category}}
use Rattle.gs_model.proofs.{Ranges.{every-flat_map, every-kept}, Basics.{every-map, every-any}}
use Rattle.gs_seq.specs.Games.{frame_in}

-- ---- outcomes are at most the greatest bonus, and that is at most 9

bonus_le : (xs : List ℕ) (k : ℕ) → slice_index xs k ≤ greatest xs
bonus_le [] k = omega arith
bonus_le (x ∷ xs) zero = omega arith
bonus_le (x ∷ xs) (suc k) = let r = bonus_le xs k in omega arith

greatest_few : (xs : List ℕ) → All (λ n. (0 < n) × (n ≤ 9)) xs → greatest xs ≤ 9
greatest_few [] h = omega arith
greatest_few (x ∷ xs) h = omega (arith, (h 0 0 (omega arith)).1, greatest_few xs (λ k d l. h (suc k) d (omega arith)))

pub abs_pos : (n m : ℕ) → n ≤ m → unsigned_abs (pos n) ≤ m
abs_pos n m l = omega (arith, ints, abs_is (pos n))

pub abs_neg : (n m : ℕ) → n ≤ m → unsigned_abs (neg_ℤ (pos n)) ≤ m
abs_neg n m l = omega (arith, ints, abs_is (neg_ℤ (pos n)))

outcome_le : (bonus : List ℕ) (a b : Bool) (x y : ℕ) → unsigned_abs (cond a (pos (slice_index bonus x)) (cond b (neg_ℤ (pos (slice_index bonus y))) (pos 0)))
    ≤ greatest bonus
outcome_le bonus true b x y = abs_pos (slice_index bonus x) (greatest bonus) (bonus_le bonus x)
outcome_le bonus false true x y = abs_neg (slice_index bonus y) (greatest bonus) (bonus_le bonus y)
outcome_le bonus false false x y = abs_pos 0 (greatest bonus) (omega arith)

pub outcomes_le : (g : Game) → All (λ (d : Deal). unsigned_abs d.outcome ≤ greatest g.bonus) (deals g)
outcomes_le g =
    let P = λ (d : Deal). unsigned_abs d.outcome ≤ greatest g.bonus in
    let all = enumerate_from 0 (signals g (round_count g)) in
    All-from_recursion P (deals g) (every-kept P (λ d. nat_lt 0 d.weight) (pairings g)
    (every-flat_map P (λ a. map (λ b. deal_of g a b) all) (λ a. Unit {0})
    (λ a t. every-map P (λ (b : ℕ × Signal). deal_of g a b) all (every-any (λ b. P (deal_of g a b)) (λ b. outcome_le g.bonus _ _ _ _) all)) all
    (every-any (λ a. Unit {0}) (λ a. tt) all)))

-- ---- bets

some_bonus : (xs : List ℕ) → 0 < length xs → All (λ n. (0 < n) × (n ≤ 9)) xs → 1 ≤ greatest xs
some_bonus [] l h = absurd (omega arith)
some_bonus (x ∷ xs) l h = let p = h 0 0 l in omega (arith, p.0)

-- a test that found nothing
not_over : (limit n : ℕ) (x : Refusal) (r : Option Refusal) → (nat_lt limit n ≡ true → r ≡ Some x) → r ≡ None → n ≤ limit
not_over limit n x r h e = elim (cases_Bool (nat_lt limit n)) [
  | inl over ↦ absurd (let k : Some x ≡ None = sym (h over) ∙ e in cc)
  | inr within ↦ ltb-false limit n within
]

put_within : (g : Game) → put_refusal g ≡ None → most_in (trees_of g) g.ante g.ante * greatest g.bonus ≤ 4096
unfolding put_refusal
put_within g h = not_over 4096 (most_in (trees_of g) g.ante g.ante * greatest g.bonus)
    (put_too_large (most_in (trees_of g) g.ante g.ante * greatest g.bonus)) _ (λ o. rw o refl) h

lines_within : (g : Game) → lines_refusal g ≡ None → length (walk g.ante (trees_of g)).ends ≤ 8192
unfolding lines_refusal
lines_within g h = not_over 8192 (length (walk g.ante (trees_of g)).ends) (too_many_lines (min (length (walk g.ante (trees_of g)).ends) (2 ^ 128 - 1))) _
    (λ o. rw o refl) h

pub record AreBet (g : Game) : Type 0 where
  pub puts : most_in (trees_of g) g.ante g.ante * greatest g.bonus ≤ 4096
  pub lines : length (walk g.ante (trees_of g)).ends ≤ 8192

pub are_bet : (g : Game) → first_refusal g ≡ None → AreBet g
unfolding first_refusal betting_refusal
are_bet g h =
    let all = neither (card_refusal g) (first_of (betting_refusal g) (deal_refusal g)) h in
    let betting = (neither (betting_refusal g) (deal_refusal g) all.1).0 in
    let one = neither (even_refusal g) (first_of (uneven_refusal g) (first_of (put_refusal g) (lines_refusal g))) betting in
    let two = neither (uneven_refusal g) (first_of (put_refusal g) (lines_refusal g)) one.1 in
    let three = neither (put_refusal g) (lines_refusal g) two.1 in
    record { puts = put_within g three.0; lines = lines_within g three.1 }

pub some_greatest : (g : ValidGame) → 1 ≤ greatest (game_of g.game).bonus
some_greatest g =
    let bonus = g.dealable.bonuses in
    some_bonus (game_of g.game).bonus (omega (arith, bonus.each, some-category (game_of g.game).ranking)) bonus.in_range

-- ---- all of a game

-- ends are at most 8,192, puts at most 4,096, outcomes from -9 to 9, and all deals weigh at most 2^26
pub record AreModest (f : Frame) : Type 0 where
  pub ends : end_count f ≤ 8192
  pub puts : (z : ℕ) → z < end_count f → (end_at f z).put ≤ 4096
  pub outcomes : All (λ (d : Deal). unsigned_abs d.outcome ≤ 9) f.deals
  pub weight : total_weight f ≤ 67108864

abbrev none : End
none = record { round = 1; kind = Show; put = 0; one = None; two = None }

-- what a player has put at an end is at most what the trees let be put
pub puts_le : (g : ValidGame) (z : ℕ) → z < end_count (frame_in g) → (end_at (frame_in g) z).put
    ≤ most_in (trees_of (game_of g.game)) (game_of g.game).ante (game_of g.game).ante
puts_le g z l =
    let r = game_of g.game in
    All-from_recursion (λ (e : End). e.put ≤ most_in (trees_of r) r.ante r.ante) (walk r.ante (trees_of r)).ends (puts_within r) z none l

pub modest : (g : ValidGame) → AreModest (frame_in g)
modest g =
    let r = game_of g.game in
    let b = are_bet r g.accepted in
    let some = some_greatest g in
    let few : most_in (trees_of r) r.ante r.ante ≤ 4096 = omega (arith, b.puts, mul-le-mul_left (most_in (trees_of r) r.ante r.ante) some) in
    record {
      ends = b.lines;
      puts = λ z l. omega (arith, puts_le g z l, few);
      outcomes = λ k d l. omega (arith, outcomes_le r k d l, greatest_few r.bonus g.dealable.bonuses.in_range);
      weight = g.limits.weight_in;
    }
