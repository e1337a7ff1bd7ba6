-- Which refusal applies to a game first. Source: this project's game files.
use Rattle.std.specs.Prelude.{ℕ, zero, suc, ◌+◌, ◌-◌, ◌*◌, ◌^◌, ◌==◌, ◌&&◌, Bool, min, List, [], ◌∷◌, length, sum, sum_by, nat_lt, nat_le, Option, Some, None}
use Rattle.std.specs.Prelude.{if◌then◌else◌, option_map}
use Rattle.gs_model.specs.{Betting.{Bet}, Deals.{deals}, Frame.{frame_of, total_weight, trees_of}}
use Rattle.gs_model.specs.{Game.{Game, Round, Ranking, High, Pair, Three, round_count, round_at}, Numbering.{greatest}, Signals.{signals}, Walk.{walk}}
use Rattle.gs_game.specs.Money.{first_of, has_even, uneven_path, most_in}

-- why a game is refused, with the numbers that say it: eleven reasons, each named below by the definition that finds it
pub data Refusal : Type 0 where
  rounds : ℕ → Refusal
  no_private : Refusal
  ranking_cards : ℕ → ℕ → Refusal
  not_enough_cards : ℕ → ℕ → Refusal
  no_even : ℕ → Refusal
  uneven : ℕ → List ℕ → Refusal
  put_too_large : ℕ → Refusal
  too_many_lines : ℕ → Refusal
  too_heavy : ℕ → Refusal
  too_many_signals : ℕ → Refusal
  too_many_deals : Refusal

-- ---- cards

-- how many own cards one player gets over all rounds
abbrev pub own_card_total : List Round → ℕ
own_card_total rs = sum_by (λ (r : Round). r.private) rs

-- how many public cards there are over all rounds
abbrev pub public_card_total : List Round → ℕ
public_card_total rs = sum_by (λ (r : Round). r.public) rs

-- whether a ranking can rank hands, by the number of own cards and of all cards
abbrev pub ranks : Ranking → ℕ → ℕ → Bool
ranks High own all = own == 1
ranks Pair own all = own == 1
ranks Three own all = all == 3

-- a game has no round, or more than 4 rounds
unfoldable pub rounds_refusal : Game → Option Refusal
rounds_refusal g = if nat_le 1 (round_count g) && nat_le (round_count g) 4 then None else Some (rounds (round_count g))

-- round 1 gives no private card
unfoldable pub private_refusal : Game → Option Refusal
private_refusal g = if (round_at g 1).private == 0 then Some no_private else None

-- the ranking cannot rank the hands of the game
unfoldable pub ranking_refusal : Game → Option Refusal
ranking_refusal g =
    let own = own_card_total g.rounds in
    let all = own_card_total g.rounds + public_card_total g.rounds in
    if ranks g.ranking own all then None else Some (ranking_cards own all)

-- both players' cards and the public cards are more than all copies
unfoldable pub copies_refusal : Game → Option Refusal
copies_refusal g =
    let need = 2 * own_card_total g.rounds + public_card_total g.rounds in
    if nat_lt (sum g.copies) need then Some (not_enough_cards need (sum g.copies)) else None

-- the first broken rule on rounds and cards: the number of rounds, the private card of round 1, the ranking, the copies
unfoldable pub card_refusal : Game → Option Refusal
card_refusal g = first_of (rounds_refusal g) (first_of (private_refusal g) (first_of (ranking_refusal g) (copies_refusal g)))

-- ---- betting

-- the first tree before the last that has no even leaf; the first tree is that of the given round
abbrev pub no_even_from : ℕ → List Bet → Option Refusal
no_even_from round [] = None
no_even_from round (t ∷ []) = None
no_even_from round (t ∷ u ∷ ts) = if has_even t then no_even_from (round + 1) (u ∷ ts) else Some (no_even round)

-- the first even leaf, by round and then in tree order, where the players have put different amounts in the round
abbrev pub uneven_from : ℕ → List Bet → Option Refusal
uneven_from round [] = None
uneven_from round (t ∷ ts) = first_of (option_map (uneven round) (uneven_path [] 0 0 t)) (uneven_from (round + 1) ts)

-- a round before the last has no even leaf
unfoldable pub even_refusal : Game → Option Refusal
even_refusal g = no_even_from 1 (trees_of g)

-- at some even leaf the players have put different amounts in the round; the refusal names the round of the first such leaf, and the letters to it
unfoldable pub uneven_refusal : Game → Option Refusal
uneven_refusal g = uneven_from 1 (trees_of g)

-- the most that one player has put at any end, ante included, times the greatest bonus, is over 4,096
unfoldable pub put_refusal : Game → Option Refusal
put_refusal g =
    let chips = most_in (trees_of g) g.ante g.ante * greatest g.bonus in
    if nat_lt 4096 chips then Some (put_too_large chips) else None

-- there are more than 8,192 ends; the refusal names their number, 2^128 - 1 if there are more
unfoldable pub lines_refusal : Game → Option Refusal
lines_refusal g =
    let ends = length (walk g.ante (trees_of g)).ends in
    if nat_lt 8192 ends then Some (too_many_lines (min ends (2 ^ 128 - 1))) else None

-- the first broken rule on betting: even leaves, equal money, the most put, the number of ends
unfoldable pub betting_refusal : Game → Option Refusal
betting_refusal g = first_of (even_refusal g) (first_of (uneven_refusal g) (first_of (put_refusal g) (lines_refusal g)))

-- ---- deals

-- all deals together weigh more than 67,108,864
unfoldable pub weight_refusal : Game → Option Refusal
weight_refusal g = if nat_lt 67108864 (total_weight (frame_of g)) then Some (too_heavy (total_weight (frame_of g))) else None

-- the first round, from the given one on, that has more than 200,000 raw signals
abbrev pub signals_from : Game → ℕ → ℕ → Option Refusal
signals_from g zero round = None
signals_from g (suc left) round = if nat_lt 200000 (length (signals g round)) then Some (too_many_signals round) else signals_from g left (round + 1)

-- some round has more than 200,000 raw signals: the first of them
unfoldable pub signals_refusal : Game → Option Refusal
signals_refusal g = signals_from g (round_count g) 1

-- there are more than 8,000,000 deals
unfoldable pub deals_refusal : Game → Option Refusal
deals_refusal g = if nat_lt 8000000 (length (deals g)) then Some too_many_deals else None

-- the first broken rule on deals: their weight, the raw signals of a round, their number
unfoldable pub deal_refusal : Game → Option Refusal
deal_refusal g = first_of (weight_refusal g) (first_of (signals_refusal g) (deals_refusal g))

-- ---- the first that applies

-- the first refusal that applies to a game: to its cards, else to its betting, else to its deals
unfoldable pub first_refusal : Game → Option Refusal
first_refusal g = first_of (card_refusal g) (first_of (betting_refusal g) (deal_refusal g))
