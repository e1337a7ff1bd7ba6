-- Kuhn's game: three cards, one each, one round of a check or a bet of 1; and the verdict on its players' plans after one turn of play.
-- Source: the plans and the verdict by an independent program that tries every pure raw plan.
use Rattle.std.specs.Prelude.{ℕ, ◌-◌, ◌*◌, ◌<◌, ◌≤◌, [], ◌∷◌, List, get_or, ℤ, pos}
use Rattle.gs_converge.specs.Laws.{AreTogetherAtMost}
use Rattle.gs_model.specs.{Betting.{Bet, act, fold, even, none, move}, Classes.{ClassLists}, Frame.{frame_of}, Game.{Game, High}, Plans.{Plan, lift}}
use Rattle.gs_model.specs.{Play.{IsFictitiousPlay}, Verdict.{IsVerdict}}

-- 1[k:2[k:=,b1:1[f:!,c1:=]],b1:2[f:!,c1:=]]
abbrev pub kuhn_tree : Bet
kuhn_tree = act 1 (move 107 0 (act 2 (move 107 0 even (move 98 1 (act 1 (move 102 0 fold (move 99 1 even none))) none)))
    (move 98 1 (act 2 (move 102 0 fold (move 99 1 even none))) none))

-- one card of each of three ranks, an ante of 1
abbrev pub kuhn : Game
kuhn = record {
  suits = 1;
  copies = 1 ∷ 1 ∷ 1 ∷ [];
  ranking = High;
  bonus = 1 ∷ [];
  ante = 1;
  rounds = record { private = 1; public = 0; tree = kuhn_tree } ∷ [];
}

-- a class for each card
abbrev pub apart : ClassLists
apart = (1 ∷ 2 ∷ 3 ∷ []) ∷ []

-- a plan of total 2 by its numbers: for each point a row for each card, jack, queen and king, with a number for each move
abbrev pub plan_by : List (List (List ℕ)) → Plan
plan_by rows = record { total = 2; number = λ q c m. get_or (get_or (get_or rows q []) (c - 1) []) m 0 }

-- player 1 after one turn: a jack or a queen checks half and bets half, the king checks; after a check and a bet all cards fold
abbrev pub turn_one : Plan
turn_one = plan_by (((1 ∷ 1 ∷ []) ∷ (1 ∷ 1 ∷ []) ∷ (2 ∷ 0 ∷ []) ∷ []) ∷ [] ∷ ((1 ∷ 0 ∷ []) ∷ (1 ∷ 0 ∷ []) ∷ (2 ∷ 0 ∷ []) ∷ []) ∷ [] ∷ [])

-- player 2 after one turn: after a check a jack or a queen checks half and bets half, the king checks; after a bet all cards fold
abbrev pub turn_two : Plan
turn_two = plan_by ([] ∷ ((1 ∷ 1 ∷ []) ∷ (1 ∷ 1 ∷ []) ∷ (2 ∷ 0 ∷ []) ∷ []) ∷ [] ∷ ((2 ∷ 0 ∷ []) ∷ (2 ∷ 0 ∷ []) ∷ (2 ∷ 0 ∷ []) ∷ []) ∷ [])

-- the value of these plans is 1/12; player 1 could still gain 13/12, and player 2 could still gain 7/6
abbrev pub KuhnVerdict : Type 0
KuhnVerdict = IsVerdict (frame_of kuhn) (lift (frame_of kuhn) apart turn_one) (lift (frame_of kuhn) apart turn_two) (pos 1, 12) (pos 13, 12) (pos 7, 6)

-- these plans are those after one turn of fictitious play
abbrev pub KuhnPlay : Type 0
KuhnPlay = IsFictitiousPlay (frame_of kuhn) apart 1 turn_one turn_two

-- fictitious play of this game converges: for each fraction p / q above 0 there is a number of turns from which on the sum of both gaps is at most p / q
abbrev pub KuhnConverges : Type 0
KuhnConverges =
    (p q : ℕ) → 0 < p → (turns : ℕ) × ((n : ℕ) (x y : Plan) (value gap1 gap2 : ℤ × ℕ) → turns ≤ n → IsFictitiousPlay (frame_of kuhn) apart n x y
    → IsVerdict (frame_of kuhn) (lift (frame_of kuhn) apart x) (lift (frame_of kuhn) apart y) value gap1 gap2 → AreTogetherAtMost gap1 gap2 p q)
