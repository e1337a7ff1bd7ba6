-- The ways to deal the rest of a game after some rounds.
use Rattle.std.specs.Prelude.{ℕ, ◌+◌, ◌-◌, ◌*◌, ◌<◌, ◌≤◌, ◌≡◌, List, [], ◌∷◌, ◌++◌, None, map, take, drop, sum}
use Rattle.gs_bet.specs.Limit.{limit_bet}
use Rattle.gs_model.specs.{Classes.{ClassLists, list_of}, Frame.{frame_of}, Game.{Game, Round, High, round_count}, Lossless.{weight_against}}
use Rattle.gs_game.specs.{Refusals.{first_refusal}, Sequences.{deal_sizes, draws, seen_sizes}}

-- the number of one player's own cards over some rounds
abbrev pub own_cards_of : List Round → ℕ
own_cards_of [] = 0
own_cards_of (r ∷ rs) = r.private + own_cards_of rs

-- the number of cards that a player sees over some rounds: the own and the public ones
abbrev pub cards_shown : List Round → ℕ
cards_shown [] = 0
cards_shown (r ∷ rs) = r.private + r.public + cards_shown rs

-- the ways to deal the groups of all rounds after a round to both players, from the cards that the rounds up to it leave
abbrev pub ways_on : Game → ℕ → ℕ
ways_on g round = draws (sum g.copies - cards_shown (take round g.rounds) - own_cards_of (take round g.rounds)) (deal_sizes (drop round g.rounds))

-- h deals the first rounds of g, from the same cards, and then a round of no cards; its betting and its ranking do not matter
pub record StopsAfter (g : Game) (round : ℕ) (h : Game) : Type 0 where
  pub copies : h.copies ≡ g.copies
  pub sizes : seen_sizes h.rounds ≡ seen_sizes (take round g.rounds) ++ 0 ∷ 0 ∷ []

-- a round without betting that deals these numbers of cards
abbrev pub unbet : ℕ → ℕ → Round
unbet private public = record { private = private; public = public; tree = limit_bet 1 0 }

-- the game of one chip that deals the first rounds of another and then a round of no cards: nobody bets, and the higher own card wins
abbrev pub stopped_game : Game → ℕ → Game
stopped_game g round = record {
  suits = g.suits;
  copies = g.copies;
  ranking = High;
  bonus = 1 ∷ [];
  ante = 1;
  rounds = map (λ (r : Round). unbet r.private r.public) (take round g.rounds) ++ unbet 0 0 ∷ [];
}

-- after each round of a valid game there is a way to go on
abbrev pub SomeGoOn : Type 0
SomeGoOn = (g : Game) (round : ℕ) → first_refusal g ≡ None → 0 < ways_on g round

-- what a signal of a round weighs against a class is its weight where the game stops after that round, times the ways to go on
abbrev pub RoundsGoOn : Type 0
RoundsGoOn =
    (g h : Game) (round : ℕ) (lists others : ClassLists) → 0 < round → round ≤ round_count g → StopsAfter g round h
    → list_of others round ≡ list_of lists round
    → (s c : ℕ) → weight_against (frame_of g) lists round s c ≡ ways_on g round * weight_against (frame_of h) others round s c
