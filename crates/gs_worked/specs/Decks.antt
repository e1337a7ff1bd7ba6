-- Worked values: Kuhn poker with two suits, and one rank in four suits. The expected numbers are counted by hand.
use Rattle.std.specs.Prelude.{ℕ, ◌≡◌, [], ◌∷◌, pos, negsuc, length, replicate, sum_by}
use Rattle.gs_model.specs.{Betting.{even}, Deals.{Deal, deals}, Game.{Game, High}, SignalClasses.{SameClass}, Signals.{Signal, signal_at, signals}}
use Rattle.gs_model.specs.ViewTree.{leaves}

-- one round without moves, one private card each, one copy of each of `kinds` kinds of card in `suits` suits
abbrev pub single_cards : ℕ → ℕ → Game
single_cards suits kinds = record {
  suits = suits;
  copies = replicate kinds 1;
  ranking = High;
  bonus = 1 ∷ [];
  ante = 1;
  rounds = record { private = 1; public = 0; tree = even } ∷ [];
}

-- the signal of one own card
abbrev pub card_signal : ℕ → Signal
card_signal card = record { own = card ∷ []; public = [] } ∷ []

-- jack, queen and king in two suits
abbrev pub two_suits : Game
two_suits = single_cards 2 6

-- one rank in four suits
abbrev pub one_rank : Game
one_rank = single_cards 4 4

-- six hands, thirty deals; both jacks tie once and lose four times, both queens win twice, tie once and lose twice, both kings win four times and tie once
pub record TwoSuits : Type 0 where
  pub hands : signals two_suits 1 ≡ card_signal 0 ∷ card_signal 1 ∷ card_signal 2 ∷ card_signal 3 ∷ card_signal 4 ∷ card_signal 5 ∷ []
  pub count : length (deals two_suits) ≡ 30
  pub weight : sum_by (λ (d : Deal). d.weight) (deals two_suits) ≡ 30
  pub jack : leaves two_suits (card_signal 0) ≡ (1, pos 0) ∷ (1, negsuc 0) ∷ (1, negsuc 0) ∷ (1, negsuc 0) ∷ (1, negsuc 0) ∷ []
  pub queen : leaves two_suits (card_signal 2) ≡ (1, pos 1) ∷ (1, pos 1) ∷ (1, pos 0) ∷ (1, negsuc 0) ∷ (1, negsuc 0) ∷ []
  pub king : leaves two_suits (card_signal 4) ≡ (1, pos 1) ∷ (1, pos 1) ∷ (1, pos 1) ∷ (1, pos 1) ∷ (1, pos 0) ∷ []
  pub jacks : SameClass two_suits 1 (signal_at two_suits 1 0) (signal_at two_suits 1 1)
  pub queens : SameClass two_suits 1 (signal_at two_suits 1 2) (signal_at two_suits 1 3)
  pub kings : SameClass two_suits 1 (signal_at two_suits 1 4) (signal_at two_suits 1 5)
  pub jack_is_no_queen : ¬ SameClass two_suits 1 (signal_at two_suits 1 0) (signal_at two_suits 1 2)
  pub queen_is_no_king : ¬ SameClass two_suits 1 (signal_at two_suits 1 2) (signal_at two_suits 1 4)
  pub jack_is_no_king : ¬ SameClass two_suits 1 (signal_at two_suits 1 0) (signal_at two_suits 1 4)

-- four hands, twelve deals, all ties, one class
pub record OneRank : Type 0 where
  pub hands : signals one_rank 1 ≡ card_signal 0 ∷ card_signal 1 ∷ card_signal 2 ∷ card_signal 3 ∷ []
  pub count : length (deals one_rank) ≡ 12
  pub weight : sum_by (λ (d : Deal). d.weight) (deals one_rank) ≡ 12
  pub ties : leaves one_rank (card_signal 1) ≡ (1, pos 0) ∷ (1, pos 0) ∷ (1, pos 0) ∷ []
  pub alike : SameClass one_rank 1 (card_signal 0) (signal_at one_rank 1 0) × SameClass one_rank 1 (card_signal 0) (signal_at one_rank 1 1)
      × SameClass one_rank 1 (card_signal 0) (signal_at one_rank 1 2) × SameClass one_rank 1 (card_signal 0) (signal_at one_rank 1 3)
