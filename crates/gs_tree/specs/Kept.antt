-- What is kept of the last-round signals to weigh deals: the ways to take what each shows, and its own and public cards, one signal after the other. It is
-- made round by round.
use Rattle.std.specs.Prelude.{ℕ, ◌≡◌, ◌<◌, List, length, map, flat_map}
use Rattle.gs_tree.specs.declared.kept.Hands.{Hands}
use Rattle.gs_model.specs.{Deals.{path_weight}, Game.{Game}, Signals.{own_cards, public_cards, signal_at, signals}}

-- for each signal of a round the ways to take what it shows, its own cards and its public cards; each signal has `own` own and `public` public cards
pub record AreKeptCards (g : Game) (round : ℕ) (paths owns publics : List ℕ) (own public : ℕ) : Type 0 where
  pub weighed : paths ≡ map (path_weight g.copies) (signals g round)
  pub owned : owns ≡ flat_map own_cards (signals g round)
  pub shown : publics ≡ flat_map public_cards (signals g round)
  pub own_each : (i : ℕ) → i < length (signals g round) → length (own_cards (signal_at g round i)) ≡ own
  pub public_each : (i : ℕ) → i < length (signals g round) → length (public_cards (signal_at g round i)) ≡ public

-- the hands of a round's signals
abbrev pub AreHands : Game → ℕ → Hands → Type 0
AreHands g round h = AreKeptCards g round h.paths h.owns.items h.publics.items h.own h.public
