-- What the tables of signals keep for each signal: the groups that its last round shows.
use Rattle.std.specs.Prelude.{ℕ, List, take}
use Rattle.gs_model.specs.{Game.{Round}, Signals.{Seen, Signal, own_cards, public_cards}}
use Rattle.gs_tree.specs.{declared.few.FewCards.{FewCards}, declared.layer.Shown.{Shown}, declared.layer.Pile.{Pile}}
use Rattle.gs_tree.specs.declared.layer.Pile.TheVariants.{Own, Public}

-- the cards of a small group
abbrev pub cards_of : FewCards → List ℕ
cards_of f = take f.len f.cards

-- what the last round of a signal shows, as the definitions see it
abbrev pub seen_of : Shown → Seen
seen_of s = record { own = cards_of s.own; public = cards_of s.public }

-- the cards in one pile of what a player sees in one round
abbrev pub seen_on : Pile → Seen → List ℕ
seen_on Own p = p.own
seen_on Public p = p.public

-- the cards in one pile of a signal
abbrev pub cards_on : Pile → Signal → List ℕ
cards_on Own s = own_cards s
cards_on Public s = public_cards s

-- how many cards a round shows in one pile
abbrev pub shown_by : Pile → Round → ℕ
shown_by Own r = r.private
shown_by Public r = r.public
