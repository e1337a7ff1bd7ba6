-- The texts of cards and of raw signals: `Js` for a card, `JsQs+Ks` for one round, parts joined by `/` for several rounds.
use Rattle.std.specs.Prelude.{ℕ, ◌≡◌, ◌≢◌, List, [], ◌∷◌, ◌++◌, Option, Some, None, flat_map}
use Rattle.std.proofs.Common.{Bor}
use Rattle.gs_card.specs.Decks.{DeckValue, card_text}
use Rattle.gs_model.specs.Signals.{Seen, Signal}

-- the text of a group: its cards, one after the other
abbrev pub group_text : DeckValue → List ℕ → List ℕ
group_text d g = flat_map (card_text d) g

-- the text of a round's public cards: `+` and the cards, or nothing where there are none
abbrev pub public_text : DeckValue → List ℕ → List ℕ
public_text d [] = []
public_text d (card ∷ g) = 43 ∷ group_text d (card ∷ g)

-- the text of what a player sees in one round: the own cards, then the public ones
abbrev pub seen_text : DeckValue → Seen → List ℕ
seen_text d p = group_text d p.own ++ public_text d p.public

-- the text of the rounds after the first, with `/` before each
abbrev pub rounds_text : DeckValue → Signal → List ℕ
rounds_text d [] = []
rounds_text d (p ∷ s) = 47 ∷ (seen_text d p ++ rounds_text d s)

-- the text of a raw signal: a part for each round, joined by `/`
abbrev pub signal_text : DeckValue → Signal → List ℕ
signal_text d [] = []
signal_text d (p ∷ s) = seen_text d p ++ rounds_text d s

-- what follows `front` at the beginning of a text; none where the text does not begin with it
abbrev pub IsRest : List ℕ → List ℕ → Option (Bor (List ℕ)) → Type 0
IsRest text front None = (t : List ℕ) → text ≢ front ++ t
IsRest text front (Some rest) = text ≡ front ++ rest.now
