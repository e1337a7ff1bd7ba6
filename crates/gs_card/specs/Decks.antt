-- A deck: the letters of its ranks, lowest first, the letters of its suits, and how many copies of each kind there are. Kinds stand rank by rank
-- and within a rank by suit. Source: this project's game files.
use Rattle.std.specs.Prelude.{ℕ, ◌*◌, ◌-◌, ◌≡◌, ◌≤◌, ◌<◌, ◌==◌, ◌||◌, Bool, false, true, List, [], ◌∷◌, length, map, replicate, All, slice_index}
use Rattle.std.specs.{List.{list_any}, Char.{is_ascii_alphanumeric}}
use Rattle.gs_model.specs.Outcome.{rank_of, suit_of}
use Rattle.gs_card.specs.declared.faults.TheConstants.{MOST_KINDS}

-- a deck as contracts see it: the letters of the ranks and of the suits, and the number of copies of each kind
pub record DeckValue : Type 0 where
  pub ranks : List ℕ
  pub suits : List ℕ
  pub counts : List ℕ

-- how many kinds of cards a deck has
abbrev pub kinds : DeckValue → ℕ
kinds d = length d.ranks * length d.suits

-- whether some member of a list occurs in it twice
abbrev pub repeats : List ℕ → Bool
repeats [] = false
repeats (x ∷ xs) = list_any (λ y. y == x) xs || repeats xs

-- what every deck is: 1 to `MOST_KINDS` kinds, which is 52; letters that are ASCII letters or digits and differ within the ranks and within the suits; for each kind a count from 0
-- to 9
pub record IsDeck (d : DeckValue) : Type 0 where
  pub some : 0 < kinds d
  pub few : kinds d ≤ MOST_KINDS
  pub rank_letters : All (λ c. is_ascii_alphanumeric c ≡ true) d.ranks
  pub suit_letters : All (λ c. is_ascii_alphanumeric c ≡ true) d.suits
  pub ranks_differ : repeats d.ranks ≡ false
  pub suits_differ : repeats d.suits ≡ false
  pub counted : length d.counts ≡ kinds d
  pub copies : All (λ n. n ≤ 9) d.counts

-- the number of copies of each kind, from a text with one digit for each kind; the empty text stands for one copy of each kind
abbrev pub counts_of : ℕ → List ℕ → List ℕ
counts_of kinds [] = replicate kinds 1
counts_of kinds (c ∷ cs) = map (λ digit. digit - 48) (c ∷ cs)

-- the deck that three texts give: ranks, suits and copies
abbrev pub deck_of_texts : List ℕ → List ℕ → List ℕ → DeckValue
deck_of_texts ranks suits copies = record { ranks = ranks; suits = suits; counts = counts_of (length ranks * length suits) copies }

-- the text of a card: the letter of its rank and the letter of its suit
abbrev pub card_text : DeckValue → ℕ → List ℕ
card_text d card =
    slice_index d.ranks (rank_of (length d.suits) card) ∷ slice_index d.suits (suit_of (length d.suits) card) ∷ []

-- the text is that of this kind of card of the deck
pub record IsTextOf (d : DeckValue) (text : List ℕ) (card : ℕ) : Type 0 where
  pub of_deck : card < kinds d
  pub letters : text ≡ card_text d card
