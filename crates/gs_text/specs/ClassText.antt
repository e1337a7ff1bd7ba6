-- The text of classes. Source: this project's printed texts.
use Rattle.std.specs.{Prelude.{ℕ, ◌≡◌, ◌<◌, ◌≤◌, ◌==◌, ◌++◌, List, [], map, length, flat_map, codes, if◌then◌else◌}, List.{range_with_len, zip}, Fmt.{decimal}}
use Rattle.gs_model.specs.{Classes.{ClassLists, class_count, list_of}, Deals.{deals}, Frame.{frame_of, total_weight}, Game.{Game, round_count}}
use Rattle.gs_model.specs.{Numbering.{greatest}, Signals.{signals}}
use Rattle.gs_card.specs.Decks.{DeckValue}
use Rattle.gs_tree.specs.Texts.{signal_text}

-- a space and the text of each signal of class c; each of `members` is a signal's text with its class
abbrev pub members_text : ℕ → List (List ℕ × ℕ) → List ℕ
members_text c members = flat_map (λ m. if m.1 == c then codes " " ++ m.0 else []) members

-- how the line of a class begins: its number and a colon
abbrev pub begin_line : ℕ → List ℕ
begin_line c = decimal c ++ codes ":"

-- a class's line without the line feed: its number, a colon, and its members in the order of the signals
abbrev pub open_line : List (List ℕ × ℕ) → ℕ → List ℕ
open_line members c = begin_line c ++ members_text c members

-- a class's whole line
abbrev pub class_line : List (List ℕ × ℕ) → ℕ → List ℕ
class_line members c = open_line members c ++ codes "\n"

-- the line of a round, with its numbers of classes and signals
unfoldable pub round_line : ℕ → ℕ → ℕ → List ℕ
round_line round classes signals = codes "round " ++ decimal round ++ codes " classes " ++ decimal classes ++ codes " signals " ++ decimal signals
    ++ codes "\n"

-- a round's text, from the texts of its signals and their classes: its line, and a line for each class in order
abbrev pub round_text : ℕ → List (List ℕ) → List ℕ → List ℕ
round_text round texts classes =
    round_line round (greatest classes) (length texts) ++ flat_map (class_line (zip texts classes)) (range_with_len 1 (greatest classes))

-- the texts of the signals of a round
abbrev pub signal_texts : DeckValue → Game → ℕ → List (List ℕ)
signal_texts d g round = map (signal_text d) (signals g round)

-- the class text of a game with the letters of the deck: each round in order
abbrev pub class_text : DeckValue → Game → ClassLists → List ℕ
class_text d g lists = flat_map (λ round. round_text round (signal_texts d g round) (list_of lists round)) (range_with_len 1 (round_count g))

-- class lists for a game: one for each round, with a number for each of its signals
pub record AreListsOf (g : Game) (lists : ClassLists) : Type 0 where
  pub rounds : length lists ≡ round_count g
  pub lengths : (round : ℕ) → 0 < round → round ≤ round_count g → length (list_of lists round) ≡ length (signals g round)

-- the line of the deals, with their number and their weight
unfoldable pub deals_line : ℕ → ℕ → List ℕ
deals_line deals weight = codes "deals " ++ decimal deals ++ codes " weight " ++ decimal weight ++ codes "\n"

-- the summary of a game's classes: the deals, and each round in order, without its classes
abbrev pub summary_text : Game → ClassLists → List ℕ
summary_text g lists =
    deals_line (length (deals g)) (total_weight (frame_of g))
    ++ flat_map (λ round. round_line round (class_count lists round) (length (signals g round))) (range_with_len 1 (round_count g))
