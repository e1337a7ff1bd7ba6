-- What `shrink` says of an input.
use Rattle.std.specs.Prelude.{◌≡◌, ℕ, List, Bool, true, false}
use Rattle.gs_card.specs.Decks.{DeckValue}
use Rattle.gs_file.specs.Reading.{FileGame, read_at, file_rules}
use Rattle.gs_model.specs.{Classes.{ClassLists}, Game.{Game}, SignalClasses.{IsSignalClasses}}
use Rattle.gs_text.specs.ClassText.{class_text, summary_text}
use Rattle.gs_reply.specs.Replies.{Reply, Prints, Refuses, OfReading}

-- the text of classes, or their summary, of a game with the letters of the deck
abbrev pub told : Bool → DeckValue → Game → ClassLists → List ℕ
told false d g lists = class_text d g lists
told true d g lists = summary_text g lists

-- the text is that of the signal classes of a game, those of recursive ordered game isomorphism, or their summary
pub record IsShrunk (summary : Bool) (g : FileGame) (text : List ℕ) : Type 0 where
  pub classes : ClassLists
  pub are : IsSignalClasses (file_rules g) classes
  pub printed : text ≡ told summary g.deck (file_rules g) classes

-- what `shrink` says of a game: the text of its signal classes; no game is refused
abbrev pub ShrinksGame : Bool → FileGame → Reply → Type 0
ShrinksGame summary g (Prints text) = IsShrunk summary g text
ShrinksGame summary g (Refuses why) = ⊥

-- what `shrink` says of the bytes of a game file
abbrev pub Shrinks : Bool → List ℕ → Reply → Type 0
Shrinks summary bytes reply = OfReading (ShrinksGame summary) (read_at bytes) reply
