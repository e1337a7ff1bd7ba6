-- What a game file states, without an order of checks: the keys of its tables, with their types and ranges, and the game.
-- Source: this project's game files.
use Rattle.std.specs.{Prelude.{ℕ, pos, ◌≡◌, ◌≤◌, ◌⊎◌, true, List, [], ◌∷◌, Some, None, length, replicate}, Str.{is_utf8}}
use Rattle.toml.specs.{Data.{Data, Items, Members, get_member, as_str, as_integer, as_array, as_table}, Parse.{parse_document}}
use Rattle.gs_bet.specs.Limit.{limit_bet}
use Rattle.gs_card.specs.{DeckFaults.{fault_of as deck_fault_of}, Decks.{DeckValue, deck_of_texts}}
use Rattle.gs_game.specs.Rules.{KeepsRules}
use Rattle.gs_model.specs.{Betting.{Bet}, Game.{Round, Ranking}, Outcome.{categories}}
use Rattle.gs_file.specs.{JsonForm.{ranking_text}, Keys.{key_in, has_only, top_keys, tree_keys, limit_keys}, Reading.{FileGame, file_rules}}
use Rattle.gs_file.specs.{Tables.{array_items}, TreeTexts.{IsTreeText}, declared.fault.Key.{Key}, declared.form.Form.TheVariants.{File}}
use Rattle.gs_file.specs.declared.version.Version.TheVariants.{One, Two}
use Rattle.gs_file.specs.declared.fault.Key.TheVariants as key

-- the table has the key, with a value of which `P` holds
abbrev pub Has : Members → Key → (Data → Type 0) → Type 0
Has table k P = (d : Data) × (get_member (key_in File k) table ≡ Some d) × P d

-- the table does not have the key
abbrev pub HasNo : Members → Key → Type 0
HasNo table k = get_member (key_in File k) table ≡ None

-- the table has no keys but these
abbrev pub HasOnly : Members → List Key → Type 0
HasOnly table keys = has_only File keys table ≡ true

-- ---- values

-- the value is this text
abbrev pub IsText : List ℕ → Data → Type 0
IsText text d = as_str d ≡ Some text

-- the value is this whole number, which is from low to high
abbrev pub IsNumber : ℕ → ℕ → ℕ → Data → Type 0
IsNumber low high n d = (as_integer d ≡ Some (pos n)) × (low ≤ n) × (n ≤ high)

-- two lists have the same length, and `R` holds of their members one by one
abbrev pub OneByOne : {A B : Type 0} → (A → B → Type 0) → List A → List B → Type 0
OneByOne R [] [] = Unit {0}
OneByOne R [] (y ∷ ys) = ⊥
OneByOne R (x ∷ xs) [] = ⊥
OneByOne R (x ∷ xs) (y ∷ ys) = R x y × OneByOne R xs ys

-- the value is a list, and `R` holds of the members of `xs` and its items one by one
abbrev pub IsList : {A : Type 0} → (A → Data → Type 0) → List A → Data → Type 0
IsList R xs d = (items : Items) × (as_array d ≡ Some items) × OneByOne R xs (array_items items)

-- ---- a round

-- the table states the betting: by a tree's text, or by a bet from 1 to 2,048 chips and a cap from 0 to 8
abbrev pub StatesBetting : Bet → Members → Type 0
StatesBetting t table =
    ((text : List ℕ) × HasOnly table tree_keys × Has table key.Tree (IsText text) × IsTreeText text t)
    ⊎ ((bet : ℕ) × (cap : ℕ) × HasOnly table limit_keys × Has table key.Bet (IsNumber 1 2048 bet) × Has table key.Cap (IsNumber 0 8 cap)
    × (t ≡ limit_bet bet cap))

-- the table states the round
pub record StatesRound (round : Round) (table : Members) : Type 0 where
  pub private : Has table key.Private (IsNumber 0 2 round.private)
  pub public : Has table key.Public (IsNumber 0 3 round.public)
  pub betting : StatesBetting round.tree table

-- the value is a table that states the round
abbrev pub IsRound : Round → Data → Type 0
IsRound round d = (table : Members) × (as_table d ≡ Some table) × StatesRound round table

-- ---- the game

-- the text of the copies, which is empty if the key is left out
abbrev pub StatesCopies : List ℕ → Members → Type 0
StatesCopies copies table = (HasNo table key.Copies × (copies ≡ [])) ⊎ Has table key.Copies (IsText copies)

-- the texts of ranks, suits and copies have no fault, and make the deck
pub record StatesDeck (d : DeckValue) (table : Members) : Type 0 where
  pub ranks : Has table key.Ranks (IsText d.ranks)
  pub suits : Has table key.Suits (IsText d.suits)
  pub copies : List ℕ
  pub copies_are : StatesCopies copies table
  pub good : deck_fault_of d.ranks d.suits copies ≡ None
  pub made : d ≡ deck_of_texts d.ranks d.suits copies

-- version 1 has no bonuses, so that all are 1; version 2 has one from 1 to 9 for each category
abbrev pub StatesBonus : Ranking → List ℕ → Members → Type 0
StatesBonus r bonus table =
    (HasOnly table (top_keys One) × Has table key.Version (IsNumber 1 1 1) × (bonus ≡ replicate (categories r) 1))
    ⊎ (HasOnly table (top_keys Two) × Has table key.Version (IsNumber 2 2 2) × Has table key.Bonus (IsList (IsNumber 1 9) bonus)
    × (length bonus ≡ categories r))

-- the table states the game, which keeps the rules
pub record StatesGame (g : FileGame) (table : Members) : Type 0 where
  pub deck : StatesDeck g.deck table
  pub ranking : Has table key.Ranking (IsText (ranking_text g.ranking))
  pub bonus : StatesBonus g.ranking g.bonus table
  pub ante : Has table key.Ante (IsNumber 1 4096 g.ante)
  pub rounds : Has table key.Round (IsList IsRound g.rounds)
  pub lawful : KeepsRules (file_rules g)

-- the bytes are UTF-8 and TOML, and their table states the game
abbrev pub FileStates : List ℕ → FileGame → Type 0
FileStates bytes g = (is_utf8 bytes ≡ true) × ((table : Members) × (parse_document bytes ≡ Some table) × StatesGame g table)
