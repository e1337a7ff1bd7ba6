-- What a game file or a JSON value states, or the first check that fails. The checks are made in this order. Source: this project's game files and
-- strategy files.
use Rattle.std.specs.Prelude.{ℕ, zero, suc, ℤ, pos, ◌-◌, ◌==◌, ◌||◌, Bool, true, false, List, Option, Some, None, is_some, Result, Ok, Err, codes, length}
use Rattle.std.specs.{Prelude.{replicate, nat_lt, if◌then◌else◌}, Option.{ok_or}, Str.{bytes_eq, is_utf8}}
use Rattle.toml.specs.{Parse.{parse_document}, Data.{Data, Members, get_member}}
use Rattle.gs_bet.specs.{Faults.{mistake_fault as tree_fault_of}, Limit.{limit_bet}, Reading.{Read, all_of}}
use Rattle.gs_card.specs.{DeckFaults.{fault_of as deck_fault_of}, Decks.{DeckValue, deck_of_texts}, declared.faults.DeckFault.{DeckFault}}
use Rattle.gs_game.specs.Refusals.{first_refusal, rounds as rounds_refused, Refusal}
use Rattle.gs_json.specs.Steps.{◌>>=◌}
use Rattle.gs_model.specs.{Betting.{Bet}, Game.{Game, Round as RoundRules, Ranking, High, Pair, Three}, Outcome.{categories}}
use Rattle.gs_file.specs.{Faults.{Fault, not_text, not_toml, bad_version, range, deck, tree_text, game}, declared.version.Version.TheVariants.{One, Two}}
use Rattle.gs_file.specs.Keys.{top, within_round, top_keys, tree_keys, limit_keys, key_text}
use Rattle.gs_file.specs.{Tables.{required, only, whole_number, text, text_or_empty, tables_in, whole_numbers_in, each, within}, declared.fault.Key.{Key}}
use Rattle.gs_file.specs.{declared.form.Form.{Form}, declared.form.Form.TheVariants.{File, Json}, declared.version.Version.{Version}}
use Rattle.gs_file.specs.declared.fault.Key.TheVariants as key

-- ---- the text

-- the bytes as a text, if they are UTF-8
abbrev pub utf8_text : List ℕ → Result (List ℕ) Fault
utf8_text bytes = if is_utf8 bytes then Ok bytes else Err not_text

-- the table of a text, if it is TOML
abbrev pub parsed_at : List ℕ → Result Members Fault
parsed_at text = ok_or (parse_document text) not_toml

-- ---- the top

-- the version of this number: 1 or 2 in a game file, the version of the form in a JSON value; any other number is refused
abbrev pub version_of : Form → ℤ → Result Version Fault
version_of File (pos (suc zero)) = Ok One
version_of File (pos (suc (suc zero))) = Ok Two
version_of (Json One) (pos (suc zero)) = Ok One
version_of (Json Two) (pos (suc (suc zero))) = Ok Two
version_of form z = Err (bad_version z)

-- the version that a table states
unfoldable pub version_at : Form → Members → Result Version Fault
version_at form table = do
  value ← required form table (top key.Version)
  number ← whole_number (top key.Version) value
  version_of form number

-- the value of `copies`, which a game file may leave out
abbrev pub copies_value : Form → Members → Result (Option Data) Fault
copies_value File table = Ok (get_member (key_text key.Copies) table)
copies_value (Json version) table = required (Json version) table (top key.Copies) >>= λ d. Ok (Some d)

-- the value of `bonus`, which version 2 has and version 1 has not
abbrev pub bonus_value : Form → Version → Members → Result (Option Data) Fault
bonus_value form One table = Ok None
bonus_value form Two table = required form table (top key.Bonus) >>= λ d. Ok (Some d)

-- the values at the top, as TOML values; a game file may leave out `copies`, and `bonus` stands in version 2 alone
pub record TopValues : Type 0 where
  pub ranks : Data
  pub suits : Data
  pub copies : Option Data
  pub ranking : Data
  pub bonus : Option Data
  pub ante : Data
  pub rounds : Data

-- the values at the top; checked are the version, then that no unknown key stands there, then that each required key does
unfoldable pub values_at : Form → Members → Result TopValues Fault
values_at form table = do
  version ← version_at form table
  _ ← only form (top_keys version) 0 table
  ranks ← required form table (top key.Ranks)
  suits ← required form table (top key.Suits)
  copies ← copies_value form table
  ranking ← required form table (top key.Ranking)
  bonus ← bonus_value form version table
  ante ← required form table (top key.Ante)
  rounds ← required form table (top key.Round)
  Ok (record { ranks = ranks; suits = suits; copies = copies; ranking = ranking; bonus = bonus; ante = ante; rounds = rounds })

-- the integers of `bonus`, if it is there
abbrev pub bonus_numbers : Option Data → Result (Option (List ℤ)) Fault
bonus_numbers None = Ok None
bonus_numbers (Some d) = whole_numbers_in (top key.Bonus) d >>= λ numbers. Ok (Some numbers)

-- the fields at the top, each of its type
pub record Top : Type 0 where
  pub ranks : List ℕ
  pub suits : List ℕ
  pub copies : List ℕ
  pub ranking : List ℕ
  pub bonus : Option (List ℤ)
  pub ante : ℤ
  pub rounds : List Members

-- the fields at the top from their values, each of its type
unfoldable pub typed_at : TopValues → Result Top Fault
typed_at values = do
  ranks ← text (top key.Ranks) values.ranks
  suits ← text (top key.Suits) values.suits
  copies ← text_or_empty (top key.Copies) values.copies
  ranking ← text (top key.Ranking) values.ranking
  bonus ← bonus_numbers values.bonus
  ante ← whole_number (top key.Ante) values.ante
  rounds ← tables_in (top key.Round) values.rounds
  Ok (record { ranks = ranks; suits = suits; copies = copies; ranking = ranking; bonus = bonus; ante = ante; rounds = rounds })

-- ---- the rounds

-- there are 1 to 4 rounds
abbrev pub counted : List Members → Result (Unit {0}) Fault
counted rounds = if nat_lt (length rounds) 1 || nat_lt 4 (length rounds) then Err (game (rounds_refused (length rounds))) else Ok tt

-- the betting of a round: a tree's text, or a bet and a cap
pub data Play (N : Type 0) : Type 0 where
  Tree_text : List ℕ → Play N
  Limit_of : (bet cap : N) → Play N

-- a round: its numbers of private and public cards, and its betting
pub record Round (N : Type 0) : Type 0 where
  pub private : N
  pub public : N
  pub play : Play N

-- whether a round states its tree: in a game file if the key `tree` is there, in JSON always
abbrev pub has_tree : Form → Members → Bool
has_tree File table = is_some (get_member (key_text key.Tree) table)
has_tree (Json version) table = true

-- the values that state a round's betting: a tree's text, or a bet and a cap
pub data PlayValues : Type 0 where
  Tree_value : Data → PlayValues
  Limit_values : (bet cap : Data) → PlayValues

-- the keys that may stand in a round, with a tree or without
abbrev pub round_keys : Bool → List Key
round_keys true = tree_keys
round_keys false = limit_keys

-- the values of a round's betting
abbrev pub play_values : Form → ℕ → Members → Bool → Result PlayValues Fault
play_values form n table true = required form table (within_round n key.Tree) >>= λ tree. Ok (Tree_value tree)
play_values form n table false = do
  bet ← required form table (within_round n key.Bet)
  cap ← required form table (within_round n key.Cap)
  Ok (Limit_values bet cap)

-- a round's betting: its tree is a string, its bet and its cap are integers
abbrev pub play_typed : ℕ → PlayValues → Result (Play ℤ) Fault
play_typed n (Tree_value tree) = text (within_round n key.Tree) tree >>= λ words. Ok (Tree_text words)
play_typed n (Limit_values bet cap) = do
  bet ← whole_number (within_round n key.Bet) bet
  cap ← whole_number (within_round n key.Cap) cap
  Ok (Limit_of bet cap)

-- a round: exactly the keys `private` and `public`, which are integers, and those of its betting
unfoldable pub round_table_at : Form → ℕ → Members → Result (Round ℤ) Fault
round_table_at form n table = do
  _ ← only form (round_keys (has_tree form table)) n table
  private ← required form table (within_round n key.Private)
  public ← required form table (within_round n key.Public)
  values ← play_values form n table (has_tree form table)
  private ← whole_number (within_round n key.Private) private
  public ← whole_number (within_round n key.Public) public
  play ← play_typed n values
  Ok (record { private = private; public = public; play = play })

-- ---- the ranges

-- the ranking that the word `high`, `pair` or `three` names
abbrev pub ranking_at : List ℕ → Result Ranking Fault
ranking_at word =
    if bytes_eq word (codes "high") then Ok High
    else if bytes_eq word (codes "pair") then Ok Pair
    else if bytes_eq word (codes "three") then Ok Three
    else Err (range (top key.Ranking))

-- one bonus for each category, each from 1 to 9; without `bonus` all are 1
unfoldable pub bonus_at : Ranking → Option (List ℤ) → Result (List ℕ) Fault
bonus_at r None = Ok (replicate (categories r) 1)
bonus_at r (Some numbers) =
    if length numbers == categories r then each (λ n. within (top key.Bonus) 1 9) 1 numbers else Err (range (top key.Bonus))

-- a bet is from 1 to 2,048 chips, and a cap from 0 to 8; a tree's text has no range
abbrev pub play_within : ℕ → Play ℤ → Result (Play ℕ) Fault
play_within n (Tree_text text) = Ok (Tree_text text)
play_within n (Limit_of bet cap) = do
  bet ← within (within_round n key.Bet) 1 2048 bet
  cap ← within (within_round n key.Cap) 0 8 cap
  Ok (Limit_of bet cap)

-- a round gives 0 to 2 private and 0 to 3 public cards, and its betting is in its ranges
unfoldable pub round_within : ℕ → Round ℤ → Result (Round ℕ) Fault
round_within n round = do
  private ← within (within_round n key.Private) 0 2 round.private
  public ← within (within_round n key.Public) 0 3 round.public
  play ← play_within n round.play
  Ok (record { private = private; public = public; play = play })

-- ---- the game

-- a game with the letters of its deck
pub record FileGame : Type 0 where
  pub deck : DeckValue
  pub ranking : Ranking
  pub bonus : List ℕ
  pub ante : ℕ
  pub rounds : List RoundRules

-- the game as the definitions of `gs_model` see it, without the letters of its deck
abbrev pub file_rules : FileGame → Game
file_rules g = record { suits = length g.deck.suits; copies = g.deck.counts; ranking = g.ranking; bonus = g.bonus; ante = g.ante; rounds = g.rounds }

-- a deck, unless its texts have a fault
abbrev pub deck_made : DeckValue → Option DeckFault → Result DeckValue Fault
deck_made d None = Ok d
deck_made d (Some why) = Err (deck why)

-- the deck that the texts of ranks, suits and copies make, or their first fault
abbrev pub deck_at : List ℕ → List ℕ → List ℕ → Result DeckValue Fault
deck_at ranks suits copies = deck_made (deck_of_texts ranks suits copies) (deck_fault_of ranks suits copies)

-- the tree that is read from a round's text, or the fault of the text
abbrev pub tree_read : ℕ → List ℕ → Read Bet → Result Bet Fault
tree_read n text (Ok (t, rest)) = Ok t
tree_read n text (Err (mistake, rest)) = Err (tree_text n (tree_fault_of mistake (length text - length rest)))

-- What reading the text of a round's tree gives. `all_of` of `gs_bet` reads it. The law `trees_are_read` says by the grammar alone what this gives.
abbrev pub tree_at : ℕ → List ℕ → Result Bet Fault
tree_at n text = tree_read n text (all_of text)

-- the tree of a round: that of its text, or that of limit betting with its bet and cap
abbrev pub play_tree : ℕ → Play ℕ → Result Bet Fault
play_tree n (Tree_text text) = tree_at n text
play_tree n (Limit_of bet cap) = Ok (limit_bet bet cap)

-- a round with its betting tree
unfoldable pub round_built : ℕ → Round ℕ → Result RoundRules Fault
round_built n round = do
  tree ← play_tree n round.play
  Ok (record { private = round.private; public = round.public; tree = tree })

-- the game, unless there is a refusal
abbrev pub unless_refused : FileGame → Option Refusal → Result FileGame Fault
unless_refused g None = Ok g
unless_refused g (Some why) = Err (game why)

-- the game if it keeps the rules, otherwise its first refusal
abbrev pub lawful : FileGame → Result FileGame Fault
lawful g = unless_refused g (first_refusal (file_rules g))

-- what a file states beside its deck, each in its range
pub record Stated : Type 0 where
  pub ranking : Ranking
  pub bonus : List ℕ
  pub ante : ℕ
  pub rounds : List (Round ℕ)

-- What a file states beside its deck. Checked are the number of rounds, the keys and types of each round, and the ranking. Then come the bonus, the ante
-- from 1 to 4,096 chips, and the ranges of each round.
unfoldable pub stated_fields_at : Form → Top → Result Stated Fault
stated_fields_at form fields = do
  _ ← counted fields.rounds
  rounds ← each (round_table_at form) 1 fields.rounds
  ranking ← ranking_at fields.ranking
  bonus ← bonus_at ranking fields.bonus
  ante ← within (top key.Ante) 1 4096 fields.ante
  rounds ← each round_within 1 rounds
  Ok (record { ranking = ranking; bonus = bonus; ante = ante; rounds = rounds })

-- the game that a table states, or the first check that fails: values, types, ranges, the deck, the trees, the rules of games
unfoldable pub game_at : Form → Members → Result FileGame Fault
game_at form table = do
  values ← values_at form table
  fields ← typed_at values
  stated ← stated_fields_at form fields
  cards ← deck_at fields.ranks fields.suits fields.copies
  rounds ← each round_built 1 stated.rounds
  lawful (record { deck = cards; ranking = stated.ranking; bonus = stated.bonus; ante = stated.ante; rounds = rounds })

-- the game that the bytes of a game file state, or their first fault
unfoldable pub read_at : List ℕ → Result FileGame Fault
read_at bytes = do
  text ← utf8_text bytes
  table ← parsed_at text
  game_at File table
