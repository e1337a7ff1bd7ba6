-- The keys of a game's description, as each form writes them, and where each may stand. Source: this project's game files and strategy files.
use Rattle.std.specs.{Prelude.{ℕ, Bool, ◌&&◌, true, List, [], ◌∷◌, codes}, List.{list_any}, Str.{bytes_eq}}
use Rattle.toml.specs.Data.{Members, no_members, member}
use Rattle.gs_file.specs.{declared.fault.Key.{Key}, declared.fault.Place.{Place}, declared.form.Form.{Form}, declared.form.Form.TheVariants.{File, Json}}
use Rattle.gs_file.specs.{declared.version.Version.{Version}, declared.version.Version.TheVariants.{One, Two}}
use Rattle.gs_file.specs.declared.fault.Key.TheVariants as key

-- a key as a game file writes it
abbrev pub key_text : Key → List ℕ
key_text key.Version = codes "version"
key_text key.Ranks = codes "ranks"
key_text key.Suits = codes "suits"
key_text key.Copies = codes "copies"
key_text key.Ranking = codes "ranking"
key_text key.Bonus = codes "bonus"
key_text key.Ante = codes "ante"
key_text key.Round = codes "round"
key_text key.Private = codes "private"
key_text key.Public = codes "public"
key_text key.Tree = codes "tree"
key_text key.Bet = codes "bet"
key_text key.Cap = codes "cap"

-- the key of the rounds
abbrev pub rounds_key : Form → List ℕ
rounds_key File = codes "round"
rounds_key (Json version) = codes "rounds"

-- a key as a form writes it; the two forms differ in the key of the rounds
abbrev pub key_in : Form → Key → List ℕ
key_in form key.Round = rounds_key form
key_in form k = key_text k

-- the keys that may stand at the top, by version: `bonus`, the last, in version 2 alone
abbrev pub top_keys : Version → List Key
top_keys One = key.Version ∷ key.Ranks ∷ key.Suits ∷ key.Copies ∷ key.Ranking ∷ key.Ante ∷ key.Round ∷ []
top_keys Two = key.Version ∷ key.Ranks ∷ key.Suits ∷ key.Copies ∷ key.Ranking ∷ key.Ante ∷ key.Round ∷ key.Bonus ∷ []

-- the keys that may stand in a round with a tree
abbrev pub tree_keys : List Key
tree_keys = key.Private ∷ key.Public ∷ key.Tree ∷ []

-- the keys that may stand in a round with limit betting
abbrev pub limit_keys : List Key
limit_keys = key.Private ∷ key.Public ∷ key.Bet ∷ key.Cap ∷ []

-- the text is one of these keys
abbrev pub is_among : Form → List Key → List ℕ → Bool
is_among form keys name = list_any (λ key. bytes_eq (key_in form key) name) keys

-- each key of the table is one of these
abbrev pub has_only : Form → List Key → Members → Bool
has_only form keys no_members = true
has_only form keys (member name d rest) = is_among form keys name && has_only form keys rest

-- the place of a key at the top
abbrev pub top : Key → Place
top k = record { key = k; round = 0 }

-- the place of a key in a round
abbrev pub within_round : ℕ → Key → Place
within_round n k = record { key = k; round = n }
