-- What is printed for an input, or why it is refused.
use Rattle.std.specs.{Prelude.{◌≡◌, ℕ, List, Result, Ok, Err, Vec, string_bytes}, declared.alloc.Global.{Global}}
use Rattle.gs_file.specs.{Answers.{fault_of as game_fault_of}, Faults.{Fault}, Reading.{FileGame}}
use Rattle.gs_seq.specs.{declared.stop.SeqError.{SeqError}, declared.stop.SeqError.TheVariants.{Fault as Over, Memory}}
use Rattle.gs_seq.specs.declared.stop.SeqFault.TheVariants.{TooManySequences, TooManyCells}
use Rattle.gs_strategy.specs.{Checks.{ReadResult, Reads}, Faults.{Fault as StrategyFault, fault_of as store_fault_of}, Values.{Strategy}, Views.{parts_of}}
use Rattle.gs_reply.specs.Refusals.{Refusal, Bad_game, Unlike_pair, Overflows, Many_pivots, Too_large, Bad_strategy, Wrong_number, Bad_query, Other_game}
use Rattle.gs_reply.specs.{Refusals.{Bad_certificate}, declared.refusals.Refusal.{Refusal as Told}, declared.refusals.Limit.TheVariants.{Sequences, Cells}}
use Rattle.gs_reply.specs.declared.refusals.Refusal.TheVariants as told
use Rattle.gs_reply.specs.{declared.refusals.Stop.{Stop}, declared.refusals.Which.{Which}}
use Rattle.gs_reply.specs.declared.refusals.Stop.TheVariants as stop

-- a text to print, or a refusal
pub data Reply : Type 0 where
  Prints : List ℕ → Reply
  Refuses : Refusal → Reply

-- `says` holds of the game that a file states and the reply; a file that states no game is refused for its first fault
abbrev pub OfReading : (FileGame → Reply → Type 0) → Result FileGame Fault → Reply → Type 0
OfReading says (Ok g) reply = says g reply
OfReading says (Err why) reply = reply ≡ Refuses (Bad_game why)

-- a file that states no game is refused for its first fault
abbrev pub IsBadGame : Result FileGame Fault → Reply → Type 0
IsBadGame read reply = (why : Fault) × (read ≡ Err why) × (reply ≡ Refuses (Bad_game why))

-- `says` holds of the strategy that was read and the reply; bytes that hold none are refused for their first fault, naming which file it is
abbrev pub OfRead : Which → (Strategy → Reply → Type 0) → ReadResult → Reply → Type 0
OfRead which says (Ok s) reply = says s reply
OfRead which says (Err why) reply = reply ≡ Refuses (Bad_strategy which why)

-- the reply to the bytes of a strategy file: `says` holds of the strategy that they hold and the reply, or they are refused for their first fault
pub record OfFile (which : Which) (says : Strategy → Reply → Type 0) (bytes : List ℕ) (reply : Reply) : Type 0 where
  pub read : ReadResult
  pub reads : Reads bytes read
  pub said : OfRead which says read reply

-- bytes that hold no strategy are refused for their first fault
abbrev pub IsBadStrategy : Which → List ℕ → Reply → Type 0
IsBadStrategy which bytes reply = (why : StrategyFault) × Reads bytes (Err why) × (reply ≡ Refuses (Bad_strategy which why))

-- ---- what the program returns

-- the refusal that a refusal of the program is
abbrev pub refusal_of : Told → Refusal
refusal_of (told.BadGame fault) = Bad_game (game_fault_of fault)
refusal_of (told.Unlike round first second) = Unlike_pair round (string_bytes first) (string_bytes second)
refusal_of (told.Overflows at) = Overflows at
refusal_of told.ManyPivots = Many_pivots
refusal_of (told.TooLarge limit) = Too_large limit
refusal_of (told.BadStrategy which fault) = Bad_strategy which (store_fault_of fault)
refusal_of (told.WrongNumber wrong) = Wrong_number wrong.name.now (parts_of wrong.stated) (parts_of wrong.found)
refusal_of (told.BadQuery fault) = Bad_query fault
refusal_of told.OtherGame = Other_game
refusal_of (told.BadCertificate text) = Bad_certificate text.items

-- the program's refusal is this one
abbrev pub IsRefusal : Told → Refusal → Type 0
IsRefusal told why = why ≡ refusal_of told

-- the program's refusal is one of which `says` holds
abbrev pub Tells : (Reply → Type 0) → Told → Type 0
Tells says told = (why : Refusal) × says (Refuses why) × IsRefusal told why

-- memory ran out, which may happen at any time; or the program refuses the input, and `says` holds of the refusal
abbrev pub StopsFor : (Reply → Type 0) → Stop → Type 0
StopsFor says stop.Memory = Unit {0}
StopsFor says (stop.Refused told) = Tells says told

-- `says` holds of the text or the refusal that a command returns, unless memory ran out
abbrev pub Answers : (Reply → Type 0) → Result (Vec ℕ Global) Stop → Type 0
Answers says (Ok text) = says (Prints text.items)
Answers says (Err stop) = StopsFor says stop

-- why a command stops where there is no game in sequence form
abbrev pub of_seq_error : SeqError → Stop
of_seq_error Memory = stop.Memory
of_seq_error (Over (TooManySequences player count)) = stop.Refused (told.TooLarge (Sequences player count))
of_seq_error (Over (TooManyCells count)) = stop.Refused (told.TooLarge (Cells count))
