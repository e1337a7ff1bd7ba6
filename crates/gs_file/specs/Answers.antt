-- What a function of the program returns, compared with what reading gives.
use Rattle.std.specs.Prelude.{◌≡◌, Result, Ok, Err}
use Rattle.gs_game.specs.FaultOf.{refusal_of}
use Rattle.gs_file.specs.Faults.{Fault, not_text, not_toml, missing_key, unknown_key, wrong_type, bad_version, range, deck, tree_text, game}
use Rattle.gs_file.specs.{declared.fault.FileError.{FileError}, declared.fault.FileFault.{FileFault}}
use Rattle.gs_file.specs.declared.fault.FileError.TheVariants as errors
use Rattle.gs_file.specs.declared.fault.FileFault.TheVariants as fault

-- the fault of a file that a fault of the program is
abbrev pub fault_of : FileFault → Fault
fault_of fault.NotText = not_text
fault_of fault.NotToml = not_toml
fault_of (fault.MissingKey place) = missing_key place
fault_of (fault.UnknownKey round) = unknown_key round
fault_of (fault.WrongType place) = wrong_type place
fault_of (fault.BadVersion version) = bad_version version
fault_of (fault.Range place) = range place
fault_of (fault.Deck why) = deck why
fault_of (fault.TreeText round why) = tree_text round why
fault_of (fault.Game why) = game (refusal_of why)

-- reading gives this fault first
abbrev pub Fails : {Y : Type 0} → FileFault → Result Y Fault → Type 0
Fails why read = read ≡ Err (fault_of why)

-- what a function returned, seen by view, is what reading gives
abbrev pub Gives : {X Y : Type 0} → (X → Y) → Result X FileFault → Result Y Fault → Type 0
Gives view (Ok x) read = read ≡ Ok (view x)
Gives view (Err why) read = Fails why read

-- reading gives this fault first; memory may run out at any time, and this is never reported as a fault
abbrev pub MayFail : {Y : Type 0} → FileError → Result Y Fault → Type 0
MayFail errors.Memory read = Unit {0}
MayFail (errors.Fault why) read = Fails why read

-- what a function returned, seen by view, is what reading gives, unless memory ran out
abbrev pub MayGive : {X Y : Type 0} → (X → Y) → Result X FileError → Result Y Fault → Type 0
MayGive view (Ok x) read = read ≡ Ok (view x)
MayGive view (Err e) read = MayFail e read
