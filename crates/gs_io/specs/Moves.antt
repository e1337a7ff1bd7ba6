-- What a read of all bytes and a write of all bytes do to a source and a sink.
use Rattle.std.specs.{Prelude.{◌≡◌, ℕ, ◌+◌, ◌<◌, ◌≤◌, List, length, take, Result, Ok, Err}, declared.option.Option.{Option}}
use Rattle.std.specs.Io.KnownBytes.{Consumes, Appends, IsAtEnd}
use Rattle.gs_io.specs.{Causes.{Rose}, declared.InputError.{InputError}, declared.WriteStop.{WriteStop}}
use Rattle.gs_io.specs.declared.InputError.TheVariants as error
use Rattle.gs_io.specs.declared.InputFault.TheVariants as fault
use Rattle.gs_io.specs.declared.WriteStop.TheVariants as write_stop

-- a prefix of the bytes that were left was taken, at most `most` bytes
abbrev pub TookPrefix : ℕ → Option (List ℕ) → Option (List ℕ) → Type 0
TookPrefix most old new = (bytes : List ℕ) × Consumes old new bytes × (length bytes ≤ most)

-- What a read of all bytes does, for each result. `left` of the source goes from `old` to `new`,
-- and its count of faults from `before` to `now`. `items` are the bytes of the result.
--   Ok: these were all the bytes that were left, and no more than the limit; no read failed
--   Failed: a read failed, after some bytes
--   TooLong: there are more bytes than the limit; one more than the limit was taken, and no read failed
--   Memory: there was no room for the bytes that were taken; no read failed
abbrev pub ReadsAll : {V : Type 0} → (V → List ℕ) → ℕ → Option (List ℕ) → Option (List ℕ) → ℕ → ℕ → Result V InputError → Type 0
ReadsAll items limit old new before now (Ok v) =
    Consumes old new (items v) × IsAtEnd new × (length (items v) ≤ limit) × (now ≡ before)
ReadsAll items limit old new before now (Err (error.Fault fault.Failed)) = TookPrefix (limit + 1) old new × Rose before now
ReadsAll items limit old new before now (Err (error.Fault fault.TooLong)) =
    ((bytes : List ℕ) × Consumes old new bytes × (length bytes ≡ limit + 1)) × (now ≡ before)
ReadsAll items limit old new before now (Err error.Memory) = TookPrefix (limit + 1) old new × (now ≡ before)

-- What a write of all bytes does, for each result. `given` of the sink goes from `old` to `new`, and its count of faults from `before` to `now`.
--   Ok: all the bytes went out, and no write failed
--   Fault: a write failed after exactly the first `written` bytes, which are not all
abbrev pub WritesAll : List ℕ → Option (List ℕ) → Option (List ℕ) → ℕ → ℕ → {T : Type 0} → Result T WriteStop → Type 0
WritesAll bytes old new before now (Ok v) = Appends old new bytes × (now ≡ before)
WritesAll bytes old new before now (Err (write_stop.Fault written)) =
    (written < length bytes) × Appends old new (take written bytes) × Rose before now
