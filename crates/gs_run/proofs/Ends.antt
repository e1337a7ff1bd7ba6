-- What a line that is told leaves at the errors' end.
use Rattle.std.proofs.{Common.{ℕ, List, length, Result, Ok, Err, Option, arith}, Math.Seq.{take-length}}
use Rattle.gs_io.specs.{Moves.{WritesAll}, declared.WriteStop.{WriteStop}}
use Rattle.gs_io.specs.declared.WriteStop.TheVariants as write_stop
use Rattle.gs_run.specs.Told.{TellsTo}

pub tells : {T : Type 0} (line : List ℕ) (old new : Option (List ℕ)) (before now : ℕ) (r : Result T WriteStop) → WritesAll line old new before now r
    → TellsTo old before new now line
tells line old new before now (Ok v) h = record { count = length line; front = rw take-length h.0; later = omega arith; whole = λ lt. absurd (omega arith) }
tells line old new before now (Err (write_stop.Fault written)) h = record { count = written; front = h.1; later = h.2.later; whole = λ lt. h.2 }
