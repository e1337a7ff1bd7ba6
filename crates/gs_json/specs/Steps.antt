-- Readings step by step.
use Rattle.std.specs.Prelude.{◌≡◌, Result, Ok, Err}

-- the next step of a reading, or the fault that was found before it
infixl 10 ◌>>=◌
abbrev pub ◌>>=◌ : {A B E : Type 0} → Result A E → (A → Result B E) → Result B E
(Ok x) >>= f = f x
(Err e) >>= f = Err e

-- if the check passes `x` on, `next` holds of `x` and the reading; if it fails, the reading ends with its fault
abbrev pub Then : {A B E : Type 0} → Result A E → (A → Result B E → Type 0) → Result B E → Type 0
Then (Ok x) next read = next x read
Then (Err why) next read = read ≡ Err why
