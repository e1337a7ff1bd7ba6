-- What a source and a sink in memory hold, and what one call of them does.
use Rattle.std.specs.Prelude.{◌≡◌, ℕ, ◌+◌, ◌-◌, ◌^◌, min, List, length, take, drop, Bool, ◌==◌, ◌||◌, ◌++◌, nat_le, true, false, Result, Ok, Err}
use Rattle.std.specs.List.{list_any}
use Rattle.gs_io.specs.{Causes.{raised}, declared.Failed.{Failed}}

-- a source: the bytes that are left, the longest piece, the numbers of the calls that fail, how many calls were made, how many failed
pub record Reading : Type 0 where
  pub left : List ℕ
  pub piece : ℕ
  pub fails : List ℕ
  pub calls : ℕ
  pub faults : ℕ

-- a sink: the bytes that it has taken, how many it takes in all, and the rest as in a source
pub record Writing : Type 0 where
  pub given : List ℕ
  pub room : ℕ
  pub piece : ℕ
  pub fails : List ℕ
  pub calls : ℕ
  pub faults : ℕ

-- the number of the next call; it stops at 2^32 - 1
abbrev pub next_call : ℕ → ℕ
next_call calls = min (calls + 1) (2 ^ 32 - 1)

-- the call of this number fails
abbrev pub is_listed : List ℕ → ℕ → Bool
is_listed fails call = list_any (λ k. k == call) fails

-- What a read does. It fails if its number is listed. Otherwise it gives the next bytes: all that are left, but no more than `places` and than a piece.
abbrev pub TakesNext : Reading → ℕ → Reading → Result ℕ Failed → Type 0
TakesNext old places new (Ok count) =
    (is_listed old.fails (next_call old.calls) ≡ false) × (count ≡ min (min (length old.left) places) old.piece)
    × (new ≡ record old { left = drop count old.left; calls = next_call old.calls })
TakesNext old places new (Err e) =
    (is_listed old.fails (next_call old.calls) ≡ true)
    × (new ≡ record old { calls = next_call old.calls; faults = raised old.faults })

-- whether a write fails: its number is listed, or the room is full
abbrev pub refuses : Writing → Bool
refuses old = is_listed old.fails (next_call old.calls) || nat_le old.room (length old.given)

-- What a write does. It fails if `refuses` says so. Otherwise it takes the first bytes: all, but no more than there is room for and than a piece.
abbrev pub GivesNext : Writing → List ℕ → Writing → Result ℕ Failed → Type 0
GivesNext old bytes new (Ok count) =
    (refuses old ≡ false) × (count ≡ min (min (length bytes) (old.room - length old.given)) old.piece)
    × (new ≡ record old { given = old.given ++ take count bytes; calls = next_call old.calls })
GivesNext old bytes new (Err e) =
    (refuses old ≡ true)
    × (new ≡ record old { calls = next_call old.calls; faults = raised old.faults })
