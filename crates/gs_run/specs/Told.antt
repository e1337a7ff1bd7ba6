-- What a sink received of a line.
use Rattle.std.specs.{Prelude.{ℕ, ◌<◌, ◌≤◌, List, length, take}, declared.option.Option.{Option}, Io.KnownBytes.{Appends}}
use Rattle.gs_io.specs.Causes.{Rose}

-- the sink received the line, or a prefix of it if a write failed
pub record TellsTo (old : Option (List ℕ)) (before : ℕ) (new : Option (List ℕ)) (now : ℕ) (line : List ℕ) : Type 0 where
  pub count : ℕ
  pub front : Appends old new (take count line)
  pub later : before ≤ now
  pub whole : count < length line → Rose before now
