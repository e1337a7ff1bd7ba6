-- What `judge` and `duel` say of bytes, by the request.
use Rattle.std.specs.Prelude.{ℕ, List}
use Rattle.gs_raw_commands.specs.Commands.{Duels, Judges}
use Rattle.gs_reply.specs.Replies.{Reply}
use Rattle.gs_words.specs.{declared.request.OfRaw.{OfRaw}, declared.request.OfRaw.TheVariants.{Duel, Judge}}

-- what a command on raw cards says of its bytes
abbrev pub RawAsks : OfRaw → List ℕ → Reply → Type 0
RawAsks Judge = Judges
RawAsks Duel = Duels
