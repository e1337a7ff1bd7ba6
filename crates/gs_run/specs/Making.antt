-- What `make` says.
use Rattle.std.specs.Prelude.{◌≡◌, Bool, true, false, List, ℕ}
use Rattle.gs_game_commands.specs.Shrinking.{Shrinks}
use Rattle.gs_words.specs.{Made.{made_game}, declared.request.Make.{Make}}
use Rattle.gs_reply.specs.Replies.{Reply, Prints}

-- the file of the game that is asked for
abbrev pub made_file : Make → List ℕ
made_file m = made_game m.kind m.ranks m.suits m.cap

-- the reply prints the file of the made game, valid or not; or it is what `shrink --summary` says of this file
abbrev pub Makes : Make → Bool → Reply → Type 0
Makes m false reply = reply ≡ Prints (made_file m)
Makes m true reply = Shrinks true (made_file m) reply
