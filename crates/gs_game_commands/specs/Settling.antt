-- What is said of an input before a game over classes is played, solved or shown. The game file is read, then the classes of the grouping are checked, then
-- the sizes of the game over them. The refusals have this order.
use Rattle.std.specs.Prelude.{◌⊎◌, ℕ, List}
use Rattle.gs_file.specs.{Reading.{FileGame, read_at, file_rules}, Views.{valid_view}}
use Rattle.gs_game_commands.specs.Checking.{IsGrouping, SaysNotLossless}
use Rattle.gs_model.specs.{Classes.{ClassLists}, Lossless.{IsLossless}}
use Rattle.gs_reply.specs.{Replies.{OfReading, Reply}, Troubles.{SaysLarge}}
use Rattle.gs_seq.specs.{Stops.{IsSmall}, declared.form.Abstract.{Abstract}}
use Rattle.gs_strategy.specs.Values.{file_frame}
use Rattle.gs_words.specs.declared.request.Grouping.{Grouping}

-- the game that a game in sequence form is made of
abbrev pub file_game_in : Abstract → FileGame
file_game_in a = valid_view a.lossless.now.signals.now.game.now

-- a game over lossless classes is refused as too large, or it is within the limits and `says` holds of it and the reply
abbrev pub OfForm : (FileGame → ClassLists → Reply → Type 0) → FileGame → ClassLists → Reply → Type 0
OfForm says g lists reply = SaysLarge g lists reply ⊎ (IsSmall (file_frame g) lists × says g lists reply)

-- the classes of the grouping are refused as not lossless, or they are lossless and `OfForm` holds of the game over them
abbrev pub OfGrouping : Grouping → (FileGame → ClassLists → Reply → Type 0) → FileGame → Reply → Type 0
OfGrouping grouping says g reply =
    SaysNotLossless grouping g reply
    ⊎ ((lists : ClassLists) × IsGrouping grouping (file_rules g) lists × IsLossless (file_frame g) lists × OfForm says g lists reply)

-- the reply to the bytes of a game file, over the classes of a grouping
abbrev pub Settles : (FileGame → ClassLists → Reply → Type 0) → Grouping → List ℕ → Reply → Type 0
Settles says grouping bytes reply = OfReading (OfGrouping grouping says) (read_at bytes) reply
