-- What `judge` and `duel` say of the bytes of strategy files.
use Rattle.std.specs.Prelude.{◌≡◌, ◌≢◌, ◌⊎◌, ◌++◌, ◌<◌, ◌≤◌, ℕ, List}
use Rattle.gs_file.specs.Reading.{file_rules}
use Rattle.gs_json.specs.FirstLine.{first_line}
use Rattle.gs_raw.specs.Cells.{raw_cell_count}
use Rattle.gs_reply.specs.{Refusals.{Other_game, Too_large}, Replies.{OfFile, Reply, Prints, Refuses}, VerdictText.{verdict_text}}
use Rattle.gs_reply.specs.{declared.refusals.Limit.TheVariants.{RawCells}, declared.refusals.Which.TheVariants.{Only, First, Second}}
use Rattle.gs_strategy.specs.{Confirmed.{strategy_frame}, Values.{Numbers, FractionParts, Strategy}}
use Rattle.gs_raw_commands.specs.Judging.{AreHandValues, AreJudged, hands_text}

-- `says` holds of the value and gaps of two strategies and the reply, if the game has at most 16,777,216 raw cells; a game with more is refused as too large
abbrev pub OnRawCards : (Numbers → Reply → Type 0) → Strategy → Strategy → Reply → Type 0
OnRawCards says one two reply =
    ((raw_cell_count (strategy_frame one) ≤ 16777216) × ((n : Numbers) × AreJudged one two n × says n reply))
    ⊎ ((16777216 < raw_cell_count (strategy_frame one)) × (reply ≡ Refuses (Too_large (RawCells (raw_cell_count (strategy_frame one))))))

-- the reply prints the value and the gaps of a strategy's plans, a line each
abbrev pub SaysJudged : Strategy → Reply → Type 0
SaysJudged s = OnRawCards (λ n reply. reply ≡ Prints (verdict_text n)) s s

-- the reply prints the value and the gaps of two strategies, and the value of each raw signal of round 1, a line each
abbrev pub SaysHands : Strategy → Strategy → Reply → Type 0
SaysHands one two = OnRawCards (λ n reply. (hands : List FractionParts) × AreHandValues one two hands
    × (reply ≡ Prints (verdict_text n ++ hands_text one.game.deck (file_rules one.game) hands))) one two

-- what `duel` says of two strategies: for one game their numbers and the values of the hands, for two different games a refusal
abbrev pub SaysDuel : Strategy → Strategy → Reply → Type 0
SaysDuel one two reply = ((one.game ≢ two.game) × (reply ≡ Refuses Other_game)) ⊎ ((one.game ≡ two.game) × SaysHands one two reply)

-- ---- the two commands

-- what `judge` says of bytes
abbrev pub Judges : List ℕ → Reply → Type 0
Judges = OfFile Only SaysJudged

-- what `duel` says of bytes: the first file ends with the first line feed, and the second follows; a fault of the first file comes before one of the second
abbrev pub Duels : List ℕ → Reply → Type 0
Duels bytes = OfFile First (λ one. OfFile Second (SaysDuel one) (first_line bytes).1) (first_line bytes).0
