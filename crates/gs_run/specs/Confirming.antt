-- A confirmed strategy passes all checks, and `evaluate` prints its numbers. So it does for what `solve` and `play` print.
use Rattle.std.specs.Prelude.{◌≡◌, ℕ, List, Ok}
use Rattle.gs_strategy_commands.specs.{Commands.{Evaluates}, Troubles.{IsTrouble}}
use Rattle.gs_file.specs.{Reading.{FileGame, read_at}, declared.version.Version.{Version}}
use Rattle.gs_model.specs.Classes.{ClassLists}
use Rattle.gs_reply.specs.{Refusals.{Refusal}, Replies.{Reply, Prints}, VerdictText.{verdict_text}}
use Rattle.gs_seq.specs.declared.plan.Plan.{Plan}
use Rattle.gs_game_commands.specs.Texts.{IsSettledText}
use Rattle.gs_strategy.specs.{Confirmed.{IsConfirmed}, Laws.{IsStrategy}, Texts.{strategy_text}, Values.{Strategy}}

-- a confirmed strategy passes each check of `evaluate`
abbrev pub ConfirmedHaveNoTrouble : Type 0
ConfirmedHaveNoTrouble = (version : Version) (s : Strategy) (why : Refusal) → IsStrategy version s → IsConfirmed s → ¬ IsTrouble s why

-- for the text of a confirmed strategy `evaluate` prints the three numbers, and has no other reply
abbrev pub ConfirmedAreEvaluated : Type 0
ConfirmedAreEvaluated = (version : Version) (s : Strategy) (reply : Reply) → IsStrategy version s → IsConfirmed s → Evaluates (strategy_text version s) reply
    → reply ≡ Prints (verdict_text s.numbers)

-- for the text of a strategy that `solve` or `play` prints, `evaluate` prints the three numbers, and has no other reply
abbrev pub PrintedAreEvaluated : Type 0
PrintedAreEvaluated = (bytes : List ℕ) (g : FileGame) (lists : ClassLists) (one two : Plan) (text : List ℕ) (reply : Reply) → read_at bytes ≡ Ok g
    → (t : IsSettledText g lists one two text) → Evaluates text reply → reply ≡ Prints (verdict_text t.strategy.numbers)
