-- A strategy that is printed for a game of a file can be written in version 2, and its plans stand for raw plans.
use Rattle.std.specs.Prelude.{◌≡◌, ℕ, List, Ok}
use Rattle.gs_file.specs.{Reading.{FileGame, read_at}, declared.version.Version.TheVariants.{Two}}
use Rattle.gs_model.specs.Classes.{ClassLists}
use Rattle.gs_seq.specs.declared.plan.Plan.{Plan}
use Rattle.gs_strategy.specs.{Laws.{IsStrategy}, RawPlans.{AreRawPlans}}
use Rattle.gs_game_commands.specs.Texts.{IsSettledText}

-- a strategy whose text is printed for a game that a file states can be written in version 2
abbrev pub PrintedAreStrategies : Type 0
PrintedAreStrategies = (bytes : List ℕ) (g : FileGame) (lists : ClassLists) (one two : Plan) (text : List ℕ) → read_at bytes ≡ Ok g
    → (t : IsSettledText g lists one two text) → IsStrategy Two t.strategy

-- the plans of a strategy whose text is printed for a game that a file states stand for raw plans
abbrev pub PrintedAreRaw : Type 0
PrintedAreRaw = (bytes : List ℕ) (g : FileGame) (lists : ClassLists) (one two : Plan) (text : List ℕ) → read_at bytes ≡ Ok g
    → (t : IsSettledText g lists one two text) → AreRawPlans t.strategy t.strategy
