-- What is printed for a game of a file is a strategy, and its plans are raw plans.
use Rattle.std.proofs.Common.{◌≡◌, ℕ, List, Ok, refl, sym, subst}
use Rattle.gs_file.proofs.Told.{file_told}
use Rattle.gs_file.specs.{JsonLaws.{IsTold}, Reading.{FileGame, read_at}, declared.version.Version.TheVariants.{Two}}
use Rattle.gs_model.specs.Classes.{ClassLists}
use Rattle.gs_seq.specs.declared.plan.Plan.{Plan}
use Rattle.gs_strategy.proofs.Strategies.{strategies_raw, strategy_is}
use Rattle.gs_strategy.specs.{Laws.{IsStrategy}, RawPlans.{AreRawPlans}}
use Rattle.gs_game_commands.specs.Texts.{IsSettledText}

pub printed_strategy : (bytes : List ℕ) (g : FileGame) (lists : ClassLists) (one two : Plan) (text : List ℕ) → read_at bytes ≡ Ok g
    → (t : IsSettledText g lists one two text) → IsStrategy Two t.strategy
printed_strategy bytes g lists one two text e t =
    strategy_is Two t.strategy (subst (IsTold Two) (sym t.game) (file_told bytes g e)) t.are_classes t.first_is t.second_is
    t.confirmed.numbers.fractions

pub printed_raw : (bytes : List ℕ) (g : FileGame) (lists : ClassLists) (one two : Plan) (text : List ℕ) → read_at bytes ≡ Ok g
    → (t : IsSettledText g lists one two text) → AreRawPlans t.strategy t.strategy
printed_raw bytes g lists one two text e t =
    let h = printed_strategy bytes g lists one two text e t in strategies_raw Two Two t.strategy t.strategy h h refl
