use Rattle.std.proofs.{Common.{◌≡◌, subst}, lemmas.Result.{IfOk-weaker}}
use Rattle.gs_file.specs.{Reading.{file_rules}, Views.{valid_view}}
use Rattle.gs_game.specs.declared.valid.ValidGame.{ValidGame}
use Rattle.gs_model.specs.SignalClasses.{IsSignalClasses}
use Rattle.gs_game_commands.specs.Shrinking.{told}
use Rattle.gs_game_commands.proofs.shrinking.shrunk.Goals as goal

pub returns : goal.returns
returns c =
    let held = c.in_ok-signals.ensures in
    let lists = c.in_ok-classes.classes.lists in
    let are = subst (λ (v : ValidGame). IsSignalClasses (file_rules (valid_view v)) lists) held c.in_ok-classes.ensures.classes in
    IfOk-weaker c.told.result _ _ (λ text printed. record {
      classes = lists;
      are = are;
      printed = subst (λ (v : ValidGame). text.items ≡ told c.args.summary (valid_view v).deck (file_rules (valid_view v)) lists) held printed;
    }) c.told.ensures

pub invariant_of-signals : goal.invariant_of-signals
invariant_of-signals c = record { sound = c.in_ok-signals.signals.sound }

pub invariant_of-signals-2 : goal.invariant_of-signals-2
invariant_of-signals-2 c = record { sound = c.in_ok-signals.signals.sound }

pub told-requires : goal.told-requires
told-requires c =
    let are = c.in_ok-classes.ensures.classes in
    record { rounds = are.rounds; lengths = are.lengths }
