-- The strategy of a game, its classes, two plans and the verdict on them.
use Rattle.std.proofs.Common.{◌≡◌, ◌∙◌, ℕ, List, refl, ap}
use Rattle.gs_best.specs.Judged.{parts}
use Rattle.gs_file.specs.{Views.{valid_view}, declared.version.Version.TheVariants.{Two}}
use Rattle.gs_filter.specs.Filter.{Filter}
use Rattle.gs_frac.specs.declared.value.Verdict.{Verdict}
use Rattle.gs_game.specs.declared.valid.ValidGame.{ValidGame}
use Rattle.gs_model.specs.{Classes.{IsClasses}, Lossless.{IsLossless}, Verdict.{IsVerdict}}
use Rattle.gs_seq.specs.{Abstracts.{abstract_frame, lists_of}, Games.{frame_in}, Plans.{IsPlanOf, lifted}, Stops.{IsSmall}, declared.form.Abstract.{Abstract}}
use Rattle.gs_seq.specs.declared.plan.Plan.{Plan}
use Rattle.gs_strategy.specs.{Texts.{strategy_text}, Views.{strategy_of}}
use Rattle.gs_game_commands.specs.{Settling.{file_game_in}, Texts.{IsSettledText}}

pub told : (game : ValidGame) (classes : Filter) (one two : Plan) (found : Verdict) (text : List ℕ) → IsClasses (frame_in game).parents classes.lists
    → IsLossless (frame_in game) classes.lists → IsSmall (frame_in game) classes.lists
    → IsPlanOf (frame_in game) classes.lists 1 one → IsPlanOf (frame_in game) classes.lists 2 two
    → IsVerdict (frame_in game) (lifted (frame_in game) classes.lists one) (lifted (frame_in game) classes.lists two) (parts found.value) (parts found.gap1)
    (parts found.gap2)
    → text ≡ strategy_text Two (strategy_of game classes one two found) → IsSettledText (valid_view game) classes.lists one two text
told game classes one two found text are lossless small first second verdict printed = record {
  strategy = strategy_of game classes one two found;
  game = refl;
  classes = refl;
  first = refl;
  second = refl;
  are_classes = are;
  first_is = first.plan;
  second_is = second.plan;
  confirmed = record {
    lossless = lossless;
    small = small;
    numbers = record { fractions = record { value = found.value.reduced; gap1 = found.gap1.reduced; gap2 = found.gap2.reduced }; verdict = verdict };
  };
  printed = printed;
}

-- and of a game in sequence form, whose game and classes were read
pub told_of : (form : Abstract) (game : ValidGame) (classes : Filter) (one two : Plan) (found : Verdict) (text : List ℕ)
    → game ≡ form.lossless.now.signals.now.game.now → classes ≡ form.lossless.now.classes.now
    → IsClasses (abstract_frame form).parents (lists_of form) → IsLossless (abstract_frame form) (lists_of form) → IsSmall (abstract_frame form) (lists_of form)
    → IsPlanOf (abstract_frame form) (lists_of form) 1 one → IsPlanOf (abstract_frame form) (lists_of form) 2 two
    → IsVerdict (abstract_frame form) (lifted (abstract_frame form) (lists_of form) one) (lifted (abstract_frame form) (lists_of form) two) (parts found.value)
    (parts found.gap1) (parts found.gap2)
    → text ≡ strategy_text Two (strategy_of game classes one two found) → IsSettledText (file_game_in form) (lists_of form) one two text
told_of form game classes one two found text of_game of_classes are lossless small first second verdict printed =
    told form.lossless.now.signals.now.game.now form.lossless.now.classes.now one two found text are lossless small first second verdict
    (printed ∙ ap (λ (v : ValidGame). strategy_text Two (strategy_of v classes one two found)) of_game
    ∙ ap (λ (x : Filter). strategy_text Two (strategy_of form.lossless.now.signals.now.game.now x one two found)) of_classes)
