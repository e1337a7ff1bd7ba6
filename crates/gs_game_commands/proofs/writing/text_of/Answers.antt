use Rattle.std.proofs.{Common.{◌∙◌, sym, ap, subst}, lemmas.Result.{IfOk-weaker}}
use Rattle.gs_filter.specs.Filter.{Filter}
use Rattle.gs_game.specs.declared.valid.ValidGame.{ValidGame}
use Rattle.gs_lossless.specs.declared.Lossless.{Lossless}
use Rattle.gs_model.specs.{Classes.{IsClasses}, Frame.{frame_of}, Lossless.{IsLossless}}
use Rattle.gs_seq.specs.{Abstracts.{abstract_frame as frame_by, lists_of}, Games.{frame_in}, Plans.{IsPlanOf}}
use Rattle.gs_tree.specs.{Trees.{rules_of}, declared.signals.Signals.{Signals}}
use Rattle.gs_game_commands.proofs.Told.{told_of}
use Rattle.gs_game_commands.proofs.writing.text_of.Goals as goal

pub write_strategy-requires-clause-parents : goal.write_strategy-requires-clause-parents
write_strategy-requires-clause-parents c =
    c.classes-classes.ensures.parents ∙ ap (λ (s : Signals). (frame_of (rules_of s)).parents) (sym c.signals-signals.ensures.held)
    ∙ ap (λ (v : ValidGame). (frame_in v).parents) (sym c.game.ensures)

pub write_strategy-requires-clause-one : goal.write_strategy-requires-clause-one
write_strategy-requires-clause-one c =
    let form = c.args.form.now in
    let game = sym (c.game.ensures ∙ ap (λ (s : Signals). s.game.now) c.signals-signals.ensures.held
    ∙ ap (λ (l : Lossless). l.signals.now.game.now) c.lossless-lossless.ensures) in
    let classes = sym (c.classes-classes.ensures.held ∙ ap (λ (l : Lossless). l.classes.now) c.lossless-lossless.ensures) in
    subst (λ (x : Filter). IsPlanOf (frame_in c.game.result.now) x.lists 1 c.args.one.now) classes
    (subst (λ (v : ValidGame). IsPlanOf (frame_in v) (lists_of form) 1 c.args.one.now) game c.requires.one)

pub write_strategy-requires-clause-two : goal.write_strategy-requires-clause-two
write_strategy-requires-clause-two c =
    let form = c.args.form.now in
    let game = sym (c.game.ensures ∙ ap (λ (s : Signals). s.game.now) c.signals-signals.ensures.held
    ∙ ap (λ (l : Lossless). l.signals.now.game.now) c.lossless-lossless.ensures) in
    let classes = sym (c.classes-classes.ensures.held ∙ ap (λ (l : Lossless). l.classes.now) c.lossless-lossless.ensures) in
    subst (λ (x : Filter). IsPlanOf (frame_in c.game.result.now) x.lists 2 c.args.two.now) classes
    (subst (λ (v : ValidGame). IsPlanOf (frame_in v) (lists_of form) 2 c.args.two.now) game c.requires.two)

pub returns : goal.returns
returns c =
    let form = c.args.form.now in
    let game = c.game.ensures ∙ ap (λ (s : Signals). s.game.now) c.signals-signals.ensures.held
    ∙ ap (λ (l : Lossless). l.signals.now.game.now) c.lossless-lossless.ensures in
    let classes = c.classes-classes.ensures.held ∙ ap (λ (l : Lossless). l.classes.now) c.lossless-lossless.ensures in
    let parents = c.classes-classes.ensures.parents ∙ ap (λ (l : Lossless). (frame_of (rules_of l.signals.now)).parents) c.lossless-lossless.ensures in
    let are : IsClasses (frame_by form).parents (lists_of form) =
    subst (λ (x : Filter). IsClasses (frame_by form).parents x.lists) classes
    (subst (λ ps. IsClasses ps c.classes-classes.result.now.lists) parents c.classes-classes.result.now.classes) in
    let lossless : IsLossless (frame_by form) (lists_of form) = subst (λ (l : Lossless). IsLossless (frame_of (rules_of l.signals.now)) l.classes.now.lists)
    c.lossless-lossless.ensures c.classes-classes.ensures.lossless in
    IfOk-weaker c.write_strategy.result _ _ (λ text. told_of form c.game.result.now c.classes-classes.result.now c.args.one.now c.args.two.now
    c.verdict-found.result text.items game classes are lossless c.requires.small
    c.requires.one c.requires.two c.verdict-found.ensures.verdict) c.write_strategy.ensures

pub verdict-found-requires-clause-one : goal.verdict-found-requires-clause-one
verdict-found-requires-clause-one c = c.requires.one

pub verdict-found-requires-clause-two : goal.verdict-found-requires-clause-two
verdict-found-requires-clause-two c = c.requires.two
