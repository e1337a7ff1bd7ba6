use Rattle.std.proofs.Common.{◌≡◌, ◌≤◌, inl, sym, ap, subst}
use Rattle.gs_game.specs.declared.valid.ValidGame.{ValidGame}
use Rattle.gs_raw.specs.Cells.{raw_cell_count}
use Rattle.gs_reply.specs.{Replies.{Prints}, VerdictText.{verdict_text}}
use Rattle.gs_seq.specs.{Games.{frame_in}, Plans.{IsPlanOf}}
use Rattle.gs_strategy.specs.Views.{numbers_of, stored_view}
use Rattle.gs_raw_commands.proofs.{Judged.{are_judged}, TooMany.{too_many}}
use Rattle.gs_raw_commands.proofs.judging.judged_over.Goals as goal

pub raw_verdict-requires-clause-first : goal.raw_verdict-requires-clause-first
raw_verdict-requires-clause-first c = subst (λ (g : ValidGame). c.args.stored.now.classes.parents ≡ (frame_in g).parents)
    (sym c.requires) c.args.stored.now.parents

pub raw_verdict-requires-clause-second : goal.raw_verdict-requires-clause-second
raw_verdict-requires-clause-second c = subst (λ (g : ValidGame). c.args.stored.now.classes.parents ≡ (frame_in g).parents)
    (sym c.requires) c.args.stored.now.parents

pub raw_verdict-requires-clause-one : goal.raw_verdict-requires-clause-one
raw_verdict-requires-clause-one c = subst (λ (g : ValidGame). IsPlanOf (frame_in g) c.args.stored.now.classes.lists 1 c.args.stored.now.one)
    (sym c.requires) c.args.stored.now.first

pub raw_verdict-requires-clause-two : goal.raw_verdict-requires-clause-two
raw_verdict-requires-clause-two c = subst (λ (g : ValidGame). IsPlanOf (frame_in g) c.args.stored.now.classes.lists 2 c.args.stored.now.two)
    (sym c.requires) c.args.stored.now.second

pub returns-in_ok-verdict_text-in-Ok : goal.returns-in_ok-verdict_text-in-Ok
returns-in_ok-verdict_text-in-Ok c =
    let s = c.args.stored.now in
    let f = frame_in c.args.signals.now.game.now in
    let frames : f ≡ frame_in s.game = ap frame_in c.requires in
    inl (
      subst (λ (g : ValidGame). raw_cell_count (frame_in g) ≤ 16777216) c.requires c.in-Ok.ensures.small,
      (numbers_of c.in-Ok.verdict, are_judged f s s c.in-Ok.verdict frames frames c.in-Ok.ensures.verdict, ap Prints c.in_ok-verdict_text-in-Ok.ensures),
    )

pub returns-in-Err-TooManyCells : goal.returns-in-Err-TooManyCells
returns-in-Err-TooManyCells c =
    let s = stored_view c.args.stored.now in
    let f = frame_in c.args.signals.now.game.now in
    rw c.in-Err-TooManyCells.field-0-is (too_many f s s (λ n reply. reply ≡ Prints (verdict_text n)) c.in-Err-TooManyCells.count c.in-Err-TooManyCells.field-0
    (ap frame_in c.requires) c.in-Err-TooManyCells.field-0-is c.in-Err-TooManyCells.ensures.refused)
