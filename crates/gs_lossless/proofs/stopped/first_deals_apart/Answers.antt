use Rattle.std.proofs.Common.{◌≤◌, ℕ, Option, sym, ◌∙◌, subst, arith}
use Rattle.std.specs.Prelude.{IfOk, IfSome}
use Rattle.gs_game.specs.{Games.{game_of}, GoingOn.{StopsAfter}, declared.valid.ValidGame.{ValidGame}}
use Rattle.gs_model.specs.{Frame.{frame_of}, Game.{round_count}}
use Rattle.gs_tree.specs.Trees.{rules_of}
use Rattle.gs_lossless.specs.{Scans.{IsFirstApart}, declared.aspects.Aspect.TheVariants.{Deals}}
use Rattle.gs_lossless.proofs.Scanned.{aspect_signals, aspect_top}
use Rattle.gs_lossless.proofs.stopped.first_deals_apart.Goals as goal

-- the game that is looked at stops after the round
pub first_apart_over-requires-clause-stops : goal.first_apart_over-requires-clause-stops
first_apart_over-requires-clause-stops c =
    let made = subst (λ (o : Option ValidGame). IfSome o (λ (v : ValidGame). StopsAfter (game_of c.game.result.now.game) c.args.round (game_of v.game)))
    c.in-Some.is c.in_ok-game.ensures.stops in
    subst (λ (v : ValidGame). StopsAfter (game_of v.game) c.args.round (rules_of c.in_ok-stopped.stopped)) c.game.ensures
    (subst (λ (v : ValidGame). StopsAfter (game_of c.game.result.now.game) c.args.round (game_of v.game)) (sym c.in_ok-stopped.ensures) made)

pub first_apart_over-requires-clause-before_last : goal.first_apart_over-requires-clause-before_last
first_apart_over-requires-clause-before_last c = omega (arith, c.if-round-rounds.true, c.rounds.ensures.value)

pub count-requires-clause-in_range : goal.count-requires-clause-in_range
count-requires-clause-in_range c = aspect_top (rules_of c.args.grouped.now.signals.now) Deals c.args.round c.requires

pub returns : goal.returns
returns c =
    let g = rules_of c.args.grouped.now.signals.now in
    let all = c.count.ensures.value ∙ sym (aspect_signals g Deals c.args.round c.requires) in
    subst (λ (n : ℕ). IfOk c.first_apart.result (IsFirstApart (frame_of g) c.args.grouped.now.classes.now.lists Deals c.args.round n)) all
    c.first_apart.ensures

pub returns-in-Some : goal.returns-in-Some
returns-in-Some c = c.first_apart_over.ensures

pub invariant_of-stopped : goal.invariant_of-stopped
invariant_of-stopped c = record { sound = c.in_ok-stopped.stopped.sound }

pub stopped-requires : goal.stopped-requires
stopped-requires c =
    subst (λ (v : ValidGame). c.args.round ≤ round_count (game_of v.game)) (sym c.game.ensures)
    (omega (arith, c.if-round-rounds.true, c.rounds.ensures.value))
