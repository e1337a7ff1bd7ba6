use Rattle.std.proofs.Common.{◌≡◌, IsTrue, false, inl, inr, refl, rules, sym, ◌∙◌, true≢false, arith}
use Rattle.gs_file.specs.Views.{valid_view}
use Rattle.gs_reply.specs.Refusals.{Other_game}
use Rattle.gs_reply.proofs.Refused.{answers_more}
use Rattle.gs_strategy.specs.Views.{stored_view}
use Rattle.gs_raw_commands.specs.Commands.{SaysDuel, SaysHands}
use Rattle.gs_raw_commands.proofs.judging.dueled.Goals as goal

pub returns-then-not-branch : goal.returns-then-not-branch
returns-then-not-branch c =
    let no' : c.in_ok-same_game.field-0 ≡ false = search rules in
    let other : valid_view c.args.one.now.game ≡ valid_view c.args.two.now.game → ⊥ = λ e. true≢false (sym (c.in_ok-same_game.ensures.1 e) ∙ no') in
    (Other_game, inl (other, refl), refl)

pub returns : goal.returns
returns c =
    let x = stored_view c.args.one.now in
    let y = stored_view c.args.two.now in
    let yes' : IsTrue c.in_ok-same_game.field-0 = search rules in
    let one : valid_view c.args.one.now.game ≡ valid_view c.args.two.now.game = c.in_ok-same_game.ensures.0 yes' in
    answers_more (SaysHands x y) (SaysDuel x y) (λ r p. inr (one, p)) c.fought.result c.fought.ensures

pub fought-requires : goal.fought-requires
fought-requires c = grind arith
