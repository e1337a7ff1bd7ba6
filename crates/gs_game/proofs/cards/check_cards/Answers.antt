use Rattle.std.proofs.{Common.{arith, ◌≡◌, ◌<◌, ◌∙◌, List, length, map, ap, sym}, lemmas.Grind.{common_steps}, lemmas.List.{get_or-map, length-map}}
use Rattle.gs_model.specs.Game.{Game as Rules, Round as RoundRules, round_at}
use Rattle.gs_model.specs.Betting.{even}
use Rattle.gs_game.specs.{Games.{game_of, round_rules}, declared.game.Round.{Round}}
use Rattle.gs_game.specs.Refusals.{card_refusal, rounds_refusal, private_refusal, ranking_refusal, copies_refusal}
use Rattle.gs_game.proofs.Deciding.{private_refused, rounds_refused}
use Rattle.gs_game.proofs.cards.check_cards.Goals as goal

pub returns-then-have-need : goal.returns-then-have-need
unfolding card_refusal rounds_refusal private_refusal ranking_refusal copies_refusal
returns-then-have-need c = grind (arith, common_steps)

pub returns : goal.returns
unfolding card_refusal rounds_refusal private_refusal ranking_refusal copies_refusal
returns c = grind (arith, common_steps)

pub returns-then-not-ranks : goal.returns-then-not-ranks
unfolding card_refusal rounds_refusal private_refusal ranking_refusal copies_refusal
returns-then-not-ranks c = grind (arith, common_steps)

pub all_copies-have-requires : goal.all_copies-have-requires
unfolding card_refusal rounds_refusal private_refusal ranking_refusal copies_refusal
all_copies-have-requires c = grind arith

pub cards_over-own-requires-clause-cards : goal.cards_over-own-requires-clause-cards
unfolding card_refusal rounds_refusal private_refusal ranking_refusal copies_refusal
cards_over-own-requires-clause-cards c = grind arith

pub returns-then-count-eq0 : goal.returns-then-count-eq0
returns-then-count-eq0 c =
    let rounds : List Round = c.args.game.now.rounds.items in
    rounds_refused (game_of c.args.game.now) c.len-count.result (c.len-count.ensures ∙ c.args.game.now.rounds.ok.0 ∙ sym (length-map rounds round_rules))
    c.then-count-eq0.either

pub returns-then-index-eq0 : goal.returns-then-index-eq0
returns-then-index-eq0 c =
    let g : Rules = game_of c.args.game.now in
    let rounds : List Round = c.args.game.now.rounds.items in
    let now : Round = c.index.result.now in
    let count : c.len-count.result ≡ length rounds = c.len-count.ensures ∙ c.args.game.now.rounds.ok.0 in
    let same : length (map round_rules rounds) ≡ length rounds = length-map rounds round_rules in
    let some : 0 < length rounds = omega (arith, count, c.if-count-eq0.false) in
    let none : RoundRules = record { private = 0; public = 0; tree = even } in
    let first : round_rules now ≡ round_at g 1 = ap round_rules c.index.ensures ∙ sym (get_or-map round_rules rounds 0 now none some) in
    private_refused g (omega (arith, same, some)) (omega (arith, same, count, c.if-count-gt4.false))
    (ap (λ (r : RoundRules). r.private) (sym first) ∙ c.if-index-eq0.true)

pub overflow_add-need : goal.overflow_add-need
overflow_add-need c = omega arith
