use Rattle.std.proofs.Common.{◌≤◌, rules, subst, sym}
use Rattle.toml.specs.View.{table_view}
use Rattle.gs_file.specs.{Answers.{MayGive}, Views.{valid_view}}
use Rattle.gs_file.proofs.{Loop.{handed_over, handed_up}, RoundSteps.{game_give, game_stops_deck, game_stops_fields, game_stops_rounds, game_stops_stated}}
use Rattle.gs_file.proofs.RoundSteps.{game_stops_values}
use Rattle.gs_file.proofs.game.game_of.Goals as goal

pub returns-in_err-values : goal.returns-in_err-values
returns-in_err-values c =
    handed_up valid_view _ _ _ _ c.from_residual.ensures.1 c.in_err-values.ensures
    (game_stops_values c.args.form (table_view c.args.table.now))

pub returns-in_err-fields : goal.returns-in_err-fields
returns-in_err-fields c =
    handed_over valid_view _ _ _ _ c.from_residual-in_err-fields.ensures.1 c.in_err-fields.ensures
    (game_stops_fields c.args.form (table_view c.args.table.now) c.in_ok-values.ensures)

pub returns-in_err-stated : goal.returns-in_err-stated
returns-in_err-stated c =
    handed_over valid_view _ _ _ _ c.from_residual-in_err-stated.ensures.1 c.in_err-stated.ensures.gives
    (game_stops_stated c.args.form (table_view c.args.table.now) c.in_ok-values.ensures c.in_ok-fields.ensures)

pub returns-in_err-deck : goal.returns-in_err-deck
returns-in_err-deck c =
    handed_over valid_view _ _ _ _ c.from_residual-in_err-deck.ensures.1 c.in_err-deck.ensures
    (game_stops_deck c.args.form (table_view c.args.table.now) c.in_ok-values.ensures c.in_ok-fields.ensures c.in_ok-stated.ensures.gives)

pub returns-in_err-rounds : goal.returns-in_err-rounds
returns-in_err-rounds c =
    let fails = rw c.deref.ensures.value at c.in_err-rounds.ensures.gives in
    handed_over valid_view _ _ _ _ c.from_residual-in_err-rounds.ensures.1 fails
    (game_stops_rounds c.args.form (table_view c.args.table.now) c.in_ok-values.ensures c.in_ok-fields.ensures c.in_ok-stated.ensures.gives
    c.in_ok-deck.ensures)

pub returns : goal.returns
returns c =
    let rounds = rw c.deref.ensures.value at c.in_ok-rounds.ensures.gives in
    subst (MayGive valid_view c.checked.result) (sym (game_give c.args.form (table_view c.args.table.now) c.in_ok-values.ensures
    c.in_ok-fields.ensures c.in_ok-stated.ensures.gives c.in_ok-deck.ensures rounds)) c.checked.ensures

pub checked-requires-clause-bonus : goal.checked-requires-clause-bonus
checked-requires-clause-bonus c = c.in_ok-stated.stated.bonuses

pub checked-requires-clause-cards : goal.checked-requires-clause-cards
checked-requires-clause-cards c = c.in_ok-rounds.ensures.few

pub rounds_built-requires : goal.rounds_built-requires
rounds_built-requires c = subst (λ n. n ≤ 4) (sym c.deref.ensures.len) c.in_ok-stated.ensures.few

pub checked-requires-clause-some_ante : goal.checked-requires-clause-some_ante
checked-requires-clause-some_ante c = c.in_ok-stated.stated.some

pub checked-requires-clause-ante : goal.checked-requires-clause-ante
checked-requires-clause-ante c = c.in_ok-stated.stated.little

pub deck_of-requires-text-ranks : goal.deck_of-requires-text-ranks
deck_of-requires-text-ranks c = search rules

pub deck_of-requires-text-suits : goal.deck_of-requires-text-suits
deck_of-requires-text-suits c = search rules

pub deck_of-requires-text-copies : goal.deck_of-requires-text-copies
deck_of-requires-text-copies c = search rules
