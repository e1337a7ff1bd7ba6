use Rattle.std.proofs.lemmas.Result.{MatchResult-weaker, err_from_is_err_and}
use Rattle.gs_card.specs.Rankings.{ranking_of}
use Rattle.gs_game.specs.Games.{game_of}
use Rattle.gs_game.proofs.Checked.{cards_fault, betting_fault, deals_fault, bonus_most}
use Rattle.gs_game.proofs.DealChecks.{cards_pass}
use Rattle.gs_game.proofs.check.check_rules.Goals as goal

pub returns-in_err-check_cards : goal.returns-in_err-check_cards
returns-in_err-check_cards c =
    let p = err_from_is_err_and c.from_residual.result c.from_residual.ensures.1 in
    rw (p.1, p.2) (cards_fault (game_of c.args.game.now) c.in_err-check_cards.field-0.0 c.in_err-check_cards.ensures)

pub check_betting-requires-clause-few : goal.check_betting-requires-clause-few
check_betting-requires-clause-few c = (cards_pass c.args.game.now c.requires.cards c.in_ok-check_cards.ensures).few

pub check_betting-requires-clause-bonus : goal.check_betting-requires-clause-bonus
check_betting-requires-clause-bonus c = bonus_most (ranking_of c.args.game.now.ranking) c.args.game.now.bonus.items c.requires.bonus

pub returns-in_err-check_betting : goal.returns-in_err-check_betting
returns-in_err-check_betting c =
    let p = err_from_is_err_and c.from_residual-in_err-check_betting.result c.from_residual-in_err-check_betting.ensures.1 in
    rw (p.1, p.2) (betting_fault (game_of c.args.game.now) c.in_err-check_betting.field-0.0 c.in_ok-check_cards.ensures c.in_err-check_betting.ensures)

pub returns : goal.returns
returns c =
    let card = c.in_ok-check_cards.ensures in
    let betting = c.in_ok-check_betting.ensures in
    MatchResult-weaker c.check_deals.result c.check_deals.ensures (λ totals h. (card, betting, h.0, h.1, h.2, h.3))
    (λ fault h. deals_fault (game_of c.args.game.now) fault card betting h)

pub check_deals-requires-clause-cards : goal.check_deals-requires-clause-cards
check_deals-requires-clause-cards c = c.requires.cards
