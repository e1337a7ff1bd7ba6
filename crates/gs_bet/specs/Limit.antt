-- Limit betting.
use Rattle.std.specs.Prelude.{ℕ, zero, suc, ◌-◌, ◌*◌}
use Rattle.gs_model.specs.Betting.{Bet, act, fold, even, none, move}

-- a player who faces a bet: fold, call and, if raises are left, raise
abbrev pub facing_bet : ℕ → ℕ → ℕ → Bet
facing_bet bet zero player = act player (move 102 0 fold (move 99 bet even none))
facing_bet bet (suc left) player = act player (move 102 0 fold (move 99 bet even (move 114 (2 * bet) (facing_bet bet left (3 - player)) none)))

-- player 2 after a check: check or, if a bet is allowed, bet
abbrev pub behind_check : ℕ → ℕ → Bet
behind_check bet zero = act 2 (move 107 0 even none)
behind_check bet (suc left) = act 2 (move 107 0 even (move 98 bet (facing_bet bet left 1) none))

-- a round of limit betting: player 1 checks or, if a bet is allowed, bets
abbrev pub limit_bet : ℕ → ℕ → Bet
limit_bet bet zero = act 1 (move 107 0 (behind_check bet 0) none)
limit_bet bet (suc left) = act 1 (move 107 0 (behind_check bet (suc left)) (move 98 bet (facing_bet bet left 2) none))
