-- The limits that a valid game keeps; the crates above rely on them.
use Rattle.std.specs.Prelude.{ℕ, ◌+◌, ◌<◌, ◌≤◌, ◌≡◌, true, length, All}
use Rattle.gs_model.specs.{Deals.{deals}, Frame.{frame_of, total_weight}, Game.{Game, Round, round_count}, Outcome.{IsBonus}, Signals.{signals}}
use Rattle.gs_game.specs.Refusals.{own_card_total, public_card_total, ranks}

-- a valid game has 1 to 4 rounds, at most 200,000 raw signals in each, and at most 8,000,000 deals; these weigh at most 67,108,864 in all
pub record IsWithinLimits (g : Game) : Type 0 where
  pub some_round : 0 < round_count g
  pub few_rounds : round_count g ≤ 4
  pub signals_in : (round : ℕ) → round ≤ round_count g → length (signals g round) ≤ 200000
  pub deals_in : length (deals g) ≤ 8000000
  pub weight_in : total_weight (frame_of g) ≤ 67108864

-- what the signals and hands of a game rely on: at most 2 private and 3 public cards in each round, hands that the ranking can rank, and a bonus for each
-- category
pub record IsDealable (g : Game) : Type 0 where
  pub small : All (λ (r : Round). (r.private ≤ 2) × (r.public ≤ 3)) g.rounds
  pub ranked : ranks g.ranking (own_card_total g.rounds) (own_card_total g.rounds + public_card_total g.rounds) ≡ true
  pub bonuses : IsBonus g.ranking g.bonus
