-- Behaviour strategies: the probabilities of the moves at each information set, as fractions.
use Rattle.std.specs.Prelude.{◌≡◌, ℕ, ◌*◌, ◌<◌, sum_by}
use Rattle.gs_model.specs.Frame.{Frame, choices_at, last_step, move_count, player_at, point_count, round_of, signal_count}
use Rattle.gs_model.specs.{FrameFacts.{IsWalked}, Plans.{IsRawPlan, Plan, number_before}, Positions.{at_point}}

-- At each point of the player and each raw signal the shares num / den of the moves add up to 1. Each point and signal has its own denominator.
pub record IsBehaviour (f : Frame) (player : ℕ) (num : ℕ → ℕ → ℕ → ℕ) (den : ℕ → ℕ → ℕ) : Type 0 where
  pub positive : (q s : ℕ) → q < point_count f → player_at f q ≡ player → s < signal_count f (round_of f (at_point q)) → 0 < den q s
  pub whole : (q s : ℕ) → q < point_count f → player_at f q ≡ player → s < signal_count f (round_of f (at_point q))
      → sum_by (λ c. num q s c) (choices_at f q) ≡ den q s

-- the plan plays the behaviour: a move's number is its share num / den of the number of the own last step
abbrev pub Plays : Frame → ℕ → (ℕ → ℕ → ℕ → ℕ) → (ℕ → ℕ → ℕ) → Plan → Type 0
Plays f player num den x =
    (q s c : ℕ) → q < point_count f → player_at f q ≡ player → s < signal_count f (round_of f (at_point q)) → c < move_count f q
    → x.number q s c * den q s ≡ number_before f x (last_step f player (at_point q)) (round_of f (at_point q)) s * num q s c

-- each behaviour strategy in fractions is a raw plan
abbrev pub BehaviourIsAPlan : Type 0
BehaviourIsAPlan =
    (f : Frame) (player : ℕ) (num : ℕ → ℕ → ℕ → ℕ) (den : ℕ → ℕ → ℕ) → IsWalked f player → IsBehaviour f player num den
    → (x : Plan) × IsRawPlan f player x × Plays f player num den x
