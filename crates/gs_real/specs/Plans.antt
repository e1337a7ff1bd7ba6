-- Plans in numbers of any kind, and what they gain against a raw plan.
use Rattle.std.specs.{Prelude.{◌≡◌, ℕ, ◌*◌, ◌<◌, Option, Some, None, pos, ◌*ℤ◌}, List.{range_with_len}}
use Rattle.gs_model.specs.{Deals.{Deal}, Payoff.{number_at_end}, Plans.{Plan}, Positions.{Step, at_end, at_point}}
use Rattle.gs_model.specs.Frame.{Frame, ancestor, at_round, choices_at, end_count, last_step, move_count, other_player, payoff_to, player_at, point_count}
use Rattle.gs_model.specs.Frame.{round_of, signal_count}
use Rattle.gs_real.specs.Numbers.{IsSome, OrderedGroup, scaled, sum_of}

-- a plan: a total, and a number for each point, signal of the point's round, and choice
pub record AnyPlan (A : Type 0) : Type 0 where
  pub total : A
  pub number : ℕ → ℕ → ℕ → A

-- the number of a last step, read at the ancestor of the signal s in the step's round; without a step, the total
abbrev pub any_before : {A : Type 0} → Frame → AnyPlan A → Option Step → ℕ → ℕ → A
any_before f x None round s = x.total
any_before f x (Some u) round s = x.number u.point (ancestor f round (round_of f (at_point u.point)) s) u.choice

-- A realization plan of a player. The total and all numbers are at least 0. At each own point and signal the numbers of the choices add up to the number
-- of the own last step before it. A plan of total 1 in real numbers is a plan of the sequence form.
pub record IsAnyPlan {A P : Type 0} (G : OrderedGroup A P) (f : Frame) (player : ℕ) (x : AnyPlan A) : Type 0 where
  pub total_some : IsSome G x.total
  pub some : (q s c : ℕ) → q < point_count f → player_at f q ≡ player → s < signal_count f (round_of f (at_point q)) → c < move_count f q
      → IsSome G (x.number q s c)
  pub flow : (q s : ℕ) → q < point_count f → player_at f q ≡ player → s < signal_count f (round_of f (at_point q))
      → sum_of G (λ c. x.number q s c) (choices_at f q) ≡ any_before f x (last_step f player (at_point q)) (round_of f (at_point q)) s

-- a player's number at an end, for a signal of the end's round: that of the player's last step
abbrev pub any_at_end : {A : Type 0} → Frame → ℕ → AnyPlan A → ℕ → ℕ → A
any_at_end f player x z s = any_before f x (last_step f player (at_end z)) (round_of f (at_end z)) s

-- what a player gains with x against the other's raw plan y: `gain` with x's numbers in place of whole ones
abbrev pub any_gain : {A P : Type 0} → OrderedGroup A P → Frame → ℕ → AnyPlan A → Plan → A
any_gain G f player x y =
    sum_of G (λ z. sum_of G (λ (d : Deal).
    scaled G (pos (d.weight * number_at_end f (other_player player) y z (at_round f (round_of f (at_end z)) d.two)) *ℤ payoff_to f player z d.outcome)
    (any_at_end f player x z (at_round f (round_of f (at_end z)) d.one))) f.deals)
    (range_with_len 0 (end_count f))
