-- What last-round signals are paid in their deals, and their order by boards and strengths.
use Rattle.std.specs.{Int.{int_rem_euclid}}
use Rattle.std.specs.Prelude.{ℕ, ◌≡◌, ◌==◌, ◌<◌, ◌^◌, true, false, All, List, count_by, filter, length, ℤ, pos, ◌*ℤ◌, slice_index}
use Rattle.gs_model.specs.{Deals.{Deal, deals}, Game.{Game, round_count}, Outcome.{category}, Signals.{signal_at}, Sums.{sum_z}, ViewTree.{signal_strength}}
use Rattle.gs_tree.specs.Walk.{last_count, shows_same}
use Rattle.gs_boards.specs.{Places.{AreInOrder}, declared.pays.Pays.{Pays}, declared.pays.Pays.TheVariants.{Fixed, Showdown}, declared.place.Place.{Place}}

-- what a player wins in a deal, in chips, by the own outcome
abbrev pub paid : Pays → ℤ → ℤ
paid (Fixed stake) outcome = stake
paid (Showdown chips) outcome = pos chips *ℤ outcome

-- what a last-round signal is paid in its deals. It is the sum of the number of the other's signal times the weight times what the deal pays at its outcome
abbrev pub deal_sum : Game → List ℕ → (ℤ → ℤ) → ℕ → ℤ
deal_sum g numbers pays signal =
    sum_z (λ (d : Deal). pos (slice_index numbers d.two) *ℤ (pos d.weight *ℤ pays d.outcome)) (filter (λ (d : Deal). d.one == signal) (deals g))

-- an integer modulo 2^32
abbrev pub remainder : ℤ → ℤ
remainder z = int_rem_euclid z (pos (2 ^ 32))

-- what a last-round signal is paid in its deals at a showdown for one chip, modulo 2^32
abbrev pub deal_remainder : Game → List ℕ → ℕ → ℤ
deal_remainder g numbers signal = remainder (deal_sum g numbers (paid (Showdown 1)) signal)

-- ---- of private functions

-- `first` is the first last-round signal that shows the same public cards as `signal`
pub record IsFirstOn (g : Game) (signal first : ℕ) : Type 0 where
  pub within : first < last_count g
  pub same : shows_same g signal first ≡ true
  pub none_before : (k : ℕ) → k < first → shows_same g signal k ≡ false

-- the place of a last-round signal: its board, its strength, and the bonus of its category
pub record IsPlace (g : Game) (p : Place) : Type 0 where
  pub within : p.signal < last_count g
  pub board : IsFirstOn g p.signal p.board
  pub strength : p.strength ≡ signal_strength g (signal_at g (round_count g) p.signal)
  pub win : p.win ≡ slice_index g.bonus (category g.ranking p.strength)

-- each last-round signal has one place, and the places are in order
pub record ArePlaces (g : Game) (places : List Place) : Type 0 where
  pub long : length places ≡ last_count g
  pub each : All (IsPlace g) places
  pub once : (signal : ℕ) → signal < last_count g → count_by (λ (p : Place). p.signal == signal) places ≡ 1
  pub order : AreInOrder places
