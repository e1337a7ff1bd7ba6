-- What a move of the other player brings at ends.
use Rattle.std.specs.Prelude.{ℕ, ◌<◌, ◌≡◌, Bool, Some, ℤ, neg_ℤ, pos, ◌+ℤ◌, ◌*ℤ◌, if◌then◌else◌}
use Rattle.gs_model.specs.{Classes.{ClassLists, IsClass}, Frame.{Frame, end_count, last_step, other_player, round_of}, Positions.{Step, at_end}}
use Rattle.gs_seq.specs.declared.pair.Pair.{Pair}
use Rattle.gs_play.specs.{Tables.{raise_sum}, declared.pushing.Stake.{Stake}}

-- a number that is added where a move is taken, and taken away where it is taken no more
abbrev pub with_sign : Bool → ℤ → ℤ
with_sign is_on x = if is_on then x else neg_ℤ x

-- numbers at ends in which a move of the other player at a class counts once more, or once less
pub record IsPushed (f : Frame) (lists : ClassLists) (player : ℕ) (u : Step) (e : ℕ) (is_on : Bool) (old new : ℕ → ℕ → ℤ) : Type 0 where
  pub behind : (z c : ℕ) → z < end_count f → last_step f (other_player player) (at_end z) ≡ Some u → IsClass lists (round_of f (at_end z)) c
      → new z c ≡ old z c +ℤ with_sign is_on (raise_sum f lists player z u e c)
  pub elsewhere : (z c : ℕ) → z < end_count f → (last_step f (other_player player) (at_end z) ≡ Some u → ⊥) → IsClass lists (round_of f (at_end z)) c
      → new z c ≡ old z c

-- what a stake pays for a pair
abbrev pub stake_pays : Stake → Pair → ℤ
stake_pays s p = s.factor *ℤ (if s.is_shown then p.signed else pos p.weight)
