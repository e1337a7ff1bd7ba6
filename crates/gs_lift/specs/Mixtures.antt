-- Mixtures: what a raw plan does at a point and a raw signal, move by move.
use Rattle.std.specs.Prelude.{ℕ, ◌≡◌, pos, List, map, slice_get, Some, sum_by}
use Rattle.gs_frac.specs.declared.value.Fraction.{Fraction}
use Rattle.gs_model.specs.{Frame.{Frame, choices_at, point}, Plans.{Plan, IsShare}, Positions.{Arrow}}

-- the fraction `share` is the share of move `m` at a point and a raw signal
pub record IsShareOf (f : Frame) (x : Plan) (q s m : ℕ) (share : Fraction) : Type 0 where
  pub above : ℕ
  pub below : ℕ
  pub num : share.num ≡ pos above
  pub den : share.den ≡ pos below
  pub is : IsShare f x q s m above below

-- the letters of a point's moves in order, each with the move's share
pub record IsMixture (f : Frame) (x : Plan) (q s : ℕ) (pairs : List (ℕ × Fraction)) : Type 0 where
  pub letters : map (λ (p : ℕ × Fraction). p.0) pairs ≡ map (λ (a : Arrow). a.letter) (point f q).moves
  pub shares : (m : ℕ) (p : ℕ × Fraction) → slice_get pairs m ≡ Some p → IsShareOf f x q s m p.1

-- ---- of private functions

-- the sum of the numbers of all moves at a point and a signal
abbrev pub total_number : Frame → Plan → ℕ → ℕ → ℕ
total_number f x q s = sum_by (λ c. x.number q s c) (choices_at f q)
