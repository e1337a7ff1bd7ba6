-- Each round before the last goes on, so no round has fewer points or ends than those behind it.
use Rattle.std.proofs.{Common.{◌≡◌, ℕ, ◌+◌, ◌<◌, ◌≤◌, ◌^◌, true, List, [], ◌∷◌, refl, inl, inr, arith}, lemmas.Bool.{cases_Bool, or_cases}}
use Rattle.std.specs.Prelude.{None}
use Rattle.gs_model.specs.Betting.{Bet, Moves, act, fold, even, none, move}
use Rattle.gs_model.proofs.Basics.{some-none}
use Rattle.gs_game.specs.{Counts.{points_of, ends_of, move_points, move_ends, points_in, ends_in}, Lines.{RoundsFollow, TreeFollows, MovesFollow}}
use Rattle.gs_game.specs.{Money.{has_even, any_even}, Refusals.{no_even, no_even_from}}

-- a tree with an even leaf leads to no fewer points and ends than follow that leaf
mutual
  no-fewer : (t : Bet) (n m : ℕ) → has_even t ≡ true → (n ≤ points_of n t) × (m ≤ ends_of m t)
  no-fewer (act player ms) n m h = let r = no-fewer-moves ms n m h in (omega (arith, r.0), r.1)
  no-fewer fold n m h = absurd cc
  no-fewer even n m h = (omega arith, omega arith)

  no-fewer-moves : (ms : Moves) (n m : ℕ) → any_even ms ≡ true → (n ≤ move_points n ms) × (m ≤ move_ends m ms)
  no-fewer-moves none n m h = absurd cc
  no-fewer-moves (move l c t ms) n m h = elim (or_cases (has_even t) (any_even ms) h) [
    | inl here ↦ let r = no-fewer t n m here in (omega (arith, r.0), omega (arith, r.1))
    | inr there ↦ let r = no-fewer-moves ms n m there in (omega (arith, r.0), omega (arith, r.1))
  ]

-- the first of several rounds has an even leaf, and the others go on
goes-on : (n : ℕ) (t u : Bet) (ts : List Bet) → no_even_from n (t ∷ u ∷ ts) ≡ None → (has_even t ≡ true) × (no_even_from (n + 1) (u ∷ ts) ≡ None)
goes-on n t u ts h = elim (cases_Bool (has_even t)) [
  | inl e ↦ (e, rw e at h)
  | inr e ↦ absurd (some-none (no_even n) (rw e at h))
]

from-any : (n m : ℕ) (ts : List Bet) → no_even_from n ts ≡ None → no_even_from m ts ≡ None
from-any n m [] h = refl
from-any n m (t ∷ []) h = refl
from-any n m (t ∷ u ∷ ts) h = let g = goes-on n t u ts h in rw g.0 (from-any (n + 1) (m + 1) (u ∷ ts) g.1)

-- what holds of the rounds behind the first
pub record Behind (ts : List Bet) (points ends : ℕ) : Type 0 where
  pub evens : no_even_from 1 ts ≡ None
  pub points_in_them : points_in ts < 2 ^ 32
  pub ends_in_them : ends_in ts < 2 ^ 32

pub behind_first : (t : Bet) (ts : List Bet) (points ends : ℕ) → RoundsFollow (t ∷ ts) points ends → Behind ts points ends
behind_first t [] points ends h = record { evens = refl; points_in_them = omega arith; ends_in_them = omega arith }
behind_first t (u ∷ ts) points ends h =
    let g = goes-on 1 t u ts h.evens in
    let r = no-fewer t (points_in (u ∷ ts)) (ends_in (u ∷ ts)) g.0 in
    record { evens = from-any 2 1 (u ∷ ts) g.1; points_in_them = omega (arith, h.few_points, r.0); ends_in_them = omega (arith, h.few_ends, r.1) }

pub first_follows : (t : Bet) (ts : List Bet) (points ends : ℕ) → RoundsFollow (t ∷ ts) points ends → TreeFollows ts t points ends
first_follows t ts points ends h = record { evens = (behind_first t ts points ends h).evens; few_points = h.few_points; few_ends = h.few_ends }

pub even_follows : (ts : List Bet) (points ends : ℕ) → TreeFollows ts even points ends → RoundsFollow ts points ends
even_follows ts points ends h = record { evens = h.evens; few_points = h.few_points; few_ends = h.few_ends }

pub moves_follow : (ts : List Bet) (player points ends : ℕ) (ms : Moves) → TreeFollows ts (act player ms) points ends → MovesFollow ts ms (points + 1) ends
moves_follow ts player points ends ms h = record { evens = h.evens; few_points = omega (arith, h.few_points); few_ends = h.few_ends }

pub move_follows : (ts : List Bet) (points ends letter chips : ℕ) (t : Bet) (ms all : Moves) → MovesFollow ts all points ends → all ≡ move letter chips t ms
    → TreeFollows ts t points ends
move_follows ts points ends letter chips t ms all h e =
    let h' : MovesFollow ts (move letter chips t ms) points ends = rw e at h in
    record { evens = h'.evens; few_points = omega (arith, h'.few_points); few_ends = omega (arith, h'.few_ends) }
