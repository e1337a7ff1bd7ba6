-- Counting ends: as far as a cap holds them, and as the walk has them.
use Rattle.std.proofs.Common.{◌≡◌, ℕ, ◌+◌, min, List, [], ◌∷◌, length, refl, arith, length-append}
use Rattle.gs_model.specs.{Betting.{Bet, Moves, act, fold, even, none, move}, Walk.{Place, Walked, after_move, walk_tree, walk_moves, walk_rounds}}
use Rattle.gs_game.specs.Counts.{ends_of, move_ends, ends_in, points_of, move_points, points_in}

mutual
  capped : (cap n : ℕ) (t : Bet) → min (ends_of (min n cap) t) cap ≡ min (ends_of n t) cap
  capped cap n (act player ms) = capped_moves cap n ms
  capped cap n fold = refl
  capped cap n even = omega arith

  capped_moves : (cap n : ℕ) (ms : Moves) → min (move_ends (min n cap) ms) cap ≡ min (move_ends n ms) cap
  capped_moves cap n none = refl
  capped_moves cap n (move letter chips next ms) = omega (arith, capped cap n next, capped_moves cap n ms)

pub cap_rest : (cap n more : ℕ) (t : Bet) → more ≡ min n cap → min (ends_of more t) cap ≡ min (ends_of n t) cap
cap_rest cap n more t e = rw e (capped cap n t)

-- ---- as the walk has them

pub record HasCounts (go_on : Place → Walked) (points ends : ℕ) : Type 0 where
  pub ends_are : (p : Place) → length (go_on p).ends ≡ ends
  pub points_are : (p : Place) → length (go_on p).points ≡ points

mutual
  pub tree_counts : (t : Bet) (go_on : Place → Walked) (points ends : ℕ) → HasCounts go_on points ends → (p : Place)
      → (length (walk_tree go_on t p).ends ≡ ends_of ends t) × (length (walk_tree go_on t p).points ≡ points_of points t)
  tree_counts (act player ms) g m n h p = let e = moves_counts ms g m n h player p.point 0 (record p { point = p.point + 1 }) in (e.0, omega (arith, e.1))
  tree_counts fold g m n h p = (refl, refl)
  tree_counts even g m n h p = (h.ends_are p, h.points_are p)

  moves_counts : (ms : Moves) (go_on : Place → Walked) (points ends : ℕ) → HasCounts go_on points ends → (player point choice : ℕ) (p : Place)
      → (length (walk_moves go_on ms player point choice p).walked.ends ≡ move_ends ends ms)
      × (length (walk_moves go_on ms player point choice p).walked.points ≡ move_points points ms)
  moves_counts none g m n h player point choice p = (refl, refl)
  moves_counts (move letter chips next ms) g m n h player point choice p =
      let here = after_move player point choice chips p in
      let first = walk_tree g next here in
      let there : Place = record p { point = p.point + length first.points; end = p.end + length first.ends } in
      let others = walk_moves g ms player point (choice + 1) there in
      let one = tree_counts next g m n h here in
      let rest = moves_counts ms g m n h player point (choice + 1) there in (
        omega (arith, length-append first.ends others.walked.ends, one.0, rest.0),
        omega (arith, length-append first.points others.walked.points, one.1, rest.1),
      )

pub rounds_count : (ts : List Bet) → HasCounts (walk_rounds ts) (points_in ts) (ends_in ts)
rounds_count [] = record { ends_are = λ p. refl; points_are = λ p. refl }
rounds_count (t ∷ ts) =
    let c : (p : Place) → (length (walk_tree (walk_rounds ts) t p).ends ≡ ends_in (t ∷ ts))
    × (length (walk_tree (walk_rounds ts) t p).points ≡ points_in (t ∷ ts)) =
    tree_counts t (walk_rounds ts) (points_in ts) (ends_in ts) (rounds_count ts) in
    record { ends_are = λ p. (c (record p { round = p.round + 1 })).0; points_are = λ p. (c (record p { round = p.round + 1 })).1 }
