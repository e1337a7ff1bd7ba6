-- There are not many more points than ends.
use Rattle.std.proofs.{Common.{◌≡◌, ℕ, suc, ◌+◌, ◌*◌, ◌<◌, ◌≤◌, ◌^◌, true, List, [], ◌∷◌, length, arith}, Math.Nat.{mul-le-mul_right}}
use Rattle.gs_model.specs.Betting.{Bet, Moves, act, fold, even, none, move}
use Rattle.gs_bet.specs.{TreeView.{plain}, MoveLists.{has_move}, Grammar.{is_sound, are_sound}}
use Rattle.gs_game.specs.{Counts.{points_of, ends_of, move_points, move_ends, points_in, ends_in}, Games.{plain_trees}, declared.game.Round.{Round}}
use Rattle.gs_game.proofs.MoneyLaws.{sound_act, sound_move, tree_sound}

-- so many points to an end at most, and some end
record Bounded (points ends most : ℕ) : Type 0 where
  few : points ≤ most * ends
  some : 1 ≤ ends

wider : (a b c n : ℕ) → a ≤ b * n → b ≤ c → a ≤ c * n
wider a b c n h k = let m = mul-le-mul_right n k in omega (arith, h, m)

joined : (a b m n k : ℕ) → a ≤ k * m → b ≤ k * n → a + b ≤ k * (m + n)
joined a b m n k h i = omega (arith, h, i)

one_more : (p e k l : ℕ) → p ≤ k * e → 1 ≤ e → l ≡ suc k → suc p ≤ l * e
one_more p e k l h some is = rw is (omega (arith, h))

mutual
  tree-bound : (t : Bet) (left d mp me : ℕ) → is_sound left t ≡ true → Bounded mp me d → Bounded (points_of mp t) (ends_of me t) (left + d)
  tree-bound (act player none) left d mp me sound b = let s = sound_act left player none sound in absurd (no_moves s.3)
    where
      no_moves : has_move none ≡ true → ⊥
      no_moves h = cc
  tree-bound (act player (move letter chips next ms)) left d mp me sound b =
      let s = sound_act left player (move letter chips next ms) sound in
      let m = sound_move s.0 letter chips next ms s.2 in
      let first = tree-bound next s.0 d mp me m.next b in
      let others = moves-bound ms s.0 d mp me m.others b in
      let few = joined (points_of mp next) (move_points mp ms) (ends_of me next) (move_ends me ms) (s.0 + d) first.few others in
      record {
        few = one_more _ (ends_of me next + move_ends me ms) (s.0 + d) (left + d) few (omega (arith, first.some)) (omega (arith, s.1));
        some = omega (arith, first.some);
      }
  tree-bound fold left d mp me sound b = record { few = omega arith; some = omega arith }
  tree-bound even left d mp me sound b = record { few = wider mp d (left + d) me b.few (omega arith); some = b.some }

  moves-bound : (ms : Moves) (left d mp me : ℕ) → are_sound left ms ≡ true → Bounded mp me d → move_points mp ms ≤ (left + d) * move_ends me ms
  moves-bound none left d mp me sound b = omega arith
  moves-bound (move letter chips next ms) left d mp me sound b =
      let m = sound_move left letter chips next ms sound in
      joined (points_of mp next) (move_points mp ms) (ends_of me next) (move_ends me ms) (left + d) (tree-bound next left d mp me m.next b).few
      (moves-bound ms left d mp me m.others b)

rounds-bound : (rs : List Round) → Bounded (points_in (plain_trees rs)) (ends_in (plain_trees rs)) (16 * length rs)
rounds-bound [] = record { few = omega arith; some = omega arith }
rounds-bound (r ∷ rs) =
    let b = tree-bound (plain r.tree.tree) 16 (16 * length rs) (points_in (plain_trees rs)) (ends_in (plain_trees rs))
    (tree_sound (plain r.tree.tree) r.tree.sound) (rounds-bound rs) in
    record { few = wider _ (16 + 16 * length rs) (16 * length (r ∷ rs)) _ b.few (omega arith); some = b.some }

pub few_points : (rs : List Round) → length rs ≤ 4 → ends_in (plain_trees rs) ≤ 8192 → points_in (plain_trees rs) < 2 ^ 32
few_points rs few ends =
    let b = rounds-bound rs in
    let w = wider (points_in (plain_trees rs)) (16 * length rs) 64 (ends_in (plain_trees rs)) b.few (omega (arith, few)) in
    omega (arith, w, ends)
