-- The numbers of a walk stay small.
use Rattle.std.proofs.{Common.{◌≡◌, ℕ, ◌+◌, ◌<◌, ◌≤◌, ◌^◌, max, true, List, [], ◌∷◌, length, refl, inl, inr, arith}, lemmas.Bool.{cases_Bool}}
use Rattle.std.specs.Prelude.{◌==◌}
use Rattle.gs_model.specs.{Betting.{Bet, Moves, act, fold, even, none, move}, Walk.{Place, after_move, walk_tree, walk_rounds}}
use Rattle.gs_bet.specs.{TreeView.{plain}, MoveLists.{has_move}, Grammar.{is_sound, are_sound}}
use Rattle.gs_game.specs.{Counts.{points_in, ends_in, move_points, move_ends}, Games.{plain_trees}, declared.game.Round.{Round}}
use Rattle.gs_game.specs.{Money.{one_after, two_after, most_put, most_moved, most_in}, Walks.{IsWalkable}}
use Rattle.gs_game.proofs.{MoneyLaws.{sound_act, sound_move, tree_sound}, EndLaws.{rounds_count, tree_counts}, WalkLaws.{at}}

-- the numbers stay small in a walk of the moves of a point, from one of them on, and then of some rounds
pub record AreWalkable (rest : List Bet) (player : ℕ) (ms : Moves) (p : Place) : Type 0 where
  pub left : ℕ
  pub sound : are_sound left ms ≡ true
  pub rounds : p.round + length rest ≤ 4
  pub put : most_moved (most_in rest) p.put_one p.put_two player ms ≤ 4096
  pub points : p.point + move_points (points_in rest) ms < 2 ^ 32
  pub ends : p.end + move_ends (ends_in rest) ms < 2 ^ 32

-- after a move nobody has put less
more_one : (player chips one : ℕ) → one ≤ one_after player chips one
more_one player chips one = elim (cases_Bool (player == 1)) [ inl e ↦ rw e (omega arith) | inr e ↦ rw e (omega arith) ]

more_two : (player chips two : ℕ) → two ≤ two_after player chips two
more_two player chips two = elim (cases_Bool (player == 1)) [ inl e ↦ rw e (omega arith) | inr e ↦ rw e (omega arith) ]

-- what both have put before a tree is no more than the most that is put in it
least_put : (t : Bet) (left : ℕ) (go_on : ℕ → ℕ → ℕ) (one two : ℕ) → is_sound left t ≡ true → ((a b : ℕ) → max a b ≤ go_on a b)
    → max one two ≤ most_put go_on one two t
least_put (act player none) left g one two sound h = let s = sound_act left player none sound in absurd (no_moves s.3)
  where
    no_moves : has_move none ≡ true → ⊥
    no_moves e = cc
least_put (act player (move letter chips next ms)) left g one two sound h =
    let s = sound_act left player (move letter chips next ms) sound in
    let m = sound_move s.0 letter chips next ms s.2 in
    let first = least_put next s.0 g (one_after player chips one) (two_after player chips two) m.next h in
    omega (arith, first, more_one player chips one, more_two player chips two)
least_put fold left g one two sound h = omega arith
least_put even left g one two sound h = h one two

least_in : (rs : List Round) (one two : ℕ) → max one two ≤ most_in (plain_trees rs) one two
least_in [] one two = omega arith
least_in (r ∷ rs) one two = least_put (plain r.tree.tree) 16 (most_in (plain_trees rs)) one two (tree_sound (plain r.tree.tree) r.tree.sound) (least_in rs)

-- what a move puts fits
pub record MoveFits (player chips one two : ℕ) : Type 0 where
  pub one_in : one_after player chips one < 2 ^ 16
  pub two_in : two_after player chips two < 2 ^ 16

pub move_fits : (rs : List Round) (player letter chips : ℕ) (t : Bet) (ms all : Moves) (p : Place) → AreWalkable (plain_trees rs) player all p
    → all ≡ move letter chips t ms
    → MoveFits player chips p.put_one p.put_two
move_fits rs player letter chips t ms all p h e =
    let h' : AreWalkable (plain_trees rs) player (move letter chips t ms) p = rw e at h in
    let m = sound_move h'.left letter chips t ms h'.sound in
    let least = least_put t h'.left (most_in (plain_trees rs)) (one_after player chips p.put_one) (two_after player chips p.put_two) m.next (least_in rs) in
    record { one_in = omega (arith, least, h'.put); two_in = omega (arith, least, h'.put) }

-- the first of some moves leads to a tree that can be walked
pub after_put_one : (player number choice chips : ℕ) (p : Place) → (after_move player number choice chips p).put_one ≡ one_after player chips p.put_one
after_put_one player number choice chips p = elim (cases_Bool (player == 1)) [ inl e ↦ rw e refl | inr e ↦ rw e refl ]

pub after_put_two : (player number choice chips : ℕ) (p : Place) → (after_move player number choice chips p).put_two ≡ two_after player chips p.put_two
after_put_two player number choice chips p = elim (cases_Bool (player == 1)) [ inl e ↦ rw e refl | inr e ↦ rw e refl ]

after_rest : (player number choice chips : ℕ) (p : Place)
    → ((after_move player number choice chips p).round ≡ p.round) × ((after_move player number choice chips p).point ≡ p.point)
    × ((after_move player number choice chips p).end ≡ p.end)
after_rest player number choice chips p = elim (cases_Bool (player == 1)) [ inl e ↦ rw e (refl, refl, refl) | inr e ↦ rw e (refl, refl, refl) ]

pub walkable_first : (rest : List Bet) (player number choice letter chips : ℕ) (t : Bet) (ms all : Moves) (p here : Place) → AreWalkable rest player all p
    → all ≡ move letter chips t ms
    → here ≡ after_move player number choice chips p → IsWalkable rest t here
walkable_first rest player number choice letter chips t ms all p here h e is =
    let h' : AreWalkable rest player (move letter chips t ms) p = rw e at h in
    let m = sound_move h'.left letter chips t ms h'.sound in
    let a = after_rest player number choice chips p in
    rw is (record {
      left = h'.left;
      sound = m.next;
      rounds = omega (arith, h'.rounds, a.0);
      put = rw (after_put_one player number choice chips p, after_put_two player number choice chips p) (omega (arith, h'.put));
      points = omega (arith, h'.points, a.1);
      ends = omega (arith, h'.ends, a.2);
    })

-- and the others can still be walked behind it
pub walkable_rest : (rest : List Bet) (player letter chips points ends : ℕ) (t : Bet) (ms all : Moves) (p here : Place) → AreWalkable rest player all p
    → all ≡ move letter chips t ms
    → points ≡ p.point + length (walk_tree (walk_rounds rest) t here).points → ends ≡ p.end + length (walk_tree (walk_rounds rest) t here).ends
    → AreWalkable rest player ms (at p points ends)
walkable_rest rest player letter chips points ends t ms all p here h e f g =
    let h' : AreWalkable rest player (move letter chips t ms) p = rw e at h in
    let m = sound_move h'.left letter chips t ms h'.sound in
    let c = tree_counts t (walk_rounds rest) (points_in rest) (ends_in rest) (rounds_count rest) here in
    record {
      left = h'.left;
      sound = m.others;
      rounds = h'.rounds;
      put = omega (arith, h'.put);
      points = omega (arith, h'.points, f, c.1);
      ends = omega (arith, h'.ends, g, c.0);
    }

-- a point's moves can be walked once its number is given
pub walkable_moves : (rest : List Bet) (player : ℕ) (ms : Moves) (p : Place) → IsWalkable rest (act player ms) p
    → AreWalkable rest player ms (at p (p.point + 1) p.end)
walkable_moves rest player ms p h =
    let s = sound_act h.left player ms h.sound in
    record {
      left = s.0;
      sound = s.2;
      rounds = h.rounds;
      put = h.put;
      points = omega (arith, h.points);
      ends = h.ends;
    }
