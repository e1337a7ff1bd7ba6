-- What the points of a valid game say of its frame, and how many there are.
use Rattle.std.proofs.Common.{◌≡◌, ℕ, ◌+◌, ◌<◌, ◌≤◌, ◌^◌, List, [], ◌∷◌, ◌++◌, length, map, get_or, refl, sym, ap, ◌∙◌, arith, length-append, Option, None}
use Rattle.std.proofs.{Common.{Some, sum_by, subst, ⊎_elim}, lemmas.List.Sorted.{sum_by-IsPermutation}, lemmas.List.Sums.{sum_by-cons}}
use Rattle.std.proofs.{lemmas.Bool.{cases_eq}, lemmas.List.{get_or-map, length-map}, lemmas.List.FromFn.{length-range_with_len}}
use Rattle.std.specs.{Prelude.{◌⊎◌, flat_map, option_map}, List.{range_with_len}}
use Rattle.gs_game.specs.{Games.{game_of, plain_trees, round_rules}, Seen.{OwnPoint, own_point, point_of, step_of}}
use Rattle.gs_game.specs.{declared.positions.Point.{Point as StoredPoint}, declared.positions.Step.{Step as StoredStep}, declared.valid.ValidGame.{ValidGame}}
use Rattle.gs_game.proofs.{Checked.{lines_follow}, Deciding.{trees_are}, EndLaws.{rounds_count}, Playable.{is_playable}}
use Rattle.gs_model.specs.Frame.{Frame, end_count, last_round, last_step, leads_to, move_count, player_at, point, point_count, round_of as round_at}
use Rattle.gs_model.specs.{FrameFacts.{IsWalked, ends_of, next_of, points_of}, Game.{IsPlayable}, Positions.{Point, at_end, at_point}, Walk.{walk_start}}
use Rattle.gs_model.proofs.{Positions.{AllFrom-at0, GoodPoint}, Walked.{frame_good, walked_one, walked_two}, Basics.{sum-ones}}
use Rattle.gs_seq.specs.Games.{frame_in}

-- a point of the program is the frame's point of a number
pub record Reads (f : Frame) (q : ℕ) (p : StoredPoint) : Type 0 where
  pub player : p.player ≡ player_at f q
  pub round : p.round ≡ round_at f (at_point q)
  pub moves : length p.moves.items ≡ move_count f q
  pub own : option_map step_of p.own ≡ last_step f (player_at f q) (at_point q)

from_own : (f : Frame) (q : ℕ) (p : StoredPoint) → point_of p ≡ own_point (point f q) → Reads f q p
unfolding player_at round_at move_count last_step
from_own f q p e = record {
  player = ap (λ (x : OwnPoint). x.player) e;
  round = ap (λ (x : OwnPoint). x.round) e;
  moves = sym (length-map p.moves.items _) ∙ ap (λ (x : OwnPoint). length x.moves) e;
  own = ap (λ (x : OwnPoint). x.own) e;
}

pub playable : (g : ValidGame) → IsPlayable (game_of g.game)
playable g = is_playable g.game (omega (arith, g.limits.some_round, length-map g.game.rounds.items round_rules))

pub walked : (g : ValidGame) (player : ℕ) → 0 < player → player ≤ 2 → IsWalked (frame_in g) player
walked g player some few = ⊎_elim
    (λ one. subst (IsWalked (frame_in g)) (sym one) (walked_one (game_of g.game) (playable g)))
    (λ other. let two : player ≡ 2 = omega arith in subst (IsWalked (frame_in g)) (sym two) (walked_two (game_of g.game) (playable g)))
    (cases_eq player 1)

-- the points of the program
pub length-points : (g : ValidGame) (ps : List StoredPoint) → map point_of ps ≡ map own_point (frame_in g).points → length ps ≡ point_count (frame_in g)
length-points g ps e = sym (length-map ps point_of) ∙ ap (λ (l : List OwnPoint). length l) e ∙ length-map (frame_in g).points own_point

-- a point of the game has its place in the list
pub place_in : (g : ValidGame) (ps : List StoredPoint) (q : ℕ) → map point_of ps ≡ map own_point (frame_in g).points → q < point_count (frame_in g)
    → q < length ps
place_in g ps q e l = subst (λ n. q < n) (sym (length-points g ps e)) l

pub point_reads : (g : ValidGame) (ps : List StoredPoint) (q : ℕ) (p : StoredPoint) → map point_of ps ≡ map own_point (frame_in g).points
    → q < point_count (frame_in g) → p ≡ get_or ps q p → Reads (frame_in g) q p
point_reads g ps q p e l is =
    let f = frame_in g in
    let out = own_point (point f q) in
    from_own f q p (ap point_of is ∙ sym (get_or-map point_of ps q p out (omega (arith, length-points g ps e)))
    ∙ ap (λ (xs : List OwnPoint). get_or xs q out) e ∙ get_or-map own_point f.points q (record {
      player = 0;
      round = 1;
      one = None;
      two = None;
      moves =
          [];
    }) out l)

pub place_reads : (g : ValidGame) (ps : List StoredPoint) (q : ℕ) (p : StoredPoint) → map point_of ps ≡ map own_point (frame_in g).points
    → q < point_count (frame_in g) → p ≡ get_or ps q p → Reads (frame_in g) q (get_or ps q p)
place_reads g ps q p e l is = subst (Reads (frame_in g) q) is (point_reads g ps q p e l is)

-- who chooses at a point, of as many as the frame has
pub chooser : (g : ValidGame) (ps : List StoredPoint) (q count : ℕ) (p : StoredPoint) → map point_of ps ≡ map own_point (frame_in g).points
    → count ≡ point_count (frame_in g) → q < count → p ≡ get_or ps q p → (get_or ps q p).player ≡ player_at (frame_in g) q
chooser g ps q count p e all l is = (place_reads g ps q p e (omega arith) is).player

-- the round of a point is one of the game's
pub round_in : (g : ValidGame) (q : ℕ) (p : StoredPoint) → Reads (frame_in g) q p → q < point_count (frame_in g)
    → (0 < p.round) × (p.round ≤ last_round (frame_in g))
round_in g q p r l =
    let w = walked g 1 (omega arith) (omega arith) in
    (omega (arith, r.round, w.some_round q l), omega (arith, r.round, w.point_in q l))

-- a player's last step before an end, as the program has it, which is made at a point of the game
pub record IsStepBefore (g : ValidGame) (player z : ℕ) (s : StoredStep) : Type 0 where
  pub made : last_step (frame_in g) player (at_end z) ≡ Some (step_of s)
  pub inside : (step_of s).point < point_count (frame_in g)

pub step_before : (g : ValidGame) (player z : ℕ) (o : Option StoredStep) (s : StoredStep) → 0 < player → player ≤ 2 → z < end_count (frame_in g)
    → option_map step_of o ≡ last_step (frame_in g) player (at_end z) → o ≡ Some s → IsStepBefore g player z s
step_before g player z o s some two l is was =
    let made : last_step (frame_in g) player (at_end z) ≡ Some (step_of s) = sym is ∙ ap (option_map step_of) was in
    record { made = made; inside = (walked g player some two).earlier_end z (step_of s) l made }

-- players 1 and 2 choose
pub players : (g : ValidGame) (q : ℕ) → q < point_count (frame_in g) → (player_at (frame_in g) q ≡ 1) ⊎ (player_at (frame_in g) q ≡ 2)
unfolding player_at
players g q l =
    let f = frame_in g in
    let none : Point = record { player = 0; round = 1; one = None; two = None; moves = [] } in
    (AllFrom-at0 (GoodPoint f) q f.points none l (frame_good (game_of g.game) (playable g)).points).sound

-- the positions hang together for the player who chooses at a point
pub walked_at : (g : ValidGame) (player q : ℕ) → q < point_count (frame_in g) → player_at (frame_in g) q ≡ player → IsWalked (frame_in g) player
walked_at g player q l own = ⊎_elim
    (λ one. walked g player (omega (arith, own, one)) (omega (arith, own, one)))
    (λ two. walked g player (omega (arith, own, two)) (omega (arith, own, two)))
    (players g q l)

-- ---- how many

-- there are fewer than 2^32 points and ends
pub record AreFew (f : Frame) : Type 0 where
  pub points : point_count f < 2 ^ 32
  pub ends : end_count f < 2 ^ 32

pub few : (g : ValidGame) → AreFew (frame_in g)
few g =
    let h = lines_follow g.game g.accepted (omega (arith, g.limits.few_rounds, length-map g.game.rounds.items round_rules)) in
    let c = rounds_count (plain_trees g.game.rounds.items) in
    let p = c.points_are (walk_start g.game.ante) in
    let e = c.ends_are (walk_start g.game.ante) in
    record {
      points = rw trees_are (omega (arith, h.few_points, p));
      ends = rw trees_are (omega (arith, h.few_ends, e));
    }

length-next : (f : Frame) (xs : List ℕ) → length (flat_map (next_of f) (map at_point xs)) ≡ sum_by (move_count f) xs
length-next f [] = refl
length-next f (x ∷ xs) =
    omega (
      arith,
      length-append (next_of f (at_point x)) (flat_map (next_of f) (map at_point xs)),
      sum_by-cons (move_count f) x xs,
      length-next f xs,
      length-map (range_with_len 0 (move_count f x)) (leads_to f x),
      length-range_with_len 0 (move_count f x),
    )

-- all moves together lead to each position but the start
pub moves_total : (f : Frame) (player : ℕ) → IsWalked f player → 1 + sum_by (move_count f) (range_with_len 0 (point_count f)) ≡ point_count f + end_count f
moves_total f player w =
    let xs = f.start ∷ flat_map (next_of f) (points_of f) in
    let ys = points_of f ++ ends_of f in
    let e = sum_by-IsPermutation (λ x. 1) xs ys w.tree in
    omega (
      arith,
      e,
      sum-ones xs,
      sum-ones ys,
      length-append (points_of f) (ends_of f),
      length-next f (range_with_len 0 (point_count f)),
      length-map (range_with_len 0 (point_count f)) at_point,
      length-range_with_len 0 (point_count f),
      length-map (range_with_len 0 (end_count f)) at_end,
      length-range_with_len 0 (end_count f),
    )
