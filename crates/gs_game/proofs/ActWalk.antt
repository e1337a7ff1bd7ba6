-- The walk of one choice: its point, and its moves one at a time.
use Rattle.std.proofs.Common.{◌≡◌, ℕ, ◌+◌, ◌<◌, ◌≤◌, List, [], ◌∷◌, ◌++◌, map, length, get_or, refl, sym, ap, ◌∙◌, arith, length-append}
use Rattle.std.proofs.lemmas.List.{length-map, map-append}
use Rattle.std.specs.{Prelude.{◌==◌, slice_set, option_map, if◌then◌else◌, IfOk, Result, Ok, Err}, Global.{Vec}}
use Rattle.gs_model.specs.{Betting.{Bet, Moves, act, none, move}, Positions.{at_point, at_end, Arrow, End}}
use Rattle.gs_model.specs.Walk.{Place, Walked, WalkedMoves, after_move, walk_tree, walk_moves, walk_rounds}
use Rattle.gs_bet.specs.{TreeView.{plain_moves}, declared.shape.Move.{Move}}
use Rattle.gs_bet.proofs.{Letters.{at_most_26}, ReadingLaws.{count_plain}}
use Rattle.gs_game.specs.{Seen.{step_of, arrow_of, target_of, own_point, OwnPoint, point_of, end_of}, Walks.{Grows, IsWalkable, place_of}}
use Rattle.gs_game.specs.{declared.place.Place.{Place as StoredPlace}, declared.positions.Arrow.{Arrow as StoredArrow}}
use Rattle.gs_game.specs.{declared.positions.Point.{Point as StoredPoint}, declared.positions.End.{End as StoredEnd}}
use Rattle.gs_game.specs.declared.positions.Target.{Target as StoredTarget}
use Rattle.gs_game.specs.declared.positions.Target.TheVariants as targets
use Rattle.gs_game.proofs.{MoneyLaws.{sound_act}, WalkLaws.{at, Going, going_step, going_done, patched, grows_end}, WalkRoom.{AreWalkable, walkable_rest}}

-- what all moves of the choice make
abbrev pub whole : List Bet → ℕ → Moves → StoredPlace → ℕ → ℕ → WalkedMoves
whole rest player all place points ends = walk_moves (walk_rounds rest) all player points 0 (place_of place (points + 1) ends)

-- the choice's point while its moves are not written
abbrev pub hole_of : ℕ → StoredPlace → OwnPoint
hole_of player place =
    record { player = player; round = place.round; own = if player == 1 then option_map step_of place.one else option_map step_of place.two; moves = [] }

pub record ActGoing (rest : List Bet) (player : ℕ) (all ms : Moves) (place : StoredPlace) (old_points points : List StoredPoint)
    (old_ends ends : List StoredEnd) (arrows : List StoredArrow) : Type 0 where
  pub going : Going (walk_rounds rest) player (length old_points) (place_of place 0 0) ms (map point_of points) (map end_of ends) (map arrow_of arrows)
      (map point_of old_points ++ hole_of player place ∷ map own_point (whole rest player all place (length old_points) (length old_ends)).walked.points)
      (map end_of old_ends ++ (whole rest player all place (length old_points) (length old_ends)).walked.ends)
      (whole rest player all place (length old_points) (length old_ends)).arrows
  pub fits : AreWalkable rest player ms (place_of place (length points) (length ends))

pub act_begins : (rest : List Bet) (player : ℕ) (all : Moves) (place : StoredPlace) (old points : List StoredPoint) (ends : List StoredEnd) (p : StoredPoint)
    → points ≡ old ++ p ∷ [] → point_of p ≡ hole_of player place → AreWalkable rest player all (place_of place (length old + 1) (length ends))
    → ActGoing rest player all all place old points ends ends []
act_begins rest player all place old points ends p e h fits =
    let longer : length points ≡ length old + 1 = ap length e ∙ length-append old (p ∷ []) in
    let seen : map point_of points ≡ map point_of old ++ hole_of player place ∷ [] =
    ap (map point_of) e ∙ map-append point_of old (p ∷ []) ∙ ap (λ (x : OwnPoint). map point_of old ++ x ∷ []) h in
    let count : length (map point_of points) ≡ length old + 1 = length-map points point_of ∙ longer in
    record {
      going = record {
        points_are = rw (count, length-map ends end_of) (ap (λ (x : List OwnPoint). x
            ++ map own_point (whole rest player all place (length old) (length ends)).walked.points) seen
            ∙ front (map point_of old) (hole_of player place) _);
        ends_are = rw (count, length-map ends end_of) refl;
        arrows_are = rw (count, length-map ends end_of) refl;
      };
      fits = rw longer fits;
    }
  where
    front : {A : Type 0} (xs : List A) (x : A) (ys : List A) → (xs ++ x ∷ []) ++ ys ≡ xs ++ x ∷ ys
    front [] x ys = refl
    front (z ∷ xs) x ys = ap (λ (r : List _). z ∷ r) (front xs x ys)

pub act_goes_on : (rest : List Bet) (player letter chips : ℕ) (t : Bet) (all ms left : Moves) (place here : StoredPlace)
    (old points new_points : List StoredPoint) (old_ends ends new_ends : List StoredEnd)
    (arrows new_arrows : List StoredArrow) (to : StoredTarget)
    → ActGoing rest player all left place old points old_ends ends arrows → left ≡ move letter chips t ms
    → place_of here (length points) (length ends) ≡ after_move player (length old) (length arrows) chips (place_of place (length points) (length ends))
    → Grows points new_points ends new_ends to (place_of here (length points) (length ends))
    (walk_tree (walk_rounds rest) t (place_of here (length points) (length ends)))
    → new_arrows ≡ arrows ++ record { letter = letter; to = to } ∷ []
    → ActGoing rest player all ms place old new_points old_ends new_ends new_arrows
act_goes_on rest player letter chips t all ms left place here old ps ps' old_ends es es' arrows arrows' to h e is g a =
    let h' : ActGoing rest player all (move letter chips t ms) place old ps old_ends es arrows = rw e at h in
    let w = walk_tree (walk_rounds rest) t (place_of here (length ps) (length es)) in
    let is' : place_of here (length ps) (length es) ≡ after_move player (length old) (length (map arrow_of arrows)) chips
    (at (place_of place 0 0) (length (map point_of ps)) (length (map end_of es))) =
    rw (length-map arrows arrow_of, length-map ps point_of, length-map es end_of) is in
    let more_points : length ps' ≡ length ps + length w.points = sym (length-map ps' point_of) ∙ ap length g.points_are
    ∙ length-append (map point_of ps) (map own_point w.points)
    ∙ rw (length-map ps point_of, length-map w.points own_point) refl in
    let more_ends : length es' ≡ length es + length w.ends = sym (length-map es' end_of) ∙ ap length g.ends_are ∙ length-append (map end_of es) w.ends
    ∙ rw (length-map es end_of) refl in
    record {
      going = going_step (walk_rounds rest) player (length old) letter chips (place_of place 0 0) (place_of here (length ps) (length es)) t ms
          (map point_of ps) (map point_of ps') _ (map end_of es) (map end_of es') _
          (map arrow_of arrows) (map arrow_of arrows') _ (target_of to) h'.going is' g.points_are g.ends_are g.root_is (ap (map arrow_of) a
          ∙ map-append arrow_of arrows (record { letter = letter; to = to } ∷ []));
      fits = walkable_rest rest player letter chips (length ps') (length es') t ms left (place_of place (length ps) (length es))
          (place_of here (length ps) (length es)) h.fits e more_points more_ends;
    }

pub act_ends : (rest : List Bet) (player number : ℕ) (all left : Moves) (place : StoredPlace) (old points : List StoredPoint) (old_ends ends : List StoredEnd)
    (arrows : Vec StoredArrow) (v : StoredPoint)
    → ActGoing rest player all left place old points old_ends ends arrows.items → left ≡ none → number ≡ length old → v ≡ get_or points number v
    → Grows old (slice_set points number (record { player = v.player; round = v.round; own = v.own; moves = arrows })) old_ends ends (targets.Point number)
    (place_of place (length old) (length old_ends)) (walk_tree (walk_rounds rest) (act player all) (place_of place (length old) (length old_ends)))
act_ends rest player number all left place old points old_ends ends arrows v h e n is =
    let d = going_done (walk_rounds rest) player (length old) (place_of place 0 0) left (map point_of points) _ (map end_of ends) _
    (map arrow_of arrows.items) _ h.going e in
    let k : number ≡ length (map point_of old) = n ∙ sym (length-map old point_of) in
    let written = patched (map point_of old) points v arrows (hole_of player place)
    (map own_point (whole rest player all place (length old) (length old_ends)).walked.points) (rw k at is) d.points_are in
    record {
      points_are = rw k (written ∙ with_arrows (map point_of old) player place (map arrow_of arrows.items) _ _ d.arrows_are);
      ends_are = d.ends_are;
      root_is = ap at_point n;
    }
  where
    with_arrows : (front : List OwnPoint) (player : ℕ) (place : StoredPlace) (a b : List Arrow) (tail : List OwnPoint) → a ≡ b
        → front ++ record { player = (hole_of player place).player; round = (hole_of player place).round; own = (hole_of player place).own; moves = a } ∷ tail
        ≡ front ++ record { player = (hole_of player place).player; round = (hole_of player place).round; own = (hole_of player place).own; moves = b } ∷ tail
    with_arrows front player place a b tail e = rw e refl

-- ---- ends

pub ended : {E : Type 0} (r : Result StoredTarget E) (points new_points : List StoredPoint) (ends new_ends : List StoredEnd) (start : Place) (z : StoredEnd)
    (end : End) (w : Walked)
    → new_points ≡ points → IfOk r (λ to. (new_ends ≡ ends ++ z ∷ []) × (target_of to ≡ at_end (length ends))) → start.end ≡ length ends → end_of z ≡ end
    → w ≡ record { points = []; ends = end ∷ [] } → IfOk r (λ to. Grows points new_points ends new_ends to start w)
ended (Ok to) points new_points ends new_ends start z end w p h s e is = rw (p, is) (grows_end points ends new_ends to start z end h.0 h.1 s e)
ended (Err x) points new_points ends new_ends start z end w p h s e is = tt

pub empty_list : {A : Type 0} (xs : List A) → length xs < 1 → xs ≡ []
empty_list [] h = refl
empty_list (x ∷ xs) h = absurd (omega arith)

-- ---- the moves of a choice of the program

-- the moves are few
pub few_moves : (rest : List Bet) (player : ℕ) (ms : List Move) (p : Place) → IsWalkable rest (act player (plain_moves ms)) p → length ms ≤ 26
few_moves rest player ms p h =
    let s = sound_act h.left player (plain_moves ms) h.sound in
    omega (arith, at_most_26 s.0 (plain_moves ms) s.2, count_plain ms)
