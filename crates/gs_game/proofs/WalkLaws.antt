-- A walk grows as the definitions say, a move at a time.
use Rattle.std.proofs.Common.{◌≡◌, ℕ, ◌+◌, List, [], ◌∷◌, ◌++◌, map, length, get_or, refl, sym, ap, ◌∙◌, append_assoc, length-append}
use Rattle.std.proofs.lemmas.List.{append-nil, length-map, map-append}
use Rattle.std.specs.{Prelude.{slice_set}, Global.{Vec}}
use Rattle.gs_model.specs.{Betting.{Bet, Moves, none, move}, Positions.{Target, at_end, Arrow, End}}
use Rattle.gs_model.specs.Walk.{Place, Walked, root, after_move, walk_tree, walk_moves}
use Rattle.gs_game.specs.{Seen.{arrow_of, target_of, own_point, OwnPoint, point_of, end_of}, Walks.{Grows}, declared.positions.Arrow.{Arrow as StoredArrow}}
use Rattle.gs_game.specs.{declared.positions.Point.{Point as StoredPoint}, declared.positions.End.{End as StoredEnd}}
use Rattle.gs_game.specs.declared.positions.Target.{Target as StoredTarget}

-- a place with other numbers of points and ends before it
abbrev pub at : Place → ℕ → ℕ → Place
at p points ends = record p { point = points; end = ends }

-- what is there of a point's walk, and what the moves that are left make, is the whole
pub record Going (go_on : Place → Walked) (player number : ℕ) (p : Place) (ms : Moves) (points : List OwnPoint) (ends : List End) (arrows : List Arrow)
    (all_points : List OwnPoint) (all_ends : List End) (all_arrows : List Arrow) : Type 0 where
  pub points_are : points ++ map own_point (walk_moves go_on ms player number (length arrows) (at p (length points) (length ends))).walked.points ≡ all_points
  pub ends_are : ends ++ (walk_moves go_on ms player number (length arrows) (at p (length points) (length ends))).walked.ends ≡ all_ends
  pub arrows_are : arrows ++ (walk_moves go_on ms player number (length arrows) (at p (length points) (length ends))).arrows ≡ all_arrows

-- one move more
pub going_step : (go_on : Place → Walked) (player number letter chips : ℕ) (p here : Place) (t : Bet) (ms : Moves)
    (points new_points all_points : List OwnPoint) (ends new_ends all_ends : List End)
    (arrows new_arrows all_arrows : List Arrow) (to : Target)
    → Going go_on player number p (move letter chips t ms) points ends arrows all_points all_ends all_arrows
    → here ≡ after_move player number (length arrows) chips (at p (length points) (length ends))
    → new_points ≡ points ++ map own_point (walk_tree go_on t here).points → new_ends ≡ ends ++ (walk_tree go_on t here).ends
    → to ≡ root here (walk_tree go_on t here).points → new_arrows ≡ arrows ++ record { letter = letter; to = to } ∷ []
    → Going go_on player number p ms new_points new_ends new_arrows all_points all_ends all_arrows
going_step g player number letter chips p here t ms ps ps' all es es' alle ars ars' alla to h is ps_is es_is to_is as_is =
    let w = walk_tree g t here in
    let o = walk_moves g ms player number (length ars + 1) (at p (length ps + length w.points) (length es + length w.ends)) in
    let e1 : length ps' ≡ length ps + length w.points = ap length ps_is ∙ length-append ps (map own_point w.points)
    ∙ ap (λ (n : ℕ). length ps + n) (length-map w.points own_point) in
    let e2 : length es' ≡ length es + length w.ends = ap length es_is ∙ length-append es w.ends in
    let e3 : length ars' ≡ length ars + 1 = ap length as_is ∙ length-append ars (record { letter = letter; to = to } ∷ []) in
    let same : walk_moves g ms player number (length ars') (at p (length ps') (length es')) ≡ o = rw (e1, e2, e3) refl in
    let h' : Going g player number p (move letter chips t ms) ps es ars all alle alla = h in
    let whole_points : ps ++ (map own_point (w.points ++ o.walked.points)) ≡ all = rw is h'.points_are in
    let whole_ends : es ++ (w.ends ++ o.walked.ends) ≡ alle = rw is h'.ends_are in
    let whole_arrows : ars ++ (record { letter = letter; to = root here w.points } ∷ o.arrows) ≡ alla = rw is h'.arrows_are in
    record {
      points_are = rw same (ap (λ (x : List OwnPoint). x ++ map own_point o.walked.points) ps_is
          ∙ append_assoc ps (map own_point w.points) (map own_point o.walked.points)
          ∙ ap (λ (x : List OwnPoint). ps ++ x) (sym (map-append own_point w.points o.walked.points)) ∙ whole_points);
      ends_are = rw same (ap (λ (x : List End). x ++ o.walked.ends) es_is ∙ append_assoc es w.ends o.walked.ends ∙ whole_ends);
      arrows_are = rw same (ap (λ (x : List Arrow). x ++ o.arrows) as_is ∙ append_assoc ars (record { letter = letter; to = to } ∷ []) o.arrows
          ∙ ap (λ (x : Target). ars ++ (record { letter = letter; to = x } ∷ o.arrows)) to_is ∙ whole_arrows);
    }

-- no move is left
pub record Gone (points : List OwnPoint) (ends : List End) (arrows : List Arrow) (all_points : List OwnPoint) (all_ends : List End)
    (all_arrows : List Arrow) : Type 0 where
  pub points_are : points ≡ all_points
  pub ends_are : ends ≡ all_ends
  pub arrows_are : arrows ≡ all_arrows

pub going_done : (go_on : Place → Walked) (player number : ℕ) (p : Place) (ms : Moves) (points all_points : List OwnPoint) (ends all_ends : List End)
    (arrows all_arrows : List Arrow)
    → Going go_on player number p ms points ends arrows all_points all_ends all_arrows → ms ≡ none → Gone points ends arrows all_points all_ends all_arrows
going_done g player number p ms ps all es alle ars alla h e =
    let h' : Going g player number p none ps es ars all alle alla = rw e at h in
    record {
      points_are = sym (append-nil ps) ∙ h'.points_are;
      ends_are = sym (append-nil es) ∙ h'.ends_are;
      arrows_are = sym (append-nil ars) ∙ h'.arrows_are;
    }

-- ---- the point's moves are written at the end

patch_here : (y : StoredPoint) (v : StoredPoint) (arrows : Vec StoredArrow) (hole : OwnPoint) → v ≡ y → point_of y ≡ hole
    → point_of (record { player = v.player; round = v.round; own = v.own; moves = arrows })
    ≡ record { player = hole.player; round = hole.round; own = hole.own; moves = map arrow_of arrows.items }
patch_here y v arrows hole e h = rw e (ap (λ (x : OwnPoint). let q : OwnPoint = record {
  player = x.player;
  round = x.round;
  own = x.own;
  moves = map arrow_of arrows.items;
} in q) h)

heads : {A : Type 0} (x y : A) (xs ys : List A) → x ∷ xs ≡ y ∷ ys → x ≡ y
heads x y xs ys h = cc

tails : {A : Type 0} (x y : A) (xs ys : List A) → x ∷ xs ≡ y ∷ ys → xs ≡ ys
tails x y xs ys h = cc

pub patched : (front : List OwnPoint) (xs : List StoredPoint) (v : StoredPoint) (arrows : Vec StoredArrow) (hole : OwnPoint) (tail : List OwnPoint)
    → v ≡ get_or xs (length front) v → map point_of xs ≡ front ++ hole ∷ tail
    → map point_of (slice_set xs (length front) (record { player = v.player; round = v.round; own = v.own; moves = arrows }))
    ≡ front ++ record { player = hole.player; round = hole.round; own = hole.own; moves = map arrow_of arrows.items } ∷ tail
patched [] [] v arrows hole tail is h = absurd cc
patched [] (y ∷ ys) v arrows hole tail is h =
    let e = patch_here y v arrows hole is (heads (point_of y) hole (map point_of ys) tail h) in
    let f = tails (point_of y) hole (map point_of ys) tail h in
    cc (e, f)
patched (x ∷ front) [] v arrows hole tail is h = absurd cc
patched (x ∷ front) (y ∷ ys) v arrows hole tail is h =
    let e = heads (point_of y) x (map point_of ys) (front ++ hole ∷ tail) h in
    let f = patched front ys v arrows hole tail is (tails (point_of y) x (map point_of ys) (front ++ hole ∷ tail) h) in
    cc (e, f)

-- ---- an end

pub grows_end : (points : List StoredPoint) (ends new_ends : List StoredEnd) (to : StoredTarget) (start : Place) (z : StoredEnd) (end : End)
    → new_ends ≡ ends ++ z ∷ [] → target_of to ≡ at_end (length ends) → start.end ≡ length ends → end_of z ≡ end
    → Grows points points ends new_ends to start (record { points = []; ends = end ∷ [] })
grows_end points ends new_ends to start z end e f g h =
    record {
      points_are = sym (append-nil (map point_of points));
      ends_are = ap (map end_of) e ∙ map-append end_of ends (z ∷ []) ∙ ap (λ (x : End). map end_of ends ++ x ∷ []) h;
      root_is = f ∙ ap at_end (sym g);
    }
