-- Writing the text of a position: among the moves of a choice, one after the other.
use Rattle.std.proofs.Common.{◌≡◌, ℕ, zero, suc, ◌+◌, ◌-◌, ◌<◌, ◌≤◌, true, List, [], ◌∷◌, ◌++◌, length, refl, sym, ap, ◌∙◌, arith}
use Rattle.std.proofs.lemmas.Bool.{and_parts, leb-true}
use Rattle.std.specs.Prelude.{slice_get, ◌&&◌, not, nat_le}
use Rattle.gs_model.specs.{Betting.{Bet, Moves, act, move}, Positions.{Target, at_point, at_end}, Walk.{walk_start}}
use Rattle.gs_bet.specs.{MoveLists.{has_letter}, Grammar.{is_letter, are_sound}}
use Rattle.gs_game.specs.{Counts.{points_of, ends_of, points_in, ends_in}, declared.game.Game.{Game}, Games.{game_of, plain_trees}, Valid.{walk_of}}
use Rattle.gs_game.specs.{Lines.{Texts, TreeFollows, MovesFollow, IsAmong, IsPast, tree_lines, move_lines, lines_from, text_at}, declared.game.Round.{Round}}
use Rattle.gs_game.proofs.{Deciding.{trees_are}, EndLaws.{rounds_count}, LineLaws.{rounds, all_sound, get_within, get_right, lines_counted}}

text-first : (x y : Texts) (at : Target) → IsAmong (length x.points) (length x.ends) at
    → text_at (record { points = x.points ++ y.points; ends = x.ends ++ y.ends }) at ≡ text_at x at
text-first x y (at_point q) h = get_within x.points y.points q h
text-first x y (at_end z) h = get_within x.ends y.ends z h

text-second : (x y : Texts) (at further : Target) → IsPast (length x.points) (length x.ends) at further
    → text_at (record { points = x.points ++ y.points; ends = x.ends ++ y.ends }) at ≡ text_at y further
text-second x y (at_point q) further h =
    let n : length x.points + (q - length x.points) ≡ q = omega (arith, h.0) in
    rw h.1 (ap (slice_get (x.points ++ y.points)) (sym n) ∙ get_right x.points y.points (q - length x.points))
text-second x y (at_end z) further h =
    let n : length x.ends + (z - length x.ends) ≡ z = omega (arith, h.0) in
    rw h.1 (ap (slice_get (x.ends ++ y.ends)) (sym n) ∙ get_right x.ends y.ends (z - length x.ends))

-- a position behind some others is among those that are left
pub among_rest : (p e p' e' : ℕ) (at further : Target) → IsAmong (p + p') (e + e') at → IsPast p e at further → IsAmong p' e' further
among_rest p e p' e' (at_point q) further h k = rw k.1 (omega (arith, h, k.0))
among_rest p e p' e' (at_end z) further h k = rw k.1 (omega (arith, h, k.0))

-- where the moves begin with one, a position is among what it leads to, or behind that
pub text_here : (rs : List Round) (before : List ℕ) (letter chips mp me : ℕ) (t : Bet) (ms all : Moves) (at : Target) → mp ≡ points_in (plain_trees rs)
    → me ≡ ends_in (plain_trees rs) → all ≡ move letter chips t ms
    → IsAmong (points_of mp t) (ends_of me t) at
    → text_at (move_lines (lines_from (plain_trees rs)) before all) at ≡ text_at (tree_lines (lines_from (plain_trees rs)) (before ++ letter ∷ []) t) at
text_here rs before letter chips mp me t ms all at p e is h =
    let on = rounds (plain_trees rs) (all_sound rs) in
    let x = tree_lines (lines_from (plain_trees rs)) (before ++ letter ∷ []) t in
    let n = lines_counted t (lines_from (plain_trees rs)) (points_in (plain_trees rs)) (ends_in (plain_trees rs)) _ on (before ++ letter ∷ []) in
    let h' : IsAmong (length x.points) (length x.ends) at = rw (n.0, n.1) (rw (p, e) at h) in
    rw is (text-first x (move_lines (lines_from (plain_trees rs)) before ms) at h')

pub text_further : (rs : List Round) (before : List ℕ) (letter chips mp me : ℕ) (t : Bet) (ms all : Moves) (at further : Target)
    → mp ≡ points_in (plain_trees rs) → me ≡ ends_in (plain_trees rs) → all ≡ move letter chips t ms
    → IsPast (points_of mp t) (ends_of me t) at further
    → text_at (move_lines (lines_from (plain_trees rs)) before all) at ≡ text_at (move_lines (lines_from (plain_trees rs)) before ms) further
text_further rs before letter chips mp me t ms all at further p e is h =
    let on = rounds (plain_trees rs) (all_sound rs) in
    let x = tree_lines (lines_from (plain_trees rs)) (before ++ letter ∷ []) t in
    let n = lines_counted t (lines_from (plain_trees rs)) (points_in (plain_trees rs)) (ends_in (plain_trees rs)) _ on (before ++ letter ∷ []) in
    let h' : IsPast (length x.points) (length x.ends) at further = rw (n.0, n.1) (rw (p, e) at h) in
    rw is (text-second x (move_lines (lines_from (plain_trees rs)) before ms) at further h')

-- the letter of a sound move is a byte of text
pub small_letter : (left letter chips : ℕ) (t : Bet) (ms : Moves) → are_sound left (move letter chips t ms) ≡ true → letter < 128
small_letter left letter chips t ms h =
    let p = and_parts (is_letter letter && not (has_letter ms letter)) _ h in
    let q = (and_parts (is_letter letter) (not (has_letter ms letter)) p.0).0 in
    let r = leb-true letter 122 (and_parts (nat_le 97 letter) (nat_le letter 122) q).1 in
    omega (arith, r)

-- ---- a choice

pub among_act : (points ends : ℕ) (at further : Target) → IsAmong (suc points) ends at → IsPast 1 0 at further → IsAmong points ends further
among_act points ends (at_point q) further h k = rw k.1 (omega (arith, h, k.0))
among_act points ends (at_end z) further h k = rw k.1 (omega (arith, h))

behind-point : (q : ℕ) (before : List ℕ) (xs : List (List ℕ)) → 1 ≤ q → slice_get (before ∷ xs) q ≡ slice_get xs (q - 1)
behind-point zero before xs h = absurd (omega arith)
behind-point (suc q) before xs h = let e : suc q - 1 ≡ q = omega arith in rw e refl

pub act_text : (f : List ℕ → Texts) (before : List ℕ) (player : ℕ) (ms : Moves) (at further : Target) → IsPast 1 0 at further
    → text_at (tree_lines f before (act player ms)) at ≡ text_at (move_lines f before ms) further
act_text f before player ms (at_point q) further h = rw h.1 (behind-point q before (move_lines f before ms).points h.0)
act_text f before player ms (at_end z) further h = let e : z - 0 ≡ z = omega arith in rw (h.1, e) refl

pub act_room : (ts : List Bet) (player : ℕ) (ms : Moves) → TreeFollows ts (act player ms) 0 0 → MovesFollow ts ms 0 0
act_room ts player ms h = record { evens = h.evens; few_points = omega (arith, h.few_points); few_ends = h.few_ends }

pub others_room : (ts : List Bet) (letter chips : ℕ) (t : Bet) (ms all : Moves) → MovesFollow ts all 0 0 → all ≡ move letter chips t ms
    → MovesFollow ts ms 0 0
others_room ts letter chips t ms all h e =
    let h' : MovesFollow ts (move letter chips t ms) 0 0 = rw e at h in
    record { evens = h'.evens; few_points = omega (arith, h'.few_points); few_ends = omega (arith, h'.few_ends) }

-- ---- positions of a game

pub among_lines : (game : Game) (at : Target) → IsAmong (length (walk_of (game_of game)).points) (length (walk_of (game_of game)).ends) at
    → IsAmong (points_in (plain_trees game.rounds.items)) (ends_in (plain_trees game.rounds.items)) at
among_lines game at h =
    let counts = rounds_count (plain_trees game.rounds.items) in
    rw (counts.points_are (walk_start game.ante), counts.ends_are (walk_start game.ante)) at (rw (trees_are game) at h)
