-- The moves of a point as the program reads them: at most 26, and their letters are letters of ASCII.
use Rattle.std.proofs.{Common.{◌≡◌, ℕ, zero, suc, ◌<◌, ◌≤◌, List, [], ◌∷◌, length, map, get_or, refl, sym, ap, ◌∙◌, subst, arith}, lemmas.List.{get_or-map}}
use Rattle.gs_game.specs.{Seen.{OwnPoint, arrow_of, own_point, point_of}, declared.positions.Arrow.{Arrow as StoredArrow}}
use Rattle.gs_game.specs.{declared.positions.Point.{Point as StoredPoint}, declared.valid.ValidGame.{ValidGame}}
use Rattle.gs_model.specs.{Frame.{Frame, move_count, point, point_count}, Positions.{Arrow}}
use Rattle.gs_seq.specs.{Abstracts.{abstract_frame, game_in}, Games.{frame_in}, declared.form.Abstract.{Abstract}}
use Rattle.gs_seq.proofs.{FewMoves.{AreSmall, few_moves, moves_few}, Points.{length-points, point_reads}, Choices.{none_there}}

-- the moves of a point of the program are those of the frame's point
pub moves_read : (g : ValidGame) (ps : List StoredPoint) (q : ℕ) (p : StoredPoint) → map point_of ps ≡ map own_point (frame_in g).points
    → q < point_count (frame_in g) → p ≡ get_or ps q p
    → map arrow_of p.moves.items ≡ (point (frame_in g) q).moves
moves_read g ps q p e l is =
    let f = frame_in g in
    let out = own_point (point f q) in
    ap (λ (x : OwnPoint). x.moves) (
    ap point_of is
    ∙ sym (get_or-map point_of ps q p out (omega (arith, length-points g ps e)))
    ∙ ap (λ (xs : List OwnPoint). get_or xs q out) e
    ∙ get_or-map own_point f.points q none_there out l
    )

letters_kept : (xs : List StoredArrow) → map (λ (a : StoredArrow). a.letter) xs ≡ map (λ (a : Arrow). a.letter) (map arrow_of xs)
letters_kept [] = refl
letters_kept (x ∷ xs) = ap (λ l. x.letter ∷ l) (letters_kept xs)

-- and so are their letters
pub letters_read : (f : Frame) (q : ℕ) (p : StoredPoint) → map arrow_of p.moves.items ≡ (point f q).moves
    → map (λ (a : StoredArrow). a.letter) p.moves.items ≡ map (λ (a : Arrow). a.letter) (point f q).moves
letters_read f q p e = letters_kept p.moves.items ∙ ap (λ (l : List Arrow). map (λ (a : Arrow). a.letter) l) e

-- the letter of one of some moves
pub small_at : (moves : List StoredArrow) (m : ℕ) (d : StoredArrow) → AreSmall (map (λ (a : StoredArrow). a.letter) moves) → m < length moves
    → (get_or moves m d).letter < 128
small_at [] m d h l = absurd (omega arith)
small_at (x ∷ xs) zero d h l = h.0
small_at (x ∷ xs) (suc m) d h l = small_at xs m d h.1 (omega arith)

-- the moves of a point as the program reads them
pub record Moves (a : Abstract) (q : ℕ) (moves : List StoredArrow) : Type 0 where
  pub long : length moves ≡ move_count (abstract_frame a) q
  pub few : length moves ≤ 26
  pub small : AreSmall (map (λ (m : StoredArrow). m.letter) moves)
  pub letters : map (λ (m : StoredArrow). m.letter) moves ≡ map (λ (m : Arrow). m.letter) (point (abstract_frame a) q).moves

pub moves_at : (a : Abstract) (game : ValidGame) (ps : List StoredPoint) (p : StoredPoint) (q : ℕ) → game ≡ game_in a
    → map point_of ps ≡ map own_point (frame_in game).points → p ≡ get_or ps q p → q < point_count (abstract_frame a) → Moves a q p.moves.items
moves_at a game ps p q e points is l =
    let g = game_in a in
    let seen : map point_of ps ≡ map own_point (frame_in g).points = points ∙ ap (λ (v : ValidGame). map own_point (frame_in v).points) e in
    let r = point_reads g ps q p seen l is in
    let h = few_moves g q l in
    let letters = letters_read (abstract_frame a) q p (moves_read g ps q p seen l is) in
    record { long = r.moves; few = omega (arith, r.moves, (moves_few g q l).few); small = subst AreSmall (sym letters) h.small; letters = letters }
