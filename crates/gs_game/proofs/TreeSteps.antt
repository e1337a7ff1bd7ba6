-- The moves of a choice, one at a time.
use Rattle.std.proofs.Common.{◌≡◌, ℕ, ◌+◌, ◌<◌, ◌≤◌, List, ◌∷◌, length, get_or, drop, drop-cons, drop_of_length-le, add-one, refl, ap, ◌∙◌, sym}
use Rattle.gs_model.specs.Betting.{none, move}
use Rattle.gs_bet.specs.{TreeView.{plain, plain_moves}, declared.shape.Move.{Move}}

pub moves_step : (ms : List Move) (i : ℕ) (m : Move) → i < length ms → m ≡ get_or ms i m
    → plain_moves (drop i ms) ≡ move m.letter m.chips (plain m.next) (plain_moves (drop (i + 1) ms))
moves_step ms i m lt is =
    let e : drop i ms ≡ get_or ms i m ∷ drop (i + 1) ms = rw (add-one, drop-cons ms i m) refl in
    let f : plain_moves (get_or ms i m ∷ drop (i + 1) ms) ≡ plain_moves (m ∷ drop (i + 1) ms) =
    ap (λ (x : Move). plain_moves (x ∷ drop (i + 1) ms)) (sym is) in
    ap plain_moves e ∙ f

pub none_left : (ms : List Move) (i : ℕ) → length ms ≤ i → plain_moves (drop i ms) ≡ none
none_left ms i h = rw (drop_of_length-le ms h) refl
