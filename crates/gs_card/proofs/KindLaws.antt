-- The places of a kind's letters give its number, and the number gives the places.
use Rattle.std.proofs.{Common.{◌≡◌, ℕ, ◌+◌, ◌*◌, ◌/◌, ◌%◌, ◌<◌, ◌==◌, false, List, length, Some, arith, ap, ◌∙◌, slice_index}, lemmas.Bool.{eqb-true}}
use Rattle.std.proofs.{lemmas.List.Quantifiers.{position-Some}, lemmas.Nat.{div-mul-add, mod-mul-add}, Math.Nat.{div-lt_iff_lt-mul}}
use Rattle.std.specs.List.{position}
use Rattle.gs_card.specs.{Decks.{repeats}, Kinds.{HasLetters}}
use Rattle.gs_card.proofs.Letters.{position_here}

-- where there is a kind there is a suit
pub some_suits : (a b n : ℕ) → n < a * b → 0 < b
some_suits a b n h = grind arith

pub row_below : (a b n : ℕ) → n < a * b → n / b < a
row_below a b n h =
    let some : 0 < b = some_suits a b n h in
    (div-lt_iff_lt-mul some).1 h

-- the place of the kind's rank
pub place_of_rank : (ranks suits : List ℕ) (rank suit n : ℕ) → repeats ranks ≡ false → HasLetters ranks suits rank suit n
    → position (λ x. x == rank) ranks ≡ Some (n / length suits)
place_of_rank ranks suits rank suit n r h = position_here ranks rank (n / length suits) r (row_below (length ranks) (length suits) n h.of_deck) h.rank_is

-- the place of the kind's suit
pub place_of_suit : (ranks suits : List ℕ) (rank suit n : ℕ) → repeats suits ≡ false → HasLetters ranks suits rank suit n
    → position (λ x. x == suit) suits ≡ Some (n % length suits)
place_of_suit ranks suits rank suit n r h =
    let some : 0 < length suits = some_suits (length ranks) (length suits) n h.of_deck in
    position_here suits suit (n % length suits) r (omega arith) h.suit_is

back_row : (r c s : ℕ) → c < s → (r * s + c) / s ≡ r
back_row r c s h = div-mul-add r s c h

back_column : (r c s : ℕ) → c < s → (r * s + c) % s ≡ c
back_column r c s h = mod-mul-add r s c h

-- two places are those of a kind
pub letters_of_places : (ranks suits : List ℕ) (rank suit r c : ℕ) → position (λ x. x == rank) ranks ≡ Some r → position (λ x. x == suit) suits ≡ Some c
    → HasLetters ranks suits rank suit (r * length suits + c)
letters_of_places ranks suits rank suit r c e f =
    let a = position-Some (λ x. x == rank) ranks r 0 e in
    let b = position-Some (λ x. x == suit) suits c 0 f in
    record {
      of_deck = grind (arith, a.0, b.0);
      rank_is = ap (slice_index ranks) (back_row r c (length suits) b.0) ∙ eqb-true _ _ a.1;
      suit_is = ap (slice_index suits) (back_column r c (length suits) b.0) ∙ eqb-true _ _ b.1;
    }

-- the places give back the number
pub number_of_places : (s r c n : ℕ) → 0 < s → n / s ≡ r → n % s ≡ c → r * s + c ≡ n
number_of_places s r c n h e f = omega (arith, ap (λ k. k * s) e)
