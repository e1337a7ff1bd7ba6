-- How long the text of a betting tree is: at most 145 bytes for each end of the game.
use Rattle.std.proofs.Common.{◌≡◌, ◌≢◌, ℕ, zero, suc, ◌+◌, ◌*◌, ◌≤◌, ◌&&◌, not, ◌==◌, true, List, [], ◌∷◌, ◌++◌, length, length-append, ap, inl, inr, arith}
use Rattle.std.proofs.{Common.{decimal, pos}, Math.Nat.{mul-add, add-mul}, lemmas.Fmt.{length-decimal-le}}
use Rattle.std.proofs.lemmas.Bool.{and_parts, eqb-true, or_cases, leb-true, false≢true}
use Rattle.std.specs.Prelude.{nat_le}
use Rattle.gs_bet.specs.{Grammar.{are_sound, chips_text, is_letter, is_player, is_sound, moves_text, tree_text}, MoveLists.{has_letter, has_move}}
use Rattle.gs_certificate.proofs.Plain.{Plain, signed_plain}
use Rattle.gs_game.specs.{Counts.{ends_in, ends_of, move_ends}, Money.{any_even, has_even}, Rules.{GoOn}}
use Rattle.gs_length.proofs.Bytes.{IsBare, bare_more}
use Rattle.gs_model.proofs.Basics.{product_le}
use Rattle.gs_model.specs.Betting.{Bet, Moves, act, fold, even, none, move}

-- ---- no byte has an escape

plain_bare : (xs : List ℕ) → Plain xs → IsBare xs
plain_bare [] h = tt
plain_bare (x ∷ xs) h = (λ e. omega (arith, h.0, h.1, e), λ e. omega (arith, h.0, h.1, e), omega (arith, h.0), plain_bare xs h.2)

chips_bare : (n : ℕ) → n ≤ 4096 → IsBare (chips_text n)
chips_bare zero l = tt
chips_bare (suc n) l = plain_bare (decimal (suc n)) (signed_plain (pos (suc n)) (omega arith))

chips_length : (n : ℕ) → n ≤ 4096 → length (chips_text n) ≤ 4
chips_length zero l = omega arith
chips_length (suc n) l = length-decimal-le 4 (suc n) (omega arith) (omega arith) (omega arith)

-- the parts of a sound move
record IsMove (left letter chips : ℕ) (next : Bet) (moves : Moves) : Type 0 where
  low : 97 ≤ letter
  chips_in : chips ≤ 4096
  next_is : is_sound left next ≡ true
  moves_are : are_sound left moves ≡ true

is_move : (left letter chips : ℕ) (next : Bet) (moves : Moves) → are_sound left (move letter chips next moves) ≡ true → IsMove left letter chips next moves
is_move left letter chips next moves h =
    let a = and_parts (is_letter letter && not (has_letter moves letter)) (nat_le chips 4096 && (is_sound left next && are_sound left moves)) h in
    let b = and_parts (is_letter letter) (not (has_letter moves letter)) a.0 in
    let c = and_parts (nat_le 97 letter) (nat_le letter 122) b.0 in
    let d = and_parts (nat_le chips 4096) (is_sound left next && are_sound left moves) a.1 in
    let e = and_parts (is_sound left next) (are_sound left moves) d.1 in
    record { low = leb-true 97 letter c.0; chips_in = leb-true chips 4096 d.0; next_is = e.0; moves_are = e.1 }

record IsAct (left player : ℕ) (moves : Moves) : Type 0 where
  player_in : (1 ≤ player) × (player ≤ 2)
  some : has_move moves ≡ true
  moves_are : are_sound left moves ≡ true

player_is : (p : ℕ) → is_player p ≡ true → (1 ≤ p) × (p ≤ 2)
player_is p h = elim (or_cases (p == 1) (p == 2) h) [
  | inl e ↦ let i = eqb-true p 1 e in (omega arith, omega arith)
  | inr e ↦ let i = eqb-true p 2 e in (omega arith, omega arith)
]

is_act : (left player : ℕ) (moves : Moves) → is_sound (suc left) (act player moves) ≡ true → IsAct left player moves
is_act left player moves h =
    let a = and_parts (is_player player) (has_move moves && are_sound left moves) h in
    let b = and_parts (has_move moves) (are_sound left moves) a.1 in
    record { player_in = player_is player a.0; some = b.0; moves_are = b.1 }

mutual
  pub tree_bare : (left : ℕ) (t : Bet) → is_sound left t ≡ true → IsBare (tree_text t)
  tree_bare zero (act player moves) h = absurd (false≢true h)
  tree_bare (suc left) (act player moves) h =
      let a = is_act left player moves h in (
        λ e. omega (arith, e),
        λ e. omega (arith, e, a.player_in.1),
        omega arith,
        bare_more (moves_text 91 moves) (93 ∷ []) (moves_bare left 91 moves (λ e. omega (arith, e)) (λ e. omega (arith, e)) (omega arith) a.moves_are)
            (λ e. omega (arith, e), λ e. omega (arith, e), omega arith, tt),
      )
  tree_bare zero fold h = (λ e. omega (arith, e), λ e. omega (arith, e), omega arith, tt)
  tree_bare (suc left) fold h = (λ e. omega (arith, e), λ e. omega (arith, e), omega arith, tt)
  tree_bare zero even h = (λ e. omega (arith, e), λ e. omega (arith, e), omega arith, tt)
  tree_bare (suc left) even h = (λ e. omega (arith, e), λ e. omega (arith, e), omega arith, tt)

  moves_bare : (left before : ℕ) (ms : Moves) → before ≢ 34 → before ≢ 92 → 32 ≤ before → are_sound left ms ≡ true → IsBare (moves_text before ms)
  moves_bare left before none a b c h = tt
  moves_bare left before (move letter chips next moves) a b c h =
      let m = is_move left letter chips next moves h in
      let rest = bare_more (tree_text next) (moves_text 44 moves) (tree_bare left next m.next_is)
      (moves_bare left 44 moves (λ e. omega (arith, e)) (λ e. omega (arith, e)) (omega arith) m.moves_are) in (
        a,
        b,
        c,
        (
          λ e. omega (arith, e, m.low),
          λ e. omega (arith, e, m.low),
          omega (arith, m.low),
          bare_more (chips_text chips) (58 ∷ (tree_text next ++ moves_text 44 moves)) (chips_bare chips m.chips_in)
              (λ e. omega (arith, e), λ e. omega (arith, e), omega arith, rest),
        ),
      )

-- ---- how long it is

-- how many bytes there are at most for each end, where acts are nested so deep
abbrev pub weight : ℕ → ℕ
weight zero = 1
weight (suc left) = weight left + 9

weight_some : (left : ℕ) → 1 ≤ weight left
weight_some zero = omega arith
weight_some (suc left) = omega (arith, weight_some left)

-- so many bytes, and so many ends
record IsLong (bytes per ends : ℕ) : Type 0 where
  some : 1 ≤ ends
  few : bytes ≤ per * ends

one_end : (w : ℕ) (e : ℕ) → 1 ≤ w → 1 ≤ e → IsLong 1 w e
one_end w e h k = record { some = k; few = product_le 1 1 w e h k }

mutual
  tree_long : (left more : ℕ) (t : Bet) → 1 ≤ more → is_sound left t ≡ true → IsLong (length (tree_text t)) (weight left) (ends_of more t)
  tree_long zero more (act player moves) some h = absurd (false≢true h)
  tree_long (suc left) more (act player moves) some h =
      let a = is_act left player moves h in
      let m = moves_long left more 91 moves some a.moves_are in
      let e = move_ends more moves in
      let there : 1 ≤ e = m.0 a.some in
      let parts = length-append (moves_text 91 moves) (93 ∷ []) in
      let split : (weight left + 7 + 2) * e ≡ (weight left + 7) * e + 2 * e = add-mul (weight left + 7) 2 e in
      let same : (weight left + 9) * e ≡ (weight left + 7 + 2) * e = ap (λ (w : ℕ). w * e) (omega arith) in
      record { some = there; few = omega (arith, m.1, parts, split, same, there) }
  tree_long zero more fold some h = one_end 1 1 (omega arith) (omega arith)
  tree_long (suc left) more fold some h = one_end (weight left + 9) 1 (omega arith) (omega arith)
  tree_long zero more even some h = one_end 1 more (omega arith) some
  tree_long (suc left) more even some h = one_end (weight left + 9) more (omega arith) some

  moves_long : (left more before : ℕ) (ms : Moves) → 1 ≤ more → are_sound left ms ≡ true
      → (has_move ms ≡ true → 1 ≤ move_ends more ms) × (length (moves_text before ms) ≤ (weight left + 7) * move_ends more ms)
  moves_long left more before none some h = (λ e. absurd (false≢true e), omega arith)
  moves_long left more before (move letter chips next moves) some h =
      let m = is_move left letter chips next moves h in
      let t = tree_long left more next some m.next_is in
      let rest = moves_long left more 44 moves some m.moves_are in
      let here = ends_of more next in
      let after = move_ends more moves in
      let chips_text_long = chips_length chips m.chips_in in
      let one = length-append (chips_text chips) (58 ∷ (tree_text next ++ moves_text 44 moves)) in
      let two = length-append (tree_text next) (moves_text 44 moves) in
      let split : (weight left + 7) * here ≡ weight left * here + 7 * here = add-mul (weight left) 7 here in
      let all : (weight left + 7) * (here + after) ≡ (weight left + 7) * here + (weight left + 7) * after = mul-add (weight left + 7) here after in
      let enough = t.some in
      let few = t.few in
      (λ e. omega (arith, enough), omega (arith, chips_text_long, one, two, split, all, enough, few, rest.1))

-- ---- the trees of a game

mutual
  no_fewer : (t : Bet) (m : ℕ) → has_even t ≡ true → m ≤ ends_of m t
  no_fewer (act player ms) m h = no_fewer_moves ms m h
  no_fewer fold m h = absurd (false≢true h)
  no_fewer even m h = omega arith

  no_fewer_moves : (ms : Moves) (m : ℕ) → any_even ms ≡ true → m ≤ move_ends m ms
  no_fewer_moves none m h = absurd (false≢true h)
  no_fewer_moves (move l c t ms) m h = elim (or_cases (has_even t) (any_even ms) h) [
    | inl here ↦ let r = no_fewer t m here in omega (arith, r)
    | inr there ↦ let r = no_fewer_moves ms m there in omega (arith, r)
  ]

abbrev pub AreSound : List Bet → Type 0
AreSound [] = Unit {0}
AreSound (t ∷ ts) = (is_sound 16 t ≡ true) × AreSound ts

abbrev pub AreShort : List Bet → Type 0
AreShort [] = Unit {0}
AreShort (t ∷ ts) = (length (tree_text t) ≤ 1187840) × AreShort ts

some_end : (ts : List Bet) → AreSound ts → 1 ≤ ends_in ts
some_end [] s = omega arith
some_end (t ∷ ts) s = let l = tree_long 16 (ends_in ts) t (some_end ts s.1) s.0 in l.some

one_short : (t : Bet) (more : ℕ) → 1 ≤ more → is_sound 16 t ≡ true → ends_of more t ≤ 8192 → length (tree_text t) ≤ 1187840
one_short t more some s h =
    let l = tree_long 16 more t some s in
    let few : length (tree_text t) ≤ 145 * ends_of more t = l.few in
    omega (arith, few, h)

-- each tree is short where the game has at most 8,192 ends
pub trees_short : (ts : List Bet) → GoOn ts → AreSound ts → ends_in ts ≤ 8192 → AreShort ts
trees_short [] g s h = tt
trees_short (t ∷ []) g s h = (one_short t 1 (omega arith) s.0 h, tt)
trees_short (t ∷ u ∷ ts) g s h =
    let fewer = no_fewer t (ends_in (u ∷ ts)) g.0 in
    (one_short t (ends_in (u ∷ ts)) (some_end (u ∷ ts) s.1) s.0 h, trees_short (u ∷ ts) g.1 s.1 (omega (arith, fewer, h)))
