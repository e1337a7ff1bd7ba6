-- Where each even leaf is even, what is put before a tree is added to the most that is put in it.
use Rattle.std.proofs.{Common.{◌≡◌, ℕ, ◌+◌, max, true, List, [], ◌∷◌, ◌++◌, refl, sym, ap, ◌∙◌, inl, inr, arith}, lemmas.Bool.{cases_Bool, eqb-true}}
use Rattle.std.specs.Prelude.{◌==◌, Option, Some, None, option_map}
use Rattle.gs_model.specs.Betting.{Bet, Moves, act, fold, even, none, move}
use Rattle.gs_model.proofs.Basics.{some}
use Rattle.gs_bet.specs.{MoveLists.{has_move}, Grammar.{is_sound, are_sound}}
use Rattle.gs_game.specs.Money.{first_of, one_after, two_after, uneven_path, uneven_move, most_put, most_moved, most_in, put_above}
use Rattle.gs_game.specs.Refusals.{uneven, uneven_from}
use Rattle.gs_game.proofs.MoneyLaws.{sound_act, sound_move}

-- neither of two is there
pub neither : {A : Type 0} (a b : Option A) → first_of a b ≡ None → (a ≡ None) × (b ≡ None)
neither (Some x) b h = absurd cc
neither None b h = (refl, h)

even_here : (path : List ℕ) (one two : ℕ) → uneven_path path one two even ≡ None → one ≡ two
even_here path one two h = elim (cases_Bool (one == two)) [ inl e ↦ eqb-true one two e | inr e ↦ absurd (some_none path (rw e at h)) ]
  where
    some_none : (path : List ℕ) → some path ≡ None → ⊥
    some_none path h = cc

one_shift : (player chips p one : ℕ) → one_after player chips (p + one) ≡ p + one_after player chips one
one_shift player chips p one = elim (cases_Bool (player == 1)) [ inl e ↦ rw e (omega arith) | inr e ↦ rw e refl ]

two_shift : (player chips p two : ℕ) → two_after player chips (p + two) ≡ p + two_after player chips two
two_shift player chips p two = elim (cases_Bool (player == 1)) [ inl e ↦ rw e refl | inr e ↦ rw e (omega arith) ]

-- what follows adds so much to what both have put
abbrev pub Adds : (ℕ → ℕ → ℕ) → ℕ → Type 0
Adds go_on above = (q : ℕ) → go_on q q ≡ q + above

moved : (go_on : ℕ → ℕ → ℕ) (p one two player chips : ℕ) (t : Bet) (x : ℕ)
    → most_put go_on (p + one_after player chips one) (p + two_after player chips two) t ≡ x
    → most_put go_on (one_after player chips (p + one)) (two_after player chips (p + two)) t ≡ x
moved g p one two player chips t x h = rw (one_shift player chips p one, two_shift player chips p two) h

mutual
  shift : (t : Bet) (left : ℕ) (go_on : ℕ → ℕ → ℕ) (above : ℕ) (path : List ℕ) (p one two : ℕ) → Adds go_on above → is_sound left t ≡ true
      → uneven_path path one two t ≡ None
      → most_put go_on (p + one) (p + two) t ≡ p + most_put (put_above above) one two t
  shift (act player none) left g above path p one two adds sound h = let s = sound_act left player none sound in absurd (no_moves s.0 s.3)
    where
      no_moves : (k : ℕ) → has_move none ≡ true → ⊥
      no_moves k h = cc
  shift (act player (move letter chips next ms)) left g above path p one two adds sound h =
      let s = sound_act left player (move letter chips next ms) sound in
      let m = sound_move s.0 letter chips next ms s.2 in
      let both = neither (uneven_path (path ++ letter ∷ []) (one_after player chips one) (two_after player chips two) next)
      (uneven_move path one two player ms) h in
      let first = moved g p one two player chips next _ (shift next s.0 g above (path
      ++ letter ∷ []) p (one_after player chips one) (two_after player chips two) adds m.next both.0) in
      let others = shift_moves ms s.0 g above path p one two player adds m.others both.1 in
      omega (arith, first, others)
  shift fold left g above path p one two adds sound h = omega arith
  shift even left g above path p one two adds sound h =
      let e : one ≡ two = even_here path one two h in
      let f : g (p + one) (p + two) ≡ p + one + above = rw (sym e) (adds (p + one)) in
      omega (arith, e, f)

  shift_moves : (ms : Moves) (left : ℕ) (go_on : ℕ → ℕ → ℕ) (above : ℕ) (path : List ℕ) (p one two player : ℕ) → Adds go_on above → are_sound left ms ≡ true
      → uneven_move path one two player ms ≡ None
      → max p (most_moved go_on (p + one) (p + two) player ms) ≡ p + most_moved (put_above above) one two player ms
  shift_moves none left g above path p one two player adds sound h = omega arith
  shift_moves (move letter chips next ms) left g above path p one two player adds sound h =
      let m = sound_move left letter chips next ms sound in
      let both = neither (uneven_path (path ++ letter ∷ []) (one_after player chips one) (two_after player chips two) next)
      (uneven_move path one two player ms) h in
      let first = moved g p one two player chips next _ (shift next left g above (path
      ++ letter ∷ []) p (one_after player chips one) (two_after player chips two) adds m.next both.0) in
      let others = shift_moves ms left g above path p one two player adds m.others both.1 in
      omega (arith, first, others)

mapped_none : {A B : Type 0} (f : A → B) (o : Option A) → option_map f o ≡ None → o ≡ None
mapped_none f (Some x) h = absurd cc
mapped_none f None h = refl

-- the first of some rounds is even, and so are the others
pub first_even : (round : ℕ) (t : Bet) (ts : List Bet) → uneven_from round (t ∷ ts) ≡ None → uneven_path [] 0 0 t ≡ None
first_even round t ts h = mapped_none (uneven round) (uneven_path [] 0 0 t)
    (neither (option_map (uneven round) (uneven_path [] 0 0 t)) (uneven_from (round + 1) ts) h).0

from_any : (n m : ℕ) (ts : List Bet) → uneven_from n ts ≡ None → uneven_from m ts ≡ None
from_any n m [] h = refl
from_any n m (t ∷ ts) h =
    let both = neither (option_map (uneven n) (uneven_path [] 0 0 t)) (uneven_from (n + 1) ts) h in
    rw (mapped_none (uneven n) (uneven_path [] 0 0 t) both.0) (from_any (n + 1) (m + 1) ts both.1)

pub others_even : (n m : ℕ) (t : Bet) (ts : List Bet) → uneven_from n (t ∷ ts) ≡ None → uneven_from m ts ≡ None
others_even n m t ts h = from_any (n + 1) m ts (neither (option_map (uneven n) (uneven_path [] 0 0 t)) (uneven_from (n + 1) ts) h).1

-- what is put in the first of some rounds and in the others is added to what was put before
pub most_added : (t : Bet) (ts : List Bet) (above here before : ℕ) → is_sound 16 t ≡ true → uneven_path [] 0 0 t ≡ None → Adds (most_in ts) above
    → here ≡ most_put (put_above above) 0 0 t → most_in (t ∷ ts) before before ≡ before + here
most_added t ts above here before sound h adds is =
    let e : before + 0 ≡ before = omega arith in
    (rw e at (shift t 16 (most_in ts) above [] before 0 0 adds sound h)) ∙ ap (λ (x : ℕ). before + x) (sym is)
