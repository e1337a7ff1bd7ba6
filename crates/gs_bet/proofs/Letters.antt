-- An act has at most twenty-six moves, and while it has fewer, some letter is left.
use Rattle.std.proofs.Common.{◌≡◌, ℕ, zero, suc, ◌+◌, ◌-◌, ◌<◌, ◌≤◌, refl, inl, inr, true, false, not, cond, eqb, ltb, leb, ◌&&◌, arith}
use Rattle.std.proofs.lemmas.Bool.{cases_Bool, cases_lt, cases_eq, and_parts, and_from, or_parts, not-true, leb-true, le-leb, lt-ltb, le-ltb, eqb-false, ne_eqb}
use Rattle.gs_model.specs.Betting.{Bet, Moves, none, move}
use Rattle.gs_bet.specs.{MoveLists.{count, has_letter}, Grammar.{is_letter, is_sound, are_sound}}

-- the moves with one of the first n letters
places : ℕ → Moves → ℕ
places n none = 0
places n (move letter chips next ms) = cond (ltb (letter - 97) n) 1 0 + places n ms

-- the first move of a sound list, and the others
pub record First (left l c : ℕ) (t : Bet) (ms : Moves) : Type 0 where
  pub letter : is_letter l ≡ true
  pub fresh : has_letter ms l ≡ false
  pub low : 97 ≤ l
  pub high : l ≤ 122
  pub chips : c ≤ 4096
  pub next : is_sound left t ≡ true
  pub others : are_sound left ms ≡ true

pub first : (left letter chips : ℕ) (next : Bet) (ms : Moves) → are_sound left (move letter chips next ms) ≡ true → First left letter chips next ms
first left letter chips next ms h =
    let p = and_parts (is_letter letter && not (has_letter ms letter)) _ h in
    let q = and_parts (is_letter letter) (not (has_letter ms letter)) p.0 in
    let range = and_parts (leb 97 letter) (leb letter 122) q.0 in
    let r = and_parts (leb chips 4096) (is_sound left next && are_sound left ms) p.1 in
    let s = and_parts (is_sound left next) (are_sound left ms) r.1 in
    record {
      letter = q.0;
      fresh = not-true (has_letter ms letter) q.1;
      low = leb-true 97 letter range.0;
      high = leb-true letter 122 range.1;
      chips = leb-true chips 4096 r.0;
      next = s.0;
      others = s.1;
    }

places_zero : (ms : Moves) → places 0 ms ≡ 0
unfolding places
places_zero none = refl
places_zero (move letter chips next ms) = rw (le-ltb (letter - 97) 0 (omega arith), places_zero ms) refl

places_grow : (n : ℕ) (ms : Moves) → places n ms ≤ places (suc n) ms
unfolding places
places_grow n none = omega arith
places_grow n (move letter chips next ms) =
    let more = places_grow n ms in
    elim (cases_lt (letter - 97) n) [
      | inl lt ↦ rw (lt-ltb (letter - 97) n lt, lt-ltb (letter - 97) (suc n) (omega arith)) (omega arith)
      | inr ge ↦ rw (le-ltb (letter - 97) n ge) (omega arith)
    ]

-- a letter that is there counts
places_has : (n : ℕ) (ms : Moves) → has_letter ms (97 + n) ≡ true → places n ms < places (suc n) ms
unfolding places
places_has n none h = absurd cc
places_has n (move letter chips next ms) h =
    elim (cases_eq letter (97 + n)) [
      | inl e ↦
          let more = places_grow n ms in
          rw (le-ltb (letter - 97) n (omega arith), lt-ltb (letter - 97) (suc n) (omega arith)) (omega arith)
      | inr ne ↦
          let more = places_has n ms (rw (ne_eqb letter (97 + n) ne) at h) in
          elim (cases_lt (letter - 97) n) [
            | inl lt ↦ rw (lt-ltb (letter - 97) n lt, lt-ltb (letter - 97) (suc n) (omega arith)) (omega arith)
            | inr ge ↦ rw (le-ltb (letter - 97) n ge) (omega arith)
          ]
    ]

-- one that is not there does not
places_not : (left n : ℕ) (ms : Moves) → are_sound left ms ≡ true → has_letter ms (97 + n) ≡ false → places (suc n) ms ≤ places n ms
unfolding places
places_not left n none sound h = omega arith
places_not left n (move letter chips next ms) sound h =
    let f = first left letter chips next ms sound in
    let p = or_parts (eqb letter (97 + n)) (has_letter ms (97 + n)) h in
    let more = places_not left n ms f.others p.1 in
    let ne = eqb-false letter (97 + n) p.0 in
    elim (cases_lt (letter - 97) n) [
      | inl lt ↦ rw (lt-ltb (letter - 97) n lt, lt-ltb (letter - 97) (suc n) (omega arith)) (omega arith)
      | inr ge ↦ let k : suc n ≤ letter - 97 = omega (arith, f.low) in rw (le-ltb (letter - 97) n ge, le-ltb (letter - 97) (suc n) k) (omega arith)
    ]

-- each counts once
places_once : (left n : ℕ) (ms : Moves) → are_sound left ms ≡ true → places (suc n) ms ≤ places n ms + 1
unfolding places
places_once left n none sound = omega arith
places_once left n (move letter chips next ms) sound =
    let f = first left letter chips next ms sound in
    elim (cases_eq letter (97 + n)) [
      | inl e ↦
          let more = places_not left n ms f.others (rw (← e) f.fresh) in
          rw (le-ltb (letter - 97) n (omega arith), lt-ltb (letter - 97) (suc n) (omega arith)) (omega arith)
      | inr ne ↦
          let more = places_once left n ms f.others in
          elim (cases_lt (letter - 97) n) [
            | inl lt ↦ rw (lt-ltb (letter - 97) n lt, lt-ltb (letter - 97) (suc n) (omega arith)) (omega arith)
            | inr ge ↦ let k : suc n ≤ letter - 97 = omega (arith, f.low) in rw (le-ltb (letter - 97) n ge, le-ltb (letter - 97) (suc n) k) (omega arith)
          ]
    ]

places_few : (left n : ℕ) (ms : Moves) → are_sound left ms ≡ true → places n ms ≤ n
places_few left zero ms sound = omega (arith, places_zero ms)
places_few left (suc n) ms sound = omega (arith, places_once left n ms sound, places_few left n ms sound)

places_all : (left : ℕ) (ms : Moves) → are_sound left ms ≡ true → places 26 ms ≡ count ms
unfolding places
places_all left none sound = refl
places_all left (move letter chips next ms) sound =
    let f = first left letter chips next ms sound in
    rw (lt-ltb (letter - 97) 26 (omega (arith, f.low, f.high)), places_all left ms f.others) (omega arith)

-- letters that differ are at most twenty-six
pub at_most_26 : (left : ℕ) (ms : Moves) → are_sound left ms ≡ true → count ms ≤ 26
at_most_26 left ms sound = omega (arith, places_all left ms sound, places_few left 26 ms sound)

spare_below : (n : ℕ) (ms : Moves) → places n ms < n → (c : ℕ) × (97 ≤ c) × (c < 97 + n) × (has_letter ms c ≡ false)
spare_below zero ms h = absurd (omega arith)
spare_below (suc n) ms h =
    elim (cases_Bool (has_letter ms (97 + n))) [
      | inl e ↦ let s = spare_below n ms (omega (arith, places_has n ms e)) in (s.0, s.1, omega (arith, s.2), s.3)
      | inr e ↦ (97 + n, omega arith, omega arith, e)
    ]

-- a letter that is left
pub spare : (left : ℕ) (ms : Moves) → are_sound left ms ≡ true → count ms < 26 → (c : ℕ) × (is_letter c ≡ true) × (has_letter ms c ≡ false)
spare left ms sound few =
    let s = spare_below 26 ms (omega (arith, places_all left ms sound)) in
    (s.0, and_from (leb 97 s.0) (leb s.0 122) (le-leb 97 s.0 s.1) (le-leb s.0 122 (omega (arith, s.2))), s.3)
