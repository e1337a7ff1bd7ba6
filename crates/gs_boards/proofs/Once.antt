-- Places of which a signal has one at most.
use Rattle.std.proofs.Common.{◌≡◌, ◌<◌, ◌≤◌, ◌∙◌, ℕ, zero, suc, ℤ, pos, Bool, true, false, cond, List, [], ◌∷◌, length, get_or, map, count_by}
use Rattle.std.proofs.Common.{refl, sym, ap, subst, arith}
use Rattle.std.proofs.{lemmas.Bool.Decides.{Decides-eqb}, lemmas.List.FromFn.{get_or-range_with_len, length-range_with_len}}
use Rattle.std.proofs.lemmas.List.Sums.{get_or-le-sum_by, sum_by-cons}
use Rattle.std.specs.{Prelude.{◌==◌, All}, List.{range_with_len}}
use Rattle.gs_model.specs.Sums.{sum_z}
use Rattle.gs_model.proofs.{RawBound.{range_once}, Total.{pick_one, sum_z-exchange, sum_z-same, sum_z-same_all, sum_z-zero}}
use Rattle.gs_boards.specs.{Places.{AreApart}, declared.place.Place.{Place}}

-- ---- how often a test passes

pub one_passes : {X : Type 0} (p : X → Bool) (xs : List X) (i : ℕ) (d : X) → i < length xs → p (get_or xs i d) ≡ true → 0 < count_by p xs
one_passes p xs i d l e =
    let one : cond {A = ℕ} (p (get_or xs i d)) 1 0 ≡ 1 = ap (λ b. cond {A = ℕ} b 1 0) e in
    omega (arith, one, get_or-le-sum_by (λ x. cond {A = ℕ} (p x) 1 0) xs i d l)

two_pass : {X : Type 0} (p : X → Bool) (xs : List X) (i j : ℕ) (d : X) → i < j → j < length xs → p (get_or xs i d) ≡ true → p (get_or xs j d) ≡ true
    → 1 < count_by p xs
two_pass p [] i j d lt l e f = absurd (omega arith)
two_pass p (x ∷ xs) i zero d lt l e f = absurd (omega arith)
two_pass p (x ∷ xs) zero (suc j) d lt l e f =
    let one : cond {A = ℕ} (p x) 1 0 ≡ 1 = ap (λ b. cond {A = ℕ} b 1 0) e in
    omega (arith, one, one_passes p xs j d (omega arith) f, sum_by-cons (λ x. cond {A = ℕ} (p x) 1 0) x xs)
two_pass p (x ∷ xs) (suc i) (suc j) d lt l e f =
    omega (arith, two_pass p xs i j d (omega arith) (omega arith) e f, sum_by-cons (λ x. cond {A = ℕ} (p x) 1 0) x xs)

-- some item passes
pub record HasPass {X : Type 0} (p : X → Bool) (xs : List X) : Type 0 where
  pub index : ℕ
  pub inside : index < length xs
  pub passes : (d : X) → p (get_or xs index d) ≡ true

some_pass : {X : Type 0} (p : X → Bool) (xs : List X) → 0 < count_by p xs → HasPass p xs
some_pass p [] h = absurd (omega arith)
some_pass {X} p (x ∷ xs) h = by (p x) refl (λ some. some_pass p xs some)
  where
    by : (b : Bool) → p x ≡ b → (0 < count_by p xs → HasPass p xs) → HasPass p (x ∷ xs)
    by true e further = record { index = 0; inside = omega arith; passes = λ d. e }
    by false e further =
        let none : cond {A = ℕ} (p x) 1 0 ≡ 0 = ap (λ b. cond {A = ℕ} b 1 0) e in
        let rest = further (omega (arith, h, none, sum_by-cons (λ x. cond {A = ℕ} (p x) 1 0) x xs)) in
        record { index = suc rest.index; inside = omega (arith, rest.inside); passes = rest.passes }

-- ---- places

-- how often a signal has a place
abbrev pub places_of : ℕ → List Place → ℕ
places_of signal places = count_by (λ (p : Place). p.signal == signal) places

-- of the signals below `count` those that pass a test have one place each, and the others none
pub record AreOnce (on : ℕ → Bool) (count : ℕ) (places : List Place) : Type 0 where
  pub within : All (λ (p : Place). p.signal < count) places
  pub once : (signal : ℕ) → signal < count → places_of signal places ≡ cond (on signal) 1 0

-- a signal has one place at most
pub apart_from : {on : ℕ → Bool} {count : ℕ} {places : List Place} → AreOnce on count places → AreApart places
apart_from {on} {count} {places} are i j d lt l e =
    let s : ℕ = (get_or places j d).signal in
    let one = are.once s (are.within j d l) in
    let two = two_pass (λ (p : Place). p.signal == s) places i j d lt l ((Decides-eqb (get_or places i d).signal s).1 e) ((Decides-eqb s s).1 refl) in
    absurd (omega (arith, one, two, few (on s)))
  where
    few : (b : Bool) → cond {A = ℕ} b 1 0 ≤ 1
    few true = omega arith
    few false = omega arith

-- what holds of the signal of each place holds of each signal that has a place
pub of_signal : (P : ℕ → Type 0) (places : List Place) (signal : ℕ) → places_of signal places ≡ 1
    → ((n : ℕ) (d : Place) → n < length places → P (get_or places n d).signal) → P signal
of_signal P places signal one each =
    let found = some_pass (λ (p : Place). p.signal == signal) places (omega (arith, one)) in
    let d : Place = record { board = 0; strength = 0; win = 0; signal = 0 } in
    subst P ((Decides-eqb (get_or places found.index d).signal signal).0 (found.passes d)) (each found.index d found.inside)

-- a sum over all signals is one over their places, if signals without a place add nothing
pub over_places : {on : ℕ → Bool} {count : ℕ} {places : List Place} (f : ℕ → ℤ) → AreOnce on count places
    → ((signal : ℕ) → on signal ≡ false → f signal ≡ pos 0) → sum_z f (range_with_len 0 count) ≡ sum_z (λ (p : Place). f p.signal) places
over_places {on} {count} {places} f are none =
    sum_z-same_all f (λ s. sum_z (λ (p : Place). cond (p.signal == s) (f s) (pos 0)) places) (range_with_len 0 count) (λ i d l.
    let in' : i < count = omega (arith, l, length-range_with_len 0 count) in
    let is : get_or (range_with_len 0 count) i d ≡ i = get_or-range_with_len 0 count i d in' ∙ omega arith in
    subst (λ s. f s ≡ sum_z (λ (p : Place). cond (p.signal == s) (f s) (pos 0)) places) (sym is) (here i (on i) refl (are.once i in')))
    ∙ sum_z-exchange (λ s (p : Place). cond (p.signal == s) (f s) (pos 0)) (range_with_len 0 count) places
    ∙ sum_z-same_all (λ (p : Place). sum_z (λ signal. cond (p.signal == signal) (f signal) (pos 0)) (range_with_len 0 count))
    (λ (p : Place). f p.signal) places (λ i d l. at (get_or places i d).signal (are.within i d l))
  where
    here : (s : ℕ) (b : Bool) → on s ≡ b → places_of s places ≡ cond (on s) 1 0 → f s ≡ sum_z (λ (p : Place). cond (p.signal == s) (f s) (pos 0)) places
    here s true e one = sym (pick_one (λ (p : Place). p.signal == s) (f s) places (one ∙ ap (λ b. cond {A = ℕ} b 1 0) e))
    here s false e one =
        none s e ∙ sym (sum_z-zero places)
        ∙ sum_z-same (λ (p : Place). pos 0) (λ (p : Place). cond (p.signal == s) (f s) (pos 0)) (λ p. by (p.signal == s)) places
      where
        by : (b : Bool) → pos 0 ≡ cond b (f s) (pos 0)
        by true = sym (none s e)
        by false = refl

    at : (s : ℕ) → s < count → sum_z (λ signal. cond (s == signal) (f signal) (pos 0)) (range_with_len 0 count) ≡ f s
    at s l =
        sum_z-same (λ signal. cond (s == signal) (f signal) (pos 0)) (λ signal. cond (s == signal) (f s) (pos 0)) (λ signal. by signal (s == signal) refl)
        (range_with_len 0 count)
        ∙ pick_one (λ signal. s == signal) (f s) (range_with_len 0 count) (range_once s 0 count (omega arith) (omega arith))
      where
        by : (signal : ℕ) (b : Bool) → (s == signal) ≡ b → cond b (f signal) (pos 0) ≡ cond b (f s) (pos 0)
        by signal true e = ap f (sym ((Decides-eqb s signal).0 e))
        by signal false e = refl

-- ---- places and their signals

pub by_signals : (signal : ℕ) (ps : List Place) → places_of signal ps ≡ count_by (λ x. signal == x) (map (λ (p : Place). p.signal) ps)
by_signals signal [] = refl
by_signals signal (p ∷ ps) =
    omega (
      arith,
      by_signals signal ps,
      sum_by-cons (λ (q : Place). cond {A = ℕ} (q.signal == signal) 1 0) p ps,
      sum_by-cons (λ x. cond {A = ℕ} (signal == x) 1 0) p.signal (map (λ (q : Place). q.signal) ps),
      ap (λ b. cond {A = ℕ} b 1 0) (turned p.signal),
    )
  where
    turned : (x : ℕ) → (x == signal) ≡ (signal == x)
    turned x = by (x == signal) (signal == x) refl refl
      where
        by : (a b : Bool) → (x == signal) ≡ a → (signal == x) ≡ b → a ≡ b
        by true true e f = refl
        by false false e f = refl
        by true false e f = sym ((Decides-eqb signal x).1 (sym ((Decides-eqb x signal).0 e))) ∙ f
        by false true e f = sym e ∙ (Decides-eqb x signal).1 (sym ((Decides-eqb signal x).0 f))
