-- Each position is reached by one move: two moves that lead to it are the same.
use Rattle.std.proofs.{Common.{◌≡◌, ℕ, zero, suc, ◌+◌, ◌<◌, ◌≤◌, Bool, true, false, cond, refl, ap, ◌∙◌, subst, arith, ⊎_elim}, lemmas.Int.{ints}}
use Rattle.std.specs.{Prelude.{◌==◌, ◌++◌, ◌∷◌, flat_map, ℤ, pos, ◌+ℤ◌, ◌≤ℤ◌}, List.{range_with_len}}
use Rattle.std.proofs.{lemmas.Bool.{cases_eq, cases_lt}, lemmas.Bool.Decides.{Decides-eqb}}
use Rattle.gs_model.specs.{Frame.{Frame, choices_at, end_count, leads_to, move_count, point_count}, FrameFacts.{IsWalked, ends_of, next_of, points_of}}
use Rattle.gs_model.specs.{Positions.{Target, at_end, at_point}, Sums.{sum_z}}
use Rattle.gs_model.proofs.{Basics.{not_eq}, RawBound.{sum_z-map}, Sparse.{sum_none}, Total.{sum_z-IsPermutation, sum_z-append, sum_z-flat_map}}

-- 1 where a position is the one that is looked for, else 0
abbrev hit : Target → Target → ℤ
hit (at_point a) (at_point b) = cond (b == a) (pos 1) (pos 0)
hit (at_point a) (at_end b) = pos 0
hit (at_end a) (at_point b) = pos 0
hit (at_end a) (at_end b) = cond (b == a) (pos 1) (pos 0)

hit_itself : (g : Target) → hit g g ≡ pos 1
hit_itself (at_point a) = ap (λ b. cond b (pos 1) (pos 0)) ((Decides-eqb a a).1 refl)
hit_itself (at_end a) = ap (λ b. cond b (pos 1) (pos 0)) ((Decides-eqb a a).1 refl)

zero_or_one : (b : Bool) → pos 0 ≤ℤ cond b (pos 1) (pos 0)
zero_or_one true = omega (arith, ints)
zero_or_one false = omega (arith, ints)

hit_some : (g t : Target) → pos 0 ≤ℤ hit g t
hit_some (at_point a) (at_point b) = zero_or_one (b == a)
hit_some (at_point a) (at_end b) = omega (arith, ints)
hit_some (at_end a) (at_point b) = omega (arith, ints)
hit_some (at_end a) (at_end b) = zero_or_one (b == a)

-- ---- sums of numbers that are not negative

module _ (u : ℕ → ℤ) (some : (m : ℕ) → pos 0 ≤ℤ u m) where
  none_less : (a n : ℕ) → pos 0 ≤ℤ sum_z u (range_with_len a n)
  none_less a zero = omega (arith, ints)
  none_less a (suc n) = let h = some a in let k = none_less (a + 1) n in omega (arith, ints, h, k)

  one_hit : (i a n : ℕ) → a ≤ i → i < a + n → u i ≤ℤ sum_z u (range_with_len a n)
  one_hit i a zero lo hi = absurd (omega (arith, lo, hi))
  one_hit i a (suc n) lo hi = ⊎_elim
      (λ (is : i ≡ a). let e : u i ≡ u a = ap u is in let k = none_less (a + 1) n in omega (arith, ints, e, k))
      (λ (other : i ≡ a → ⊥). let h = some a in let k = one_hit i (a + 1) n (omega (arith, lo, other)) (omega (arith, hi)) in omega (arith, ints, h, k))
      (cases_eq i a)

  two_hits : (i j a n : ℕ) → i < j → a ≤ i → j < a + n → (u i +ℤ u j) ≤ℤ sum_z u (range_with_len a n)
  two_hits i j a zero l lo hi = absurd (omega (arith, l, lo, hi))
  two_hits i j a (suc n) l lo hi = ⊎_elim
      (λ (is : i ≡ a). let e : u i ≡ u a = ap u is in let k = one_hit j (a + 1) n (omega (arith, l, is)) (omega (arith, hi)) in omega (arith, ints, e, k))
      (λ (other : i ≡ a → ⊥). let h = some a in let k = two_hits i j (a + 1) n l (omega (arith, lo, other)) (omega (arith, hi)) in omega (arith, ints, h, k))
      (cases_eq i a)

-- at most one place of a range is a given one
at_most_one : (a b n : ℕ) → sum_z (λ m. cond (m == a) (pos 1) (pos 0)) (range_with_len b n) ≤ℤ pos 1
at_most_one a b zero = omega (arith, ints)
at_most_one a b (suc n) = ⊎_elim
    (λ (is : b ≡ a).
    let head : cond (b == a) (pos 1) (pos 0) ≡ pos 1 = ap (λ t. cond t (pos 1) (pos 0)) ((Decides-eqb b a).1 is) in
    let rest = sum_none (λ m. cond (m == a) (pos 1) (pos 0)) (b + 1) n (λ m lo hi. ap (λ t. cond t (pos 1) (pos 0)) (not_eq m a (omega (arith, lo, is)))) in
    omega (arith, ints, head, rest))
    (λ (other : b ≡ a → ⊥).
    let head : cond (b == a) (pos 1) (pos 0) ≡ pos 0 = ap (λ t. cond t (pos 1) (pos 0)) (not_eq b a other) in
    let rest = at_most_one a (b + 1) n in
    omega (arith, ints, head, rest))
    (cases_eq b a)

module _ (f : Frame) (player : ℕ) (w : IsWalked f player) (g : Target) where
  once : sum_z (hit g) (points_of f ++ ends_of f) ≤ℤ pos 1
  once = by g
    where
      by : (g : Target) → sum_z (hit g) (points_of f ++ ends_of f) ≤ℤ pos 1
      by (at_point a) =
          let e = sum_z-append (hit (at_point a)) (points_of f) (ends_of f) in
          let p = sum_z-map (hit (at_point a)) at_point (range_with_len 0 (point_count f)) in
          let z = sum_z-map (hit (at_point a)) at_end (range_with_len 0 (end_count f)) in
          let n = sum_none (λ m. hit (at_point a) (at_end m)) 0 (end_count f) (λ m lo hi. refl) in
          let h = at_most_one a 0 (point_count f) in
          omega (arith, ints, e, p, z, n, h)
      by (at_end a) =
          let e = sum_z-append (hit (at_end a)) (points_of f) (ends_of f) in
          let p = sum_z-map (hit (at_end a)) at_point (range_with_len 0 (point_count f)) in
          let z = sum_z-map (hit (at_end a)) at_end (range_with_len 0 (end_count f)) in
          let n = sum_none (λ m. hit (at_end a) (at_point m)) 0 (point_count f) (λ m lo hi. refl) in
          let h = at_most_one a 0 (end_count f) in
          omega (arith, ints, e, p, z, n, h)

  -- how many moves of a point lead there
  abbrev ways : ℕ → ℤ
  ways q = sum_z (λ m. hit g (leads_to f q m)) (choices_at f q)

  ways_some : (q : ℕ) → pos 0 ≤ℤ ways q
  ways_some q = none_less (λ m. hit g (leads_to f q m)) (λ m. hit_some g (leads_to f q m)) 0 (move_count f q)

  all_ways : sum_z ways (range_with_len 0 (point_count f)) ≤ℤ pos 1
  all_ways =
      let tree = sum_z-IsPermutation (hit g) (f.start ∷ flat_map (next_of f) (points_of f)) (points_of f ++ ends_of f) w.tree in
      let flat = sum_z-flat_map (hit g) (next_of f) (points_of f) in
      let points = sum_z-map (λ t. sum_z (hit g) (next_of f t)) at_point (range_with_len 0 (point_count f)) in
      let each = inner 0 (point_count f) in
      let start = hit_some g f.start in
      omega (arith, ints, tree, flat, points, each, start, once)
    where
      inner : (a n : ℕ) → sum_z (λ q. sum_z (hit g) (next_of f (at_point q))) (range_with_len a n) ≡ sum_z ways (range_with_len a n)
      inner a zero = refl
      inner a (suc n) =
          let here = sum_z-map (hit g) (leads_to f a) (choices_at f a) in
          let rest = inner (a + 1) n in
          omega (arith, ints, here, rest)

  way_here : (q m : ℕ) → m < move_count f q → leads_to f q m ≡ g → pos 1 ≤ℤ ways q
  way_here q m lm is =
      let one : hit g (leads_to f q m) ≡ pos 1 = ap (hit g) is ∙ hit_itself g in
      let h = one_hit (λ m. hit g (leads_to f q m)) (λ m. hit_some g (leads_to f q m)) m 0 (move_count f q) (omega arith) (omega (arith, lm)) in
      omega (arith, ints, one, h)

  apart : (q p m l : ℕ) → q < p → p < point_count f → m < move_count f q → l < move_count f p → leads_to f q m ≡ g → leads_to f p l ≡ g → ⊥
  apart q p m l less lp lm ll eq ep =
      let a = way_here q m lm eq in
      let b = way_here p l ll ep in
      let h = two_hits ways ways_some q p 0 (point_count f) less (omega arith) (omega (arith, lp)) in
      let t = all_ways in
      absurd (omega (arith, ints, a, b, h, t))

  apart_here : (q m l : ℕ) → q < point_count f → m < l → l < move_count f q → leads_to f q m ≡ g → leads_to f q l ≡ g → ⊥
  apart_here q m l lq less ll em el =
      let one : hit g (leads_to f q m) ≡ pos 1 = ap (hit g) em ∙ hit_itself g in
      let two : hit g (leads_to f q l) ≡ pos 1 = ap (hit g) el ∙ hit_itself g in
      let h = two_hits (λ m. hit g (leads_to f q m)) (λ m. hit_some g (leads_to f q m)) m l 0 (move_count f q) less (omega arith) (omega (arith, ll)) in
      let o = one_hit ways ways_some q 0 (point_count f) (omega arith) (omega (arith, lq)) in
      let t = all_ways in
      absurd (omega (arith, ints, one, two, h, o, t))

-- two moves that lead to one position are the same
pub record IsOneMove (q m p l : ℕ) : Type 0 where
  pub point : q ≡ p
  pub choice : m ≡ l

pub one_way : (f : Frame) (player : ℕ) → IsWalked f player → (q m p l : ℕ) → q < point_count f → p < point_count f → m < move_count f q
    → l < move_count f p → leads_to f q m ≡ leads_to f p l → IsOneMove q m p l
one_way f player w q m p l lq lp lm ll same =
    let g = leads_to f p l in
    let points : q ≡ p = ⊎_elim (λ (e : q ≡ p). e)
    (λ (other : q ≡ p → ⊥). ⊎_elim
    (λ (less : q < p). absurd (apart f player w g q p m l less lp lm ll same refl))
    (λ (from : p ≤ q). absurd (apart f player w g p q l m (omega (arith, from, other)) lq ll lm refl same))
    (cases_lt q p))
    (cases_eq q p) in
    let here : leads_to f p m ≡ g = subst (λ i. leads_to f i m ≡ g) points same in
    let in_p : m < move_count f p = subst (λ i. m < move_count f i) points lm in
    record {
      point = points;
      choice = ⊎_elim (λ (e : m ≡ l). e)
          (λ (other : m ≡ l → ⊥). ⊎_elim
          (λ (less : m < l). absurd (apart_here f player w g p m l lp less ll here refl))
          (λ (from : l ≤ m). absurd (apart_here f player w g p l m lp (omega (arith, from, other)) in_p refl here))
          (cases_lt m l))
          (cases_eq m l);
    }
