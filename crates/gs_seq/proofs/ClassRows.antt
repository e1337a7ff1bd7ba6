-- The row of a class, from the sums of its first member.
use Rattle.std.proofs.Common.{◌≡◌, ℕ, ℤ, pos, ◌+◌, Bool, true, false, cond, List, [], ◌∷◌, ◌++◌, map, refl, sym, ap, ◌∙◌, arith, sum_by}
use Rattle.std.proofs.{Math.IntN.{+ℤ_idl, +ℤ_idr}, lemmas.Int.{ints}, lemmas.List.Sums.{sum_by-append, sum_by-cons}}
use Rattle.std.specs.Prelude.{◌+ℤ◌, ◌*ℤ◌}
use borrow.Author.Differences.{product_is}
use Rattle.gs_model.proofs.{Keys.{IsExact}, RawBound.{sum_z-map}, Regroup.{alike_total}, Total.{sum_z-append, sum_z-same, sum_z-zero}, Basics.{sum_by-map}}
use Rattle.gs_model.specs.Sums.{sum_z}

-- an item of one of two lists
data Either (X Y : Type 0) : Type 0 where
  left : X → Either X Y
  right : Y → Either X Y

none_right : {Y : Type 0} (ys : List Y) (u : Y → ℤ) → sum_z (λ y. pos 0 *ℤ u y) ys ≡ pos 0
none_right ys u = sum_z-same (λ y. pos 0 *ℤ u y) (λ _. pos 0) (λ y. omega (arith, ints, product_is (pos 0) (u y))) ys ∙ sum_z-zero ys

none_by : {Y : Type 0} (ys : List Y) (p : Y → Bool) → sum_by (λ y. cond (p y) 0 0) ys ≡ 0
none_by [] p = refl
none_by (y ∷ ys) p =
    let e : (b : Bool) → cond {A = ℕ} b 0 0 ≡ 0 = λ b. elim b as (λ b. cond {A = ℕ} b 0 0 ≡ 0) [ true ↦ refl | false ↦ refl ] in
    omega (arith, sum_by-cons (λ y. cond (p y) 0 0) y ys, e (p y), none_by ys p)

-- two weighted lists whose weights agree at each key give one sum to whatever hangs on the key alone
module _ {X Y K : Type 0} (eq : K → K → Bool) (exact : IsExact eq) (kx : X → K) (wx : X → ℕ) (ky : Y → K) (wy : Y → ℕ) (v : K → ℤ) where
  abbrev key : Either X Y → K
  key (left x) = kx x
  key (right y) = ky y

  abbrev first : Either X Y → ℕ
  first (left x) = wx x
  first (right y) = 0

  abbrev second : Either X Y → ℕ
  second (left x) = 0
  second (right y) = wy y

  abbrev both : List X → List Y → List (Either X Y)
  both xs ys = map left xs ++ map right ys

  split : (f : Either X Y → ℤ) (xs : List X) (ys : List Y) → sum_z f (both xs ys) ≡ sum_z (λ x. f (left x)) xs +ℤ sum_z (λ y. f (right y)) ys
  split f xs ys =
      sum_z-append f (map left xs) (map right ys) ∙ ap (λ z. z +ℤ sum_z f (map right ys)) (sum_z-map f left xs)
      ∙ ap (λ z. sum_z (λ x. f (left x)) xs +ℤ z) (sum_z-map f right ys)

  split_by : (f : Either X Y → ℕ) (xs : List X) (ys : List Y) → sum_by f (both xs ys) ≡ sum_by (λ x. f (left x)) xs + sum_by (λ y. f (right y)) ys
  split_by f xs ys = omega (arith, sum_by-append f (map left xs) (map right ys), sum_by-map f left xs, sum_by-map f right ys)

  pub alike_lists : (xs : List X) (ys : List Y) → ((q : K) → sum_by (λ x. cond (eq (kx x) q) (wx x) 0) xs ≡ sum_by (λ y. cond (eq (ky y) q) (wy y) 0) ys)
      → sum_z (λ x. pos (wx x) *ℤ v (kx x)) xs ≡ sum_z (λ y. pos (wy y) *ℤ v (ky y)) ys
  alike_lists xs ys same =
      let l = split (λ z. pos (first z) *ℤ v (key z)) xs ys in
      let r = split (λ z. pos (second z) *ℤ v (key z)) xs ys in
      let m = alike_total eq exact key first second v (both xs ys) (λ q.
      split_by (λ z. cond (eq (key z) q) (first z) 0) xs ys
      ∙ omega (arith, none_by ys (λ y. eq (ky y) q), none_by xs (λ x. eq (kx x) q), same q, split_by (λ z. cond (eq (key z) q) (second z) 0) xs ys)) in
      let no_y = none_right ys (λ y. v (ky y)) in
      let no_x = none_right xs (λ x. v (kx x)) in
      sym (+ℤ_idr (sum_z (λ x. pos (wx x) *ℤ v (kx x)) xs)) ∙ ap (λ z. sum_z (λ x. pos (wx x) *ℤ v (kx x)) xs +ℤ z) (sym no_y) ∙ sym l ∙ m ∙ r
      ∙ ap (λ z. z +ℤ sum_z (λ y. pos (wy y) *ℤ v (ky y)) ys) no_x ∙ +ℤ_idl (sum_z (λ y. pos (wy y) *ℤ v (ky y)) ys)
