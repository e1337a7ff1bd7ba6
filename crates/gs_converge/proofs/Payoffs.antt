-- What two plans pay is additive in each plan and bounded, and depends on the numbers at the ends alone.
use Rattle.std.proofs.{Common.{◌≡◌, ℕ, suc, ◌+◌, ◌*◌, ◌<◌, ◌≤◌, List, [], ◌∷◌, get_or, sym, ap, ◌∙◌, subst, arith, negsuc}, lemmas.Int.{ints}}
use Rattle.std.proofs.{lemmas.List.Sums.{sum_by-cons}, Math.IntN.{pos-*ℤ-pos}, Math.Nat.{mul-le-mul_left, mul-le-mul_right}}
use Rattle.std.specs.{Prelude.{ℤ, pos, ◌+ℤ◌, ◌*ℤ◌, ◌≤ℤ◌, sum_by}, List.{range_with_len}}
use borrow.Author.Differences.{product_is}
use Rattle.gs_model.proofs.{Total.{sum_z-same, sum_z-same_all, sum_z-add, sum_z-le_all, mul-le, mul-add_right}, RawBound.{All-range}, Best.{nat_scale}}
use Rattle.gs_model.proofs.Exchange.{raw_payoff_is_gain}
use Rattle.gs_model.specs.{Deals.{Deal}, Frame.{Frame, end_count, last_round, round_of, at_round, payoff_to, signal_count}, FrameFacts.{InRange}}
use Rattle.gs_model.specs.{Payoff.{raw_payoff, number_at_end}, Plans.{Plan}, Positions.{at_end}, Sums.{sum_z}}

-- the distance of an integer from 0
abbrev pub distance : ℤ → ℕ
distance (pos n) = n
distance (negsuc n) = suc n

up_to : (u : ℤ) → u ≤ℤ pos (distance u)
up_to (pos n) = omega (arith, ints)
up_to (negsuc n) = omega (arith, ints)

down_to : (u : ℤ) → pos 0 ≤ℤ (u +ℤ pos (distance u))
down_to (pos n) = omega (arith, ints)
down_to (negsuc n) = omega (arith, ints)

scaled_up : (n t : ℕ) (u : ℤ) → n ≤ t → (pos n *ℤ u) ≤ℤ pos (t * distance u)
scaled_up n t u h =
    let m = mul-le n u (pos (distance u)) (up_to u) in let e = pos-*ℤ-pos n (distance u) in
    let l = mul-le-mul_right (distance u) h in
    omega (arith, ints)

scaled_down : (n t : ℕ) (u : ℤ) → n ≤ t → pos 0 ≤ℤ (pos n *ℤ u +ℤ pos (t * distance u))
scaled_down n t u h =
    let m = mul-le n (pos 0) (u +ℤ pos (distance u)) (down_to u) in
    let a = mul-add_right (pos n) u (pos (distance u)) in let e = pos-*ℤ-pos n (distance u) in
    let z = pos-*ℤ-pos n 0 in
    let l = mul-le-mul_right (distance u) h in
    omega (arith, ints)

sum_scaled : {X : Type 0} (t : ℕ) (k : X → ℕ) (xs : List X) → sum_z (λ x. pos (t * k x)) xs ≡ pos (t * sum_by k xs)
sum_scaled t k [] = omega (arith, ints)
sum_scaled t k (x ∷ xs) =
    let h = sum_scaled t k xs in let c = sum_by-cons k x xs in let e = ap (λ n. t * n) c in omega (arith, ints)

two_terms : (a b : ℕ) (t : ℤ) → pos (a + b) *ℤ t ≡ pos a *ℤ t +ℤ pos b *ℤ t
two_terms a b t = let p = product_is (pos (a + b)) t in let q = product_is (pos a) t in let r = product_is (pos b) t in omega (arith, ints)

-- a player's number at an end, by the signal of the last round
abbrev pub ends : Frame → ℕ → Plan → ℕ → ℕ → ℕ
ends f player x z s = number_at_end f player x z (at_round f (round_of f (at_end z)) s)

-- a fact on ends and signals of the last round
abbrev pub AtEnds : Frame → (ℕ → ℕ → Type 0) → Type 0
AtEnds f P = (z s : ℕ) → z < end_count f → s < signal_count f (last_round f) → P z s

module _ (f : Frame) (r : InRange f) where
  abbrev over : (ℕ → Deal → ℤ) → ℤ
  over g = sum_z (λ z. sum_z (λ (d : Deal). g z d) f.deals) (range_with_len 0 (end_count f))

  abbrev Each : (ℕ → Deal → Type 0) → Type 0
  Each P = (z : ℕ) (d : Deal) → z < end_count f → d.one < signal_count f (last_round f) → d.two < signal_count f (last_round f) → P z d

  abbrev pays : (ℕ → ℕ → ℕ) → (ℕ → ℕ → ℕ) → ℕ → Deal → ℤ
  pays a b z d = pos (a z d.one) *ℤ (pos (d.weight * b z d.two) *ℤ payoff_to f 1 z d.outcome)

  over_same : (g h : ℕ → Deal → ℤ) → Each (λ z d. g z d ≡ h z d) → over g ≡ over h
  over_same g h e = sum_z-same_all (λ z. sum_z (λ (d : Deal). g z d) f.deals) (λ z. sum_z (λ (d : Deal). h z d) f.deals) (range_with_len 0 (end_count f))
      (All-range (λ z. sum_z (λ (d : Deal). g z d) f.deals ≡ sum_z (λ (d : Deal). h z d) f.deals) (end_count f)
      (λ z lz. sum_z-same_all (λ (d : Deal). g z d) (λ (d : Deal). h z d) f.deals
      (λ k d l. e z (get_or f.deals k d) lz (r.ones k d l) (r.twos k d l))))

  over_le : (g h : ℕ → Deal → ℤ) → Each (λ z d. g z d ≤ℤ h z d) → over g ≤ℤ over h
  over_le g h e = sum_z-le_all (λ z. sum_z (λ (d : Deal). g z d) f.deals) (λ z. sum_z (λ (d : Deal). h z d) f.deals) (range_with_len 0 (end_count f))
      (All-range (λ z. sum_z (λ (d : Deal). g z d) f.deals ≤ℤ sum_z (λ (d : Deal). h z d) f.deals) (end_count f)
      (λ z lz. sum_z-le_all (λ (d : Deal). g z d) (λ (d : Deal). h z d) f.deals
      (λ k d l. e z (get_or f.deals k d) lz (r.ones k d l) (r.twos k d l))))

  over_add : (g h : ℕ → Deal → ℤ) → over (λ z d. g z d +ℤ h z d) ≡ over g +ℤ over h
  over_add g h = sum_z-same (λ z. sum_z (λ (d : Deal). g z d +ℤ h z d) f.deals)
      (λ z. sum_z (λ (d : Deal). g z d) f.deals +ℤ sum_z (λ (d : Deal). h z d) f.deals)
      (λ z. sum_z-add (λ (d : Deal). g z d) (λ (d : Deal). h z d) f.deals) (range_with_len 0 (end_count f))
      ∙ sum_z-add (λ z. sum_z (λ (d : Deal). g z d) f.deals) (λ z. sum_z (λ (d : Deal). h z d) f.deals) (range_with_len 0 (end_count f))

  over_scaled : (t : ℕ) (k : ℕ → Deal → ℕ) → over (λ z d. pos (t * k z d))
      ≡ pos (t * sum_by (λ z. sum_by (λ (d : Deal). k z d) f.deals) (range_with_len 0 (end_count f)))
  over_scaled t k = sum_z-same (λ z. sum_z (λ (d : Deal). pos (t * k z d)) f.deals) (λ z. pos (t * sum_by (λ (d : Deal). k z d) f.deals))
      (λ z. sum_scaled t (λ (d : Deal). k z d) f.deals) (range_with_len 0 (end_count f))
      ∙ sum_scaled t (λ z. sum_by (λ (d : Deal). k z d) f.deals) (range_with_len 0 (end_count f))

  paid : (x y : Plan) → raw_payoff f x y ≡ over (pays (ends f 1 x) (ends f 2 y))
  paid x y = raw_payoff_is_gain f x y

  pub first_same : (x x' y : Plan) → AtEnds f (λ z s. ends f 1 x z s ≡ ends f 1 x' z s) → raw_payoff f x y ≡ raw_payoff f x' y
  first_same x x' y e = paid x y ∙ over_same (pays (ends f 1 x) (ends f 2 y)) (pays (ends f 1 x') (ends f 2 y))
      (λ z d lz l1 l2. ap (λ n. pos n *ℤ (pos (d.weight * ends f 2 y z d.two) *ℤ payoff_to f 1 z d.outcome)) (e z d.one lz l1))
      ∙ sym (paid x' y)

  pub second_same : (x y y' : Plan) → AtEnds f (λ z s. ends f 2 y z s ≡ ends f 2 y' z s) → raw_payoff f x y ≡ raw_payoff f x y'
  second_same x y y' e = paid x y ∙ over_same (pays (ends f 1 x) (ends f 2 y)) (pays (ends f 1 x) (ends f 2 y'))
      (λ z d lz l1 l2. ap (λ n. pos (ends f 1 x z d.one) *ℤ (pos (d.weight * n) *ℤ payoff_to f 1 z d.outcome)) (e z d.two lz l2))
      ∙ sym (paid x y')

  pub first_adds : (x x' x'' y : Plan) → AtEnds f (λ z s. ends f 1 x'' z s ≡ ends f 1 x z s + ends f 1 x' z s)
      → raw_payoff f x'' y ≡ raw_payoff f x y +ℤ raw_payoff f x' y
  first_adds x x' x'' y e =
      let g = pays (ends f 1 x) (ends f 2 y) in let h = pays (ends f 1 x') (ends f 2 y) in
      let a = over_same (pays (ends f 1 x'') (ends f 2 y)) (λ z d. g z d +ℤ h z d)
      (λ z d lz l1 l2. ap (λ n. pos n *ℤ (pos (d.weight * ends f 2 y z d.two) *ℤ payoff_to f 1 z d.outcome)) (e z d.one lz l1)
      ∙ two_terms (ends f 1 x z d.one) (ends f 1 x' z d.one) (pos (d.weight * ends f 2 y z d.two) *ℤ payoff_to f 1 z d.outcome)) in
      let b = over_add g h in
      let p = paid x'' y in let q = paid x y in let s = paid x' y in
      p ∙ a ∙ b ∙ ap (λ n. n +ℤ over h) (sym q) ∙ ap (λ n. raw_payoff f x y +ℤ n) (sym s)

  weighed : (a w b c : ℕ) (u : ℤ) → pos a *ℤ (pos (w * (b + c)) *ℤ u) ≡ pos a *ℤ (pos (w * b) *ℤ u) +ℤ pos a *ℤ (pos (w * c) *ℤ u)
  weighed a w b c u =
      let split : w * (b + c) ≡ w * b + w * c = omega arith in
      ap (λ n. pos a *ℤ (pos n *ℤ u)) split ∙ ap (λ n. pos a *ℤ n) (two_terms (w * b) (w * c) u)
      ∙ mul-add_right (pos a) (pos (w * b) *ℤ u) (pos (w * c) *ℤ u)

  pub second_adds : (x y y' y'' : Plan) → AtEnds f (λ z s. ends f 2 y'' z s ≡ ends f 2 y z s + ends f 2 y' z s)
      → raw_payoff f x y'' ≡ raw_payoff f x y +ℤ raw_payoff f x y'
  second_adds x y y' y'' e =
      let g = pays (ends f 1 x) (ends f 2 y) in let h = pays (ends f 1 x) (ends f 2 y') in
      let a = over_same (pays (ends f 1 x) (ends f 2 y'')) (λ z d. g z d +ℤ h z d)
      (λ z d lz l1 l2. ap (λ n. pos (ends f 1 x z d.one) *ℤ (pos (d.weight * n) *ℤ payoff_to f 1 z d.outcome)) (e z d.two lz l2)
      ∙ weighed (ends f 1 x z d.one) d.weight (ends f 2 y z d.two) (ends f 2 y' z d.two) (payoff_to f 1 z d.outcome)) in
      let b = over_add g h in
      let p = paid x y'' in let q = paid x y in let s = paid x y' in
      p ∙ a ∙ b ∙ ap (λ n. n +ℤ over h) (sym q) ∙ ap (λ n. raw_payoff f x y +ℤ n) (sym s)

  -- the weights of all deals times what each end is about
  abbrev pub stakes : ℕ
  stakes = sum_by (λ z. sum_by (λ (d : Deal). d.weight * distance (payoff_to f 1 z d.outcome)) f.deals) (range_with_len 0 (end_count f))

  in_bound : (a w b t : ℕ) → a * b ≤ t → a * (w * b) ≤ t * w
  in_bound a w b t h = let m = mul-le-mul_left w h in omega arith

  pub pays_at_most : (x y : Plan) (t : ℕ) → ((z s u : ℕ) → z < end_count f → s < signal_count f (last_round f) → u < signal_count f (last_round f)
      → ends f 1 x z s * ends f 2 y z u ≤ t) → raw_payoff f x y ≤ℤ pos (t * stakes)
  pays_at_most x y t h =
      let l = over_le (pays (ends f 1 x) (ends f 2 y)) (λ z d. pos (t * (d.weight * distance (payoff_to f 1 z d.outcome))))
      (λ z d lz l1 l2.
      let a = ends f 1 x z d.one in let b = ends f 2 y z d.two in let u = payoff_to f 1 z d.outcome in
      let e = nat_scale a (d.weight * b) u in
      let k = scaled_up (a * (d.weight * b)) (t * d.weight) u (in_bound a d.weight b t (h z d.one d.two lz l1 l2)) in
      let m : t * d.weight * distance u ≡ t * (d.weight * distance u) = omega arith in
      subst (λ n. n ≤ℤ pos (t * (d.weight * distance u))) (sym e) (subst (λ n. (pos (a * (d.weight * b)) *ℤ u) ≤ℤ pos n) m k)) in
      let s = over_scaled t (λ z d. d.weight * distance (payoff_to f 1 z d.outcome)) in
      subst (λ n. n ≤ℤ pos (t * stakes)) (sym (paid x y)) (subst (λ n. over (pays (ends f 1 x) (ends f 2 y)) ≤ℤ n) s l)

  pub pays_at_least : (x y : Plan) (t : ℕ) → ((z s u : ℕ) → z < end_count f → s < signal_count f (last_round f) → u < signal_count f (last_round f)
      → ends f 1 x z s * ends f 2 y z u ≤ t) → pos 0 ≤ℤ (raw_payoff f x y +ℤ pos (t * stakes))
  pays_at_least x y t h =
      let g = pays (ends f 1 x) (ends f 2 y) in
      let k = λ (z : ℕ) (d : Deal). pos (t * (d.weight * distance (payoff_to f 1 z d.outcome))) in
      let l = over_le (λ z d. pos (0 * 0)) (λ z d. g z d +ℤ k z d)
      (λ z d lz l1 l2.
      let a = ends f 1 x z d.one in let b = ends f 2 y z d.two in let u = payoff_to f 1 z d.outcome in
      let e = nat_scale a (d.weight * b) u in
      let k = scaled_down (a * (d.weight * b)) (t * d.weight) u (in_bound a d.weight b t (h z d.one d.two lz l1 l2)) in
      let m : t * d.weight * distance u ≡ t * (d.weight * distance u) = omega arith in
      subst (λ n. pos 0 ≤ℤ (n +ℤ pos (t * (d.weight * distance u)))) (sym e)
      (subst (λ n. pos 0 ≤ℤ (pos (a * (d.weight * b)) *ℤ u +ℤ pos n)) m k)) in
      let o = over_scaled 0 (λ z d. 0) in
      let b = over_add g k in
      let s = over_scaled t (λ z d. d.weight * distance (payoff_to f 1 z d.outcome)) in
      let p = paid x y in
      let none : 0 * sum_by (λ (z : ℕ). sum_by (λ (d : Deal). 0) f.deals) (range_with_len 0 (end_count f)) ≡ 0 = omega arith in
      let o2 : over (λ z d. pos (0 * 0)) ≡ pos 0 = o ∙ ap pos none in
      subst (λ n. pos 0 ≤ℤ (n +ℤ pos (t * stakes))) (sym p) (subst (λ n. pos 0 ≤ℤ (over g +ℤ n)) s
      (subst (λ n. pos 0 ≤ℤ n) b (subst (λ n. n ≤ℤ over (λ z d. g z d +ℤ k z d)) o2 l)))
