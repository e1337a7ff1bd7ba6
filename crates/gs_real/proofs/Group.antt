-- Sums and whole multiples in an ordered group.
use Rattle.std.proofs.{Common.{◌≡◌, ℕ, zero, suc, ◌+◌, ◌-◌, ◌*◌, ◌≤◌, refl, sym, ap, ◌∙◌, subst, arith}, lemmas.Int.{ints}}
use Rattle.std.specs.Prelude.{ℤ, pos, negsuc, ◌+ℤ◌, ◌*ℤ◌, ◌≤ℤ◌}
use borrow.Author.Differences.{up, down, product_is, sum_is_lem, le_out}
use Rattle.gs_real.specs.Numbers.{AtMost, IsSome, OrderedGroup, scaled, times}

module _ {A P : Type 0} (G : OrderedGroup A P) where
  open G use {nil, plus, minus, place}

  pub neutral_right : (a : A) → plus a nil ≡ a
  neutral_right a = G.commutative a nil ∙ G.neutral a

  pub crosswise : (a b c d : A) → plus (plus a b) (plus c d) ≡ plus (plus a c) (plus b d)
  crosswise a b c d =
      G.associative a b (plus c d)
      ∙ ap (plus a) (sym (G.associative b c d) ∙ ap (λ x. plus x d) (G.commutative b c) ∙ G.associative c b d)
      ∙ sym (G.associative a c (plus b d))

  -- the same number added and taken away
  pub and_back : (a c : A) → plus (plus a c) (minus c) ≡ a
  and_back a c = G.associative a c (minus c) ∙ ap (plus a) (G.opposite c) ∙ neutral_right a

  pub cancelled : (a b c : A) → plus a c ≡ plus b c → a ≡ b
  cancelled a b c e = sym (and_back a c) ∙ ap (λ x. plus x (minus c)) e ∙ and_back b c

  opposite_left : (a : A) → plus (minus a) a ≡ nil
  opposite_left a = G.commutative (minus a) a ∙ G.opposite a

  minus_nil : minus nil ≡ nil
  minus_nil = sym (G.neutral (minus nil)) ∙ G.opposite nil

  minus_plus : (a b : A) → minus (plus a b) ≡ plus (minus a) (minus b)
  minus_plus a b =
      cancelled (minus (plus a b)) (plus (minus a) (minus b)) (plus a b)
      (opposite_left (plus a b) ∙ sym (crosswise (minus a) (minus b) a b ∙ ap (λ x. plus x (plus (minus b) b)) (opposite_left a)
      ∙ G.neutral (plus (minus b) b) ∙ opposite_left b))

  -- ---- order

  pub reflexive : (a : A) → AtMost G a a
  reflexive a = let z = G.nil_in in (z.0, ap (plus a) z.1 ∙ neutral_right a)

  pub transitive : (a b c : A) → AtMost G a b → AtMost G b c → AtMost G a c
  transitive a b c h k =
      let s = G.sum_in h.0 k.0 in
      (s.0, ap (plus a) s.1 ∙ sym (G.associative a (place h.0) (place k.0)) ∙ ap (λ x. plus x (place k.0)) h.1 ∙ k.1)

  pub both : (a b c d : A) → AtMost G a b → AtMost G c d → AtMost G (plus a c) (plus b d)
  both a b c d h k =
      let s = G.sum_in h.0 k.0 in
      (s.0, ap (plus (plus a c)) s.1 ∙ crosswise a c (place h.0) (place k.0) ∙ ap (λ x. plus x (plus c (place k.0))) h.1 ∙ ap (plus b) k.1)

  pub same_at_most : (a b : A) → a ≡ b → AtMost G a b
  same_at_most a b e = subst (AtMost G a) e (reflexive a)

  -- ---- n times a number

  times_nil : (n : ℕ) → times G n nil ≡ nil
  times_nil zero = refl
  times_nil (suc n) = G.neutral (times G n nil) ∙ times_nil n

  times_plus : (n : ℕ) (a b : A) → times G n (plus a b) ≡ plus (times G n a) (times G n b)
  times_plus zero a b = sym (G.neutral nil)
  times_plus (suc n) a b = ap (plus (plus a b)) (times_plus n a b) ∙ crosswise a b (times G n a) (times G n b)

  times_add : (m n : ℕ) (a : A) → times G (m + n) a ≡ plus (times G m a) (times G n a)
  times_add zero n a = let e : 0 + n ≡ n = omega arith in ap (λ k. times G k a) e ∙ sym (G.neutral (times G n a))
  times_add (suc m) n a =
      let e : suc m + n ≡ suc (m + n) = omega arith in
      ap (λ k. times G k a) e ∙ ap (plus a) (times_add m n a) ∙ sym (G.associative a (times G m a) (times G n a))

  times_times : (m n : ℕ) (a : A) → times G m (times G n a) ≡ times G (m * n) a
  times_times zero n a = let e : 0 * n ≡ 0 = omega arith in sym (ap (λ k. times G k a) e)
  times_times (suc m) n a =
      let e : n + m * n ≡ suc m * n = omega arith in
      ap (plus (times G n a)) (times_times m n a) ∙ sym (times_add n (m * n) a) ∙ ap (λ k. times G k a) e

  times_minus : (n : ℕ) (a : A) → times G n (minus a) ≡ minus (times G n a)
  times_minus zero a = sym minus_nil
  times_minus (suc n) a = ap (plus (minus a)) (times_minus n a) ∙ sym (minus_plus a (times G n a))

  pub times_some : (n : ℕ) (a : A) → IsSome G a → IsSome G (times G n a)
  times_some zero a h = G.nil_in
  times_some (suc n) a h =
      let more = times_some n a h in
      let s = G.sum_in h.0 more.0 in
      (s.0, s.1 ∙ ap (λ x. plus x (place more.0)) h.1 ∙ ap (plus a) more.1)

  pub times_kept : (n : ℕ) (a b : A) → AtMost G a b → AtMost G (times G n a) (times G n b)
  times_kept zero a b h = reflexive nil
  times_kept (suc n) a b h = both a b (times G n a) (times G n b) h (times_kept n a b h)

  -- ---- whole multiples, as m times less n times

  abbrev less : ℕ → ℕ → A → A
  less m n a = plus (times G m a) (minus (times G n a))

  scaled_is : (z : ℤ) (a : A) → scaled G z a ≡ less (up z) (down z) a
  scaled_is (pos n) a = sym (ap (plus (times G n a)) minus_nil ∙ neutral_right (times G n a))
  scaled_is (negsuc n) a = sym (G.neutral (minus (times G (suc n) a)))

  less_plus : (m n k l : ℕ) (a : A) → less (m + k) (n + l) a ≡ plus (less m n a) (less k l a)
  less_plus m n k l a =
      ap (λ x. plus x (minus (times G (n + l) a))) (times_add m k a)
      ∙ ap (λ x. plus (plus (times G m a) (times G k a)) x) (ap minus (times_add n l a) ∙ minus_plus (times G n a) (times G l a))
      ∙ crosswise (times G m a) (times G k a) (minus (times G n a)) (minus (times G l a))

  less_none : (n : ℕ) (a : A) → less n n a ≡ nil
  less_none n a = G.opposite (times G n a)

  less_same : (m n k l : ℕ) (a : A) → m + l ≡ k + n → less m n a ≡ less k l a
  less_same m n k l a e =
      sym (neutral_right (less m n a)) ∙ ap (plus (less m n a)) (sym (less_none l a)) ∙ sym (less_plus m n l l a)
      ∙ ap (λ x. less x (n + l) a) e
      ∙ ap (λ x. less (k + n) x a) (let o : n + l ≡ l + n = omega arith in o)
      ∙ less_plus k l n n a ∙ ap (plus (less k l a)) (less_none n a) ∙ neutral_right (less k l a)

  pub scaled_nil : (z : ℤ) → scaled G z nil ≡ nil
  scaled_nil (pos n) = times_nil n
  scaled_nil (negsuc n) = ap minus (times_nil (suc n)) ∙ minus_nil

  pub scaled_plus : (z : ℤ) (a b : A) → scaled G z (plus a b) ≡ plus (scaled G z a) (scaled G z b)
  scaled_plus (pos n) a b = times_plus n a b
  scaled_plus (negsuc n) a b = ap minus (times_plus (suc n) a b) ∙ minus_plus (times G (suc n) a) (times G (suc n) b)

  pub scaled_add : (x y : ℤ) (a : A) → scaled G (x +ℤ y) a ≡ plus (scaled G x a) (scaled G y a)
  scaled_add x y a =
      let s = sum_is_lem x y in
      scaled_is (x +ℤ y) a ∙ less_same (up (x +ℤ y)) (down (x +ℤ y)) (up x + up y) (down x + down y) a (omega (arith, s))
      ∙ less_plus (up x) (down x) (up y) (down y) a ∙ ap (λ v. plus v (less (up y) (down y) a)) (sym (scaled_is x a))
      ∙ ap (plus (scaled G x a)) (sym (scaled_is y a))

  times_less : (k m n : ℕ) (a : A) → times G k (less m n a) ≡ less (k * m) (k * n) a
  times_less k m n a =
      times_plus k (times G m a) (minus (times G n a)) ∙ ap (λ x. plus x (times G k (minus (times G n a)))) (times_times k m a)
      ∙ ap (plus (times G (k * m) a)) (times_minus k (times G n a) ∙ ap minus (times_times k n a))

  pub times_scaled : (k : ℕ) (z : ℤ) (a : A) → times G k (scaled G z a) ≡ scaled G (pos k *ℤ z) a
  times_scaled k z a =
      let p = product_is (pos k) z in
      ap (times G k) (scaled_is z a) ∙ times_less k (up z) (down z) a
      ∙ less_same (k * up z) (k * down z) (up (pos k *ℤ z)) (down (pos k *ℤ z)) a (omega (arith, p.0, p.1)) ∙ sym (scaled_is (pos k *ℤ z) a)

  -- a greater multiple of a number that is at least 0
  pub scaled_kept : (x y : ℤ) (a : A) → x ≤ℤ y → IsSome G a → AtMost G (scaled G x a) (scaled G y a)
  scaled_kept x y a h some =
      let l = le_out x y h in
      let d : ℕ = (up y + down x) - (up x + down y) in
      let e : scaled G y a ≡ plus (scaled G x a) (times G d a) =
      scaled_is y a ∙ less_same (up y) (down y) (up x + d) (down x + 0) a (omega (arith, l)) ∙ less_plus (up x) (down x) d 0 a
      ∙ ap (λ v. plus v (less d 0 a)) (sym (scaled_is x a)) ∙ ap (plus (scaled G x a)) (sym (scaled_is (pos d) a)) in
      let more = times_some d a some in
      (more.0, ap (plus (scaled G x a)) more.1 ∙ sym e)
