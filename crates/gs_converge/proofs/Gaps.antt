-- From best answers before the last turn to both gaps after it: arithmetic alone.
use Rattle.std.proofs.{Common.{◌≡◌, ℕ, zero, suc, ◌*◌, ◌<◌, ◌≤◌, sym, ap, ◌∙◌, subst, arith}, lemmas.Int.{ints}}
use Rattle.std.proofs.{Math.IntN.{*ℤ_comm, pos-*ℤ-pos}, Math.Nat.{mul-le-mul_left}}
use Rattle.std.specs.Prelude.{ℤ, pos, ◌+ℤ◌, ◌-ℤ◌, ◌*ℤ◌, ◌≤ℤ◌}
use Rattle.gs_model.proofs.{Total.{mul-le, mul-add_right}, Best.{nat_scale}}
use Rattle.gs_robinson.proofs.Integers.{cancel_z}

product_some : (a b : ℕ) → 0 < a → 0 < b → 0 < a * b
product_some zero b h k = absurd (omega arith)
product_some (suc a) zero h k = absurd (omega arith)
product_some (suc a) (suc b) h k = omega arith

pub mul-sub_right : (n : ℕ) (a b : ℤ) → pos n *ℤ (a -ℤ b) ≡ pos n *ℤ a -ℤ pos n *ℤ b
mul-sub_right n a b =
    let e : (a -ℤ b) +ℤ b ≡ a = omega (arith, ints) in
    let h = mul-add_right (pos n) (a -ℤ b) b in let k = ap (λ z. pos n *ℤ z) e in omega (arith, ints)

turn_scale : (m n : ℕ) (z : ℤ) → pos m *ℤ (pos n *ℤ z) ≡ pos n *ℤ (pos m *ℤ z)
turn_scale m n z = let e : m * n ≡ n * m = omega arith in nat_scale m n z ∙ ap (λ k. pos k *ℤ z) e ∙ sym (nat_scale n m z)

first_side : (d m z : ℕ) (p1 E R : ℤ) → 0 < z → pos (d * m) *ℤ p1 ≡ pos z *ℤ R → p1 ≤ℤ (pos z *ℤ E) → R ≤ℤ (pos (d * m) *ℤ E)
first_side d m z p1 E R some e h =
    let a = mul-le (d * m) p1 (pos z *ℤ E) h in let t = turn_scale (d * m) z E in
    let l : (pos z *ℤ R) ≤ℤ (pos z *ℤ (pos (d * m) *ℤ E)) = omega (arith, ints) in
    cancel_z z R (pos (d * m) *ℤ E) some l

second_side : (d m z : ℕ) (p2 E R : ℤ) → 0 < z → pos (d * m) *ℤ p2 ≡ pos z *ℤ R → (pos z *ℤ E) ≤ℤ p2 → (pos (d * m) *ℤ E) ≤ℤ R
second_side d m z p2 E R some e h =
    let a = mul-le (d * m) (pos z *ℤ E) p2 h in let t = turn_scale (d * m) z E in
    let l : (pos z *ℤ (pos (d * m) *ℤ E)) ≤ℤ (pos z *ℤ R) = omega (arith, ints) in
    cancel_z z (pos (d * m) *ℤ E) R some l

-- both sides over one denominator
both_sides : (d1 d2 M Q H : ℕ) (n1 n2 P E1 E2 : ℤ) → (pos d1 *ℤ P +ℤ n1 *ℤ pos Q) ≤ℤ (pos (d1 * M) *ℤ E1)
    → (pos (d2 * M) *ℤ E2) ≤ℤ (pos d2 *ℤ P -ℤ n2 *ℤ pos Q) → E1 ≤ℤ (E2 +ℤ pos H)
    → (pos Q *ℤ (pos d2 *ℤ n1 +ℤ pos d1 *ℤ n2)) ≤ℤ pos (d1 * d2 * M * H)
both_sides d1 d2 M Q H n1 n2 P E1 E2 h1 h2 h =
    let D = d1 * d2 * M in
    let a = mul-le d2 (pos d1 *ℤ P +ℤ n1 *ℤ pos Q) (pos (d1 * M) *ℤ E1) h1 in
    let b = mul-le d1 (pos (d2 * M) *ℤ E2) (pos d2 *ℤ P -ℤ n2 *ℤ pos Q) h2 in
    let a1 = mul-add_right (pos d2) (pos d1 *ℤ P) (n1 *ℤ pos Q) in
    let b1 = mul-sub_right d1 (pos d2 *ℤ P) (n2 *ℤ pos Q) in
    let p = turn_scale d2 d1 P in
    let x1 = ap (λ z. pos d2 *ℤ z) (*ℤ_comm n1 (pos Q)) ∙ turn_scale d2 Q n1 in
    let x2 = ap (λ z. pos d1 *ℤ z) (*ℤ_comm n2 (pos Q)) ∙ turn_scale d1 Q n2 in
    let e1 : d2 * (d1 * M) ≡ D = omega arith in
    let e2 : d1 * (d2 * M) ≡ D = omega arith in
    let y1 = nat_scale d2 (d1 * M) E1 ∙ ap (λ k. pos k *ℤ E1) e1 in
    let y2 = nat_scale d1 (d2 * M) E2 ∙ ap (λ k. pos k *ℤ E2) e2 in
    let c = mul-le D E1 (E2 +ℤ pos H) h in
    let c1 = mul-add_right (pos D) E2 (pos H) in
    let c2 = pos-*ℤ-pos D H in
    let s = mul-add_right (pos Q) (pos d2 *ℤ n1) (pos d1 *ℤ n2) in
    gathered (pos d2 *ℤ (pos d1 *ℤ P +ℤ n1 *ℤ pos Q)) (pos d2 *ℤ (pos (d1 * M) *ℤ E1)) (pos d1 *ℤ (pos (d2 * M) *ℤ E2))
    (pos d1 *ℤ (pos d2 *ℤ P -ℤ n2 *ℤ pos Q)) (pos d2 *ℤ (pos d1 *ℤ P)) (pos d1 *ℤ (pos d2 *ℤ P)) (pos d2 *ℤ (n1 *ℤ pos Q)) (pos d1 *ℤ (n2 *ℤ pos Q))
    (pos Q *ℤ (pos d2 *ℤ n1)) (pos Q *ℤ (pos d1 *ℤ n2)) (pos D *ℤ E1) (pos D *ℤ E2) (pos D *ℤ (E2 +ℤ pos H)) (pos D *ℤ pos H) (pos (D * H))
    (pos Q *ℤ (pos d2 *ℤ n1 +ℤ pos d1 *ℤ n2)) a b a1 b1 p x1 x2 y1 y2 c c1 c2 s
  where
    gathered : (l1 r1 l2 r2 p1 p2 u1 u2 v1 v2 f1 f2 g k m s : ℤ) → l1 ≤ℤ r1 → l2 ≤ℤ r2 → l1 ≡ p1 +ℤ u1 → r2 ≡ p2 -ℤ u2 → p1 ≡ p2 → u1 ≡ v1 → u2 ≡ v2
        → r1 ≡ f1 → l2 ≡ f2 → f1 ≤ℤ g → g ≡ f2 +ℤ k → k ≡ m → s ≡ v1 +ℤ v2 → s ≤ℤ m
    gathered l1 r1 l2 r2 p1 p2 u1 u2 v1 v2 f1 f2 g k m s h1 h2 e1 e2 e3 e4 e5 e6 e7 h3 e8 e9 e10 = omega (arith, ints)

-- the sum of both gaps, from what best answers are paid
pub gaps_at_most : (W M N H p q d1 d2 z1 z2 : ℕ) (n1 n2 P p1 p2 E1 E2 : ℤ) → 0 < W → 0 < M → N ≡ M → 0 < z1 → 0 < z2
    → pos (d1 * M) *ℤ p1 ≡ pos z1 *ℤ (pos d1 *ℤ P +ℤ n1 *ℤ pos (W * M * N))
    → pos (d2 * N) *ℤ p2 ≡ pos z2 *ℤ (pos d2 *ℤ P -ℤ n2 *ℤ pos (W * M * N))
    → p1 ≤ℤ (pos z1 *ℤ E1) → (pos z2 *ℤ E2) ≤ℤ p2 → E1 ≤ℤ (E2 +ℤ pos H) → q * H ≤ p * (W * M)
    → (pos q *ℤ (pos d2 *ℤ n1 +ℤ pos d1 *ℤ n2)) ≤ℤ pos (p * (d1 * d2))
gaps_at_most W M N H p q d1 d2 z1 z2 n1 n2 P p1 p2 E1 E2 w m same s1 s2 e1 e2 h1 h2 h small =
    let Q = W * M * N in let S = pos d2 *ℤ n1 +ℤ pos d1 *ℤ n2 in
    let a = first_side d1 M z1 p1 E1 (pos d1 *ℤ P +ℤ n1 *ℤ pos Q) s1 e1 h1 in
    let b = second_side d2 N z2 p2 E2 (pos d2 *ℤ P -ℤ n2 *ℤ pos Q) s2 e2 h2 in
    let b' = subst (λ k. (pos (d2 * k) *ℤ E2) ≤ℤ (pos d2 *ℤ P -ℤ n2 *ℤ pos Q)) same b in
    let c = both_sides d1 d2 M Q H n1 n2 P E1 E2 a b' h in
    let d = mul-le q (pos Q *ℤ S) (pos (d1 * d2 * M * H)) c in
    let t = turn_scale q Q S in
    let u = pos-*ℤ-pos q (d1 * d2 * M * H) in
    let v = pos-*ℤ-pos Q (p * (d1 * d2)) in
    let more = mul-le-mul_left (d1 * d2 * M) small in
    let same_square : W * M * N ≡ W * M * M = ap (λ k. W * M * k) same in
    let same_right = ap (λ k. k * (p * (d1 * d2))) same_square in
    let all : q * (d1 * d2 * M * H) ≤ Q * (p * (d1 * d2)) = omega arith in
    let l : (pos Q *ℤ (pos q *ℤ S)) ≤ℤ (pos Q *ℤ pos (p * (d1 * d2))) = chained (pos Q *ℤ (pos q *ℤ S)) (pos q *ℤ (pos Q *ℤ S))
    (pos q *ℤ pos (d1 * d2 * M * H)) (q * (d1 * d2 * M * H)) (Q * (p * (d1 * d2))) (pos Q *ℤ pos (p * (d1 * d2))) t d u all v in
    let some : 0 < W * M * N = subst (λ k. 0 < W * M * k) (sym same) (product_some (W * M) M (product_some W M w m) m) in
    cancel_z Q (pos q *ℤ S) (pos (p * (d1 * d2))) some l
  where
    chained : (x y z : ℤ) (i j : ℕ) (o : ℤ) → y ≡ x → y ≤ℤ z → z ≡ pos i → i ≤ j → o ≡ pos j → x ≤ℤ o
    chained x y z i j o a b c d e = omega (arith, ints)
