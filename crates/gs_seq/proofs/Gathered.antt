-- Rows from the sums of one member of a class: what they hold for a class, and that their classes ascend.
use Rattle.std.proofs.Common.{◌⊎◌, ⊎_elim, ◌≡◌, ℕ, ℤ, pos, ◌+◌, ◌-◌, ◌*◌, ◌<◌, ◌≤◌, Bool, true, false, cond, List, [], ◌∷◌, ◌++◌, length, length-take, get_or}
use Rattle.std.proofs.{Common.{set, take, reverse, refl, sym, ap, ◌∙◌, arith, sum_by, FitsSigned, ◌^◌}, Math.IntN.{*ℤ-zero}}
use Rattle.std.proofs.{lemmas.Bool.{cases_eq}, lemmas.Bool.Decides.{Decides-eqb}, lemmas.Cmp.{ranked}, Math.Nat.{mul-le-mul_left, mul-le-mul_right}}
use Rattle.std.proofs.{Math.Seq.{set-append_seam}, lemmas.Int.{ints, unsigned_abs-mul}}
use Rattle.std.proofs.{lemmas.List.{length-reverse, reverse-append, reverse-reverse, take_more}, lemmas.List.Sums.{sum_by-cons, sum_by_more_le}}
use Rattle.std.specs.{Prelude.{◌==◌, ◌+ℤ◌, ◌*ℤ◌, unsigned_abs}, Ordering.{nat_cmp, ordering_then, int_cmp}, declared.cmp.Ordering.{Ordering}}
use Rattle.std.specs.{declared.cmp.Ordering.TheVariants.{Less, Equal, Greater}, Int.{w8}}
use Rattle.gs_lossless.specs.{Sums.{key_cmp}, declared.parts.Part.{Part}}
use Rattle.gs_lossless.proofs.Merge.{front_last}
use Rattle.gs_model.specs.Sums.{sum_z}
use borrow.Author.Differences.{product_is}
use Rattle.gs_model.proofs.{Total.{mul-add_right, mul_assoc_z}, Basics.{not_eq}}
use Rattle.gs_seq.specs.{Rows.{gathered, join, pair_of, signed_in, together, weight_in}, declared.pair.Pair.{Pair}}

-- what parts hold for a class
abbrev pub part_weight : List Part → ℕ → ℕ
part_weight ps e = sum_by (λ (p : Part). cond (p.class == e) p.weight 0) ps

abbrev pub part_signed : List Part → ℕ → ℤ
part_signed ps e = sum_z (λ (p : Part). cond (p.class == e) (pos p.weight *ℤ p.outcome) (pos 0)) ps

-- a function of pairs that adds up where two are joined
joined_sum : (v : Pair → ℕ) (p : Pair) (row : List Pair) → ((q : Pair) → q.two ≡ p.two → v (together q p) ≡ v p + v q)
    → sum_by v (join p row) ≡ v p + sum_by v row
joined_sum v p [] h = sum_by-cons v p []
joined_sum v p (q ∷ qs) h = by (q.two == p.two) refl
  where
    by : (b : Bool) → (q.two == p.two) ≡ b → sum_by v (cond b (together q p ∷ qs) (p ∷ q ∷ qs)) ≡ v p + sum_by v (q ∷ qs)
    by true e = omega (arith, sum_by-cons v (together q p) qs, sum_by-cons v q qs, h q ((Decides-eqb q.two p.two).0 e))
    by false e = sum_by-cons v p (q ∷ qs)

joined_sum_z : (v : Pair → ℤ) (p : Pair) (row : List Pair) → ((q : Pair) → q.two ≡ p.two → v (together q p) ≡ v p +ℤ v q)
    → sum_z v (join p row) ≡ v p +ℤ sum_z v row
joined_sum_z v p [] h = refl
joined_sum_z v p (q ∷ qs) h = by (q.two == p.two) refl
  where
    by : (b : Bool) → (q.two == p.two) ≡ b → sum_z v (cond b (together q p ∷ qs) (p ∷ q ∷ qs)) ≡ v p +ℤ sum_z v (q ∷ qs)
    by true e = let a = h q ((Decides-eqb q.two p.two).0 e) in omega (arith, ints)
    by false e = refl

add_in : (b : Bool) (m n : ℕ) → cond b (m + n) 0 ≡ cond b n 0 + cond b m 0
add_in true m n = omega arith
add_in false m n = refl

out_of : (b : Bool) (m n : ℕ) → cond b (m * n) 0 ≡ m * cond b n 0
out_of true m n = refl
out_of false m n = omega arith

-- the weight for a class
pub gathered-weight : (m : ℕ) (ps : List Part) (e : ℕ) → weight_in (gathered m ps) e ≡ m * part_weight ps e
gathered-weight m [] e = omega arith
gathered-weight m (p ∷ ps) e =
    let v : Pair → ℕ = λ q. cond (q.two == e) q.weight 0 in
    let w : Part → ℕ = λ p. cond (p.class == e) p.weight 0 in
    let here : weight_in (gathered m (p ∷ ps)) e ≡ v (pair_of m p) + weight_in (gathered m ps) e =
    joined_sum v (pair_of m p) (gathered m ps) (λ q k. add_in (q.two == e) q.weight (m * p.weight) ∙ ap (λ t. cond (t == e) (m * p.weight) 0 + v q) k) in
    let parts : part_weight (p ∷ ps) e ≡ w p + part_weight ps e = sum_by-cons w p ps in
    let out : v (pair_of m p) ≡ m * w p = out_of (p.class == e) m p.weight in
    omega (arith, here, gathered-weight m ps e, ap (λ k. m * k) parts, out)

add_z : (b : Bool) (x y : ℤ) → cond b (x +ℤ y) (pos 0) ≡ cond b y (pos 0) +ℤ cond b x (pos 0)
add_z true x y = omega (arith, ints)
add_z false x y = refl

out_z : (b : Bool) (m n : ℕ) (o : ℤ) → cond b (pos (m * n) *ℤ o) (pos 0) ≡ pos m *ℤ cond b (pos n *ℤ o) (pos 0)
out_z true m n o =
    let e : pos (m * n) ≡ pos m *ℤ pos n = omega (arith, ints, product_is (pos m) (pos n)) in
    ap (λ k. k *ℤ o) e ∙ mul_assoc_z (pos m) (pos n) o
out_z false m n o = sym (*ℤ-zero (pos m))

-- the signed weight for a class
pub gathered-signed : (m : ℕ) (ps : List Part) (e : ℕ) → signed_in (gathered m ps) e ≡ pos m *ℤ part_signed ps e
gathered-signed m [] e = sym (*ℤ-zero (pos m))
gathered-signed m (p ∷ ps) e =
    let v : Pair → ℤ = λ q. cond (q.two == e) q.signed (pos 0) in
    let here = joined_sum_z v (pair_of m p) (gathered m ps) (λ q k. add_z (q.two == e) q.signed (pos (m * p.weight) *ℤ p.outcome)
    ∙ ap (λ t. cond (t == e) (pos (m * p.weight) *ℤ p.outcome) (pos 0) +ℤ v q) k) in
    here ∙ ap (λ z. z +ℤ signed_in (gathered m ps) e) (out_z (p.class == e) m p.weight p.outcome)
    ∙ ap (λ z. pos m *ℤ cond (p.class == e) (pos p.weight *ℤ p.outcome) (pos 0) +ℤ z) (gathered-signed m ps e)
    ∙ sym (mul-add_right (pos m) (cond (p.class == e) (pos p.weight *ℤ p.outcome) (pos 0)) (part_signed ps e))

-- all weight
pub gathered-total : (m : ℕ) (ps : List Part) → sum_by (λ (q : Pair). q.weight) (gathered m ps) ≡ m * sum_by (λ (p : Part). p.weight) ps
gathered-total m [] = omega arith
gathered-total m (p ∷ ps) =
    let here : sum_by (λ (q : Pair). q.weight) (gathered m (p ∷ ps)) ≡ m * p.weight + sum_by (λ (q : Pair). q.weight) (gathered m ps) =
    joined_sum (λ q. q.weight) (pair_of m p) (gathered m ps) (λ q k. omega arith) in
    let parts : sum_by (λ (p : Part). p.weight) (p ∷ ps) ≡ p.weight + sum_by (λ (p : Part). p.weight) ps = sum_by-cons (λ (p : Part). p.weight) p ps in
    omega (arith, here, gathered-total m ps, ap (λ k. m * k) parts)

-- ---- classes ascend

-- no class of the row is below the part's
abbrev pub StartsFrom : ℕ → List Pair → Type 0
StartsFrom c [] = Unit {0}
StartsFrom c (q ∷ qs) = c ≤ q.two

pub class_le : (p q : Part) → key_cmp p q ≡ Less → p.class ≤ q.class
class_le p q e = by (nat_cmp p.class q.class) refl
  where
    by : (r : Ordering) → nat_cmp p.class q.class ≡ r → p.class ≤ q.class
    by Less i = let l = ranked p.class q.class Less (sym i) in omega (arith, l)
    by Equal i = let l = ranked p.class q.class Equal (sym i) in omega (arith, l)
    by Greater i = let g = ap (λ r. ordering_then r (int_cmp p.outcome q.outcome)) i in absurd (cc)

pub head_from : (p : Pair) (row : List Pair) → StartsFrom p.two (join p row)
head_from p [] = omega arith
head_from p (q ∷ qs) = at (q.two == p.two) refl
  where
    at : (b : Bool) → (q.two == p.two) ≡ b → StartsFrom p.two (cond b (together q p ∷ qs) (p ∷ q ∷ qs))
    at true e = let k = (Decides-eqb q.two p.two).0 e in omega arith
    at false e = omega arith

-- ---- the last of a row

join_same : (p q : Pair) (qs : List Pair) → q.two ≡ p.two → join p (q ∷ qs) ≡ together q p ∷ qs
join_same p q qs e = ap (λ b. cond b (together q p ∷ qs) (p ∷ q ∷ qs)) ((Decides-eqb q.two p.two).1 e)

join_other : (p q : Pair) (qs : List Pair) → (q.two ≡ p.two → ⊥) → join p (q ∷ qs) ≡ p ∷ q ∷ qs
join_other p q qs n = ap (λ b. cond b (together q p ∷ qs) (p ∷ q ∷ qs)) (not_eq q.two p.two n)

pub join_last : (row : List Pair) (last p : Pair) → 0 < length row → last ≡ get_or row (length row - 1) last → last.two ≡ p.two
    → reverse (set row (length row - 1) (together last p)) ≡ join p (reverse row)
join_last row last p l e t =
    let n = length row - 1 in
    let front = take n row in
    let more = together last p in
    let long : length front ≡ n = omega (arith, length-take n row) in
    let whole = front_last row last l e in
    ap (λ qs. reverse (set qs n more)) whole ∙ ap (λ k. reverse (set (front ++ last ∷ []) k more)) (sym long)
    ∙ ap reverse (set-append_seam front last [] more) ∙ reverse-append front (more ∷ [])
    ∙ sym (ap (λ qs. join p (reverse qs)) whole ∙ ap (join p) (reverse-append front (last ∷ [])) ∙ join_same p last (reverse front) t)

pub join_none : (p : Pair) → reverse (p ∷ []) ≡ join p (reverse [])
join_none p = refl

pub join_next : (row : List Pair) (last p : Pair) → 0 < length row → last ≡ get_or row (length row - 1) last → (last.two ≡ p.two → ⊥)
    → reverse (row ++ p ∷ []) ≡ join p (reverse row)
join_next row last p l e t =
    let front = take (length row - 1) row in
    let back : reverse row ≡ last ∷ reverse front = ap reverse (front_last row last l e) ∙ reverse-append front (last ∷ []) in
    reverse-append row (p ∷ []) ∙ ap (λ qs. p ∷ qs) back ∙ sym (ap (join p) back ∙ join_other p last (reverse front) t)

-- ---- the row of one more part

-- a pair behind a row: the last pair takes it where both are of one class
abbrev behind : List Pair → Pair → List Pair
behind row p = reverse (join p (reverse row))

join_before : (p : Pair) (row : List Pair) (q : Pair) → 0 < length row → join p (row ++ q ∷ []) ≡ join p row ++ q ∷ []
join_before p [] q l = absurd (omega (arith, l))
join_before p (r ∷ rs) q l = by (r.two == p.two)
  where
    by : (b : Bool) → cond b (together r p ∷ rs ++ q ∷ []) (p ∷ r ∷ rs ++ q ∷ []) ≡ cond b (together r p ∷ rs) (p ∷ r ∷ rs) ++ q ∷ []
    by true = refl
    by false = refl

behind_more : (q r : Pair) (rs : List Pair) (p : Pair) → behind (q ∷ r ∷ rs) p ≡ q ∷ behind (r ∷ rs) p
behind_more q r rs p =
    let back = reverse (r ∷ rs) in
    let some : 0 < length back = omega (arith, length-reverse (r ∷ rs)) in
    ap (λ qs. reverse (join p qs)) (reverse-append (q ∷ []) (r ∷ rs)) ∙ ap reverse (join_before p back q some) ∙ reverse-append (join p back) (q ∷ [])

same_pair : (p q : Pair) → p.two ≡ q.two → p.weight ≡ q.weight → p.signed ≡ q.signed → p ≡ q
same_pair p q a b c =
    ap (λ (n : ℕ). let x : Pair = record p { two = n } in x) a
    ∙ ap (λ (n : ℕ). let x : Pair = record { two = q.two; weight = n; signed = p.signed } in x) b
    ∙ ap (λ (z : ℤ). let x : Pair = record q { signed = z } in x) c

-- one pair joins the front of a row and one the end, whichever is first
join_behind : (x p : Pair) (row : List Pair) → join x (behind row p) ≡ behind (join x row) p
join_behind x p [] = ⊎_elim same other (cases_eq p.two x.two)
  where
    same : p.two ≡ x.two → join x (p ∷ []) ≡ behind (x ∷ []) p
    same e =
        let both : together p x ≡ together x p = same_pair (together p x) (together x p) e (omega arith) (omega (arith, ints)) in
        join_same x p [] e ∙ ap (λ q. q ∷ []) both ∙ sym (ap reverse (join_same p x [] (sym e)))

    other : (p.two ≡ x.two → ⊥) → join x (p ∷ []) ≡ behind (x ∷ []) p
    other n = join_other x p [] n ∙ sym (ap reverse (join_other p x [] (λ e. n (sym e))))
join_behind x p (q ∷ []) = ⊎_elim (λ e. ⊎_elim (both e) (first e) at_end) (λ n. ⊎_elim (last n) (none n) at_end) (cases_eq q.two x.two)
  where
    at_end : (q.two ≡ p.two) ⊎ (q.two ≡ p.two → ⊥)
    at_end = cases_eq q.two p.two

    both : q.two ≡ x.two → q.two ≡ p.two → join x (behind (q ∷ []) p) ≡ behind (join x (q ∷ [])) p
    both e k =
        let all : together (together q p) x ≡ together (together q x) p =
        same_pair (together (together q p) x) (together (together q x) p) refl (omega arith) (omega (arith, ints)) in
        ap (λ r. join x (reverse r)) (join_same p q [] k) ∙ join_same x (together q p) [] e ∙ ap (λ r. r ∷ []) all
        ∙ sym (ap (λ r. behind r p) (join_same x q [] e) ∙ ap reverse (join_same p (together q x) [] k))

    first : q.two ≡ x.two → (q.two ≡ p.two → ⊥) → join x (behind (q ∷ []) p) ≡ behind (join x (q ∷ [])) p
    first e m =
        ap (λ r. join x (reverse r)) (join_other p q [] m) ∙ join_same x q (p ∷ []) e
        ∙ sym (ap (λ r. behind r p) (join_same x q [] e) ∙ ap reverse (join_other p (together q x) [] m))

    last : (q.two ≡ x.two → ⊥) → q.two ≡ p.two → join x (behind (q ∷ []) p) ≡ behind (join x (q ∷ [])) p
    last n k =
        ap (λ r. join x (reverse r)) (join_same p q [] k) ∙ join_other x (together q p) [] n
        ∙ sym (ap (λ r. behind r p) (join_other x q [] n) ∙ ap reverse (join_same p q (x ∷ []) k))

    none : (q.two ≡ x.two → ⊥) → (q.two ≡ p.two → ⊥) → join x (behind (q ∷ []) p) ≡ behind (join x (q ∷ [])) p
    none n m =
        ap (λ r. join x (reverse r)) (join_other p q [] m) ∙ join_other x q (p ∷ []) n
        ∙ sym (ap (λ r. behind r p) (join_other x q [] n) ∙ ap reverse (join_other p q (x ∷ []) m))
join_behind x p (q ∷ r ∷ rs) = ap (join x) (behind_more q r rs p) ∙ by (q.two == x.two)
  where
    by : (b : Bool) → cond b (together q x ∷ behind (r ∷ rs) p) (x ∷ q ∷ behind (r ∷ rs) p) ≡ behind (cond b (together q x ∷ r ∷ rs) (x ∷ q ∷ r ∷ rs)) p
    by true = sym (behind_more (together q x) r rs p)
    by false = sym (behind_more x q (r ∷ rs) p ∙ ap (λ qs. x ∷ qs) (behind_more q r rs p))

gathered_push : (m : ℕ) (ps : List Part) (p : Part) → gathered m (ps ++ p ∷ []) ≡ behind (gathered m ps) (pair_of m p)
gathered_push m [] p = refl
gathered_push m (x ∷ ps) p = ap (join (pair_of m x)) (gathered_push m ps p) ∙ join_behind (pair_of m x) (pair_of m p) (gathered m ps)

pub gathered_more : (m : ℕ) (sums : List Part) (i : ℕ) (d : Part) (row more : List Pair) → i < length sums → row ≡ gathered m (take i sums)
    → reverse more ≡ join (pair_of m (get_or sums i d)) (reverse row)
    → more ≡ gathered m (take (i + 1) sums)
gathered_more m sums i d row more l e j =
    let part = get_or sums i d in
    sym (reverse-reverse more) ∙ ap reverse j ∙ ap (λ qs. behind qs (pair_of m part)) e
    ∙ sym (ap (gathered m) (take_more sums i d l) ∙ gathered_push m (take i sums) part)

-- ---- sizes

pub scaled_size : (w : ℕ) (o : ℤ) → FitsSigned w8 o → unsigned_abs (pos w *ℤ o) ≤ 128 * w
scaled_size w o f =
    let e = unsigned_abs-mul (pos w) o in
    let small : unsigned_abs o ≤ 128 = omega (arith, ints, f) in
    let m = mul-le-mul_right w small in
    omega (arith, e, m)

-- the next part of one member fits beside the row so far
pub gathered_few : (m : ℕ) (sums : List Part) (i : ℕ) (d : Part) (row : List Pair) → i < length sums → row ≡ gathered m (take i sums)
    → m * sum_by (λ (p : Part). p.weight) sums < 2 ^ 32
    → sum_by (λ (q : Pair). q.weight) row + m * (get_or sums i d).weight < 2 ^ 32
gathered_few m sums i d row l e few =
    let w : Part → ℕ = λ p. p.weight in
    let v : Pair → ℕ = λ q. q.weight in
    let so_far : sum_by v row ≡ m * sum_by w (take i sums) = ap (sum_by v) e ∙ gathered-total m (take i sums) in
    let more = sum_by_more_le w sums i d l in
    let up : m * (sum_by w (take i sums) + w (get_or sums i d)) ≤ m * sum_by w sums = mul-le-mul_left m more in
    omega (arith, so_far, up, few)
