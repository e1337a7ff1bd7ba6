-- Sums by class and outcome: what joining neighbours of a sorted list gives, and that sums which agree are one list.
use Rattle.std.proofs.Common.{take, set, append_assoc, ◌++◌, length-take, ◌≡◌, ℕ, ℤ, suc, ◌+◌, ◌-◌, ◌<◌, ◌≤◌, Bool, true, false, cond, List, [], ◌∷◌, length}
use Rattle.std.proofs.Common.{get_or, refl, sym, ap, ◌∙◌, subst, arith, true≢false, sum_by, IsPermutation}
use Rattle.std.proofs.lemmas.Bool.Decides.{Decides-and, Decides-eqb, Decides-int_eq, Decides-like}
use Rattle.std.proofs.{lemmas.Cmp.{int_cmp_total, int_ranked, nat_cmp_total, on_total, ranked, then_total, tied_itself}, lemmas.List.{take_all, take_more}}
use Rattle.std.proofs.{Math.Seq.{set-append_seam}, lemmas.List.Elements.{recursion_from_All}, lemmas.List.Sorted.{sum_by-IsPermutation}}
use Rattle.std.proofs.lemmas.List.Sums.{sum_by-cons, sum_by-drop_more, sum_by-take-drop}
use Rattle.std.specs.{Prelude.{◌==◌, ◌&&◌}, Bool.{Decides}, Cmp.{IsTotalOrder}, List.{AllByRecursion, All}, List.Sorted.{IsSortedBy}}
use Rattle.std.specs.{Ordering.{int_cmp, int_eq, is_lt, nat_cmp, ordering_then, ordering_reverse}, declared.cmp.Ordering.{Ordering}}
use Rattle.std.specs.declared.cmp.Ordering.TheVariants.{Less, Equal, Greater}
use Rattle.gs_lossless.specs.{Sums.{AreSumsOf, PartsRise, is_at, key_cmp, merged, put, put_last, sum_at, weight_at}, declared.parts.Part.{Part}}

total : IsTotalOrder key_cmp
total = then_total (on_total (λ (p : Part). p.class) nat_cmp_total) (on_total (λ (p : Part). p.outcome) int_cmp_total)

-- parts count for the same exactly where the test says so
pub exact : (p q : Part) → Decides (is_at p q) ((p.class ≡ q.class) × (p.outcome ≡ q.outcome))
exact p q = Decides-and _ _ (Decides-eqb p.class q.class) (Decides-int_eq p.outcome q.outcome)

both_equal : (r s : Ordering) → ordering_then r s ≡ Equal → (r ≡ Equal) × (s ≡ Equal)
both_equal Less s e = absurd (cc)
both_equal Equal s e = (refl, e)
both_equal Greater s e = absurd (cc)

-- where neither comes before the other they count for the same
tied : (p q : Part) → key_cmp p q ≡ Equal → (p.class ≡ q.class) × (p.outcome ≡ q.outcome)
tied p q e =
    let b = both_equal (nat_cmp p.class q.class) (int_cmp p.outcome q.outcome) e in
    (ranked p.class q.class Equal (sym b.0), int_ranked p.outcome q.outcome Equal (sym b.1))

tied_back : (p q : Part) → q.class ≡ p.class → q.outcome ≡ p.outcome → key_cmp p q ≡ Equal
tied_back p q f g =
    ap (λ n. ordering_then (nat_cmp p.class n) (int_cmp p.outcome q.outcome)) f
    ∙ ap (λ o. ordering_then (nat_cmp p.class p.class) (int_cmp p.outcome o)) g
    ∙ tied_itself total p

pub part_is : (p q : Part) → p.class ≡ q.class → p.outcome ≡ q.outcome → p.weight ≡ q.weight → p ≡ q
part_is p q e f g =
    let a : ℕ → Part = λ n. record { class = n; outcome = p.outcome; weight = p.weight } in
    let b : ℤ → Part = λ n. record { class = q.class; outcome = n; weight = p.weight } in
    let c : ℕ → Part = λ n. record { class = q.class; outcome = q.outcome; weight = n } in
    ap a e ∙ ap b f ∙ ap c g

-- two parts are equal exactly where the test says so
pub part_decides : (p q : Part) → Decides ((p.class == q.class) && (int_eq p.outcome q.outcome && (p.weight == q.weight))) (p ≡ q)
part_decides p q =
    Decides-like ((p.class == q.class) && (int_eq p.outcome q.outcome && (p.weight == q.weight)))
    (λ h. part_is p q h.0 h.1.0 h.1.1)
    (λ e. (ap (λ (r : Part). r.class) e, (ap (λ (r : Part). r.outcome) e, ap (λ (r : Part). r.weight) e)))
    (Decides-and _ _ (Decides-eqb p.class q.class) (Decides-and _ _ (Decides-int_eq p.outcome q.outcome) (Decides-eqb p.weight q.weight)))

-- ---- what counts for a key

own_weight : (p : Part) → weight_at p.class p.outcome p ≡ p.weight
own_weight p =
    ap (λ b. cond b (cond (p.class == p.class) p.weight 0) 0) ((Decides-int_eq p.outcome p.outcome).1 refl)
    ∙ ap (λ b. cond b p.weight 0) ((Decides-eqb p.class p.class).1 refl)

other_weight : (p q : Part) → key_cmp p q ≡ Less → weight_at p.class p.outcome q ≡ 0
other_weight p q e = by (int_eq q.outcome p.outcome) (q.class == p.class) refl refl
  where
    by : (a b : Bool) → int_eq q.outcome p.outcome ≡ a → (q.class == p.class) ≡ b → cond a (cond b q.weight 0) 0 ≡ 0
    by false b s t = refl
    by true false s t = refl
    by true true s t = let z = tied_back p q ((Decides-eqb q.class p.class).0 t) ((Decides-int_eq q.outcome p.outcome).0 s) in absurd (cc)

no_weight : (p : Part) (qs : List Part) → AllByRecursion (λ q. key_cmp p q ≡ Less) qs → sum_at qs p.class p.outcome ≡ 0
no_weight p [] h = refl
no_weight p (q ∷ qs) h = omega (arith, sum_by-cons (weight_at p.class p.outcome) q qs, other_weight p q h.0, no_weight p qs h.1)

first_weight : (p : Part) (qs : List Part) → AllByRecursion (λ q. key_cmp p q ≡ Less) qs → sum_at (p ∷ qs) p.class p.outcome ≡ p.weight
first_weight p qs h = omega (arith, sum_by-cons (weight_at p.class p.outcome) p qs, own_weight p, no_weight p qs h)

further : (p q : Part) (rs : List Part) → key_cmp p q ≡ Less → AllByRecursion (λ r. key_cmp q r ≡ Less) rs → AllByRecursion (λ r. key_cmp p r ≡ Less) rs
further p q [] e h = tt
further p q (r ∷ rs) e h = (total.trans p q r e h.0, further p q rs e h.1)

-- the first part of one list does not come before all of the other
not_before : (x y : Part) (xs ys : List Part) → PartsRise (x ∷ xs) → PartsRise (y ∷ ys) → sum_at (x ∷ xs) x.class x.outcome ≡ sum_at (y ∷ ys) x.class x.outcome
    → key_cmp x y ≡ Less → ⊥
not_before x y xs ys a b h e =
    let none = no_weight x (y ∷ ys) (e, further x y ys e b.1) in
    let own = first_weight x xs a.1 in
    omega (arith, h, own, a.0, none)

heads : (x y : Part) (xs ys : List Part) → PartsRise (x ∷ xs) → PartsRise (y ∷ ys) → ((c : ℕ) (o : ℤ) → sum_at (x ∷ xs) c o ≡ sum_at (y ∷ ys) c o) → x ≡ y
heads x y xs ys a b h = by (key_cmp x y) refl
  where
    same : (x.class ≡ y.class) × (x.outcome ≡ y.outcome) → x ≡ y
    same e = part_is x y e.0 e.1
        (sym (first_weight x xs a.1) ∙ h x.class x.outcome ∙ ap (λ c. sum_at (y ∷ ys) c x.outcome) e.0 ∙ ap (sum_at (y ∷ ys) y.class) e.1
        ∙ first_weight y ys b.1)

    by : (r : Ordering) → key_cmp x y ≡ r → x ≡ y
    by Less e = absurd (not_before x y xs ys a b (h x.class x.outcome) e)
    by Equal e = same (tied x y e)
    by Greater e = absurd (not_before y x ys xs b a (sym (h y.class y.outcome)) (total.antisymm y x ∙ ap ordering_reverse e))

-- sums that agree are one list
pub one_list : (xs ys : List Part) → PartsRise xs → PartsRise ys → ((c : ℕ) (o : ℤ) → sum_at xs c o ≡ sum_at ys c o) → xs ≡ ys
one_list [] [] a b h = refl
one_list [] (y ∷ ys) a b h = absurd (omega (arith, h y.class y.outcome, first_weight y ys b.1, b.0))
one_list (x ∷ xs) [] a b h = absurd (omega (arith, h x.class x.outcome, first_weight x xs a.1, a.0))
one_list (x ∷ xs) (y ∷ ys) a b h =
    let e = heads x y xs ys a b h in
    let rest = one_list xs ys a.2 b.2 (λ c o. omega (arith, h c o, sum_by-cons (weight_at c o) x xs, sum_by-cons (weight_at c o) y ys, ap (weight_at c o) e))
    in
    ap (λ p. p ∷ xs) e ∙ ap (λ ps. y ∷ ps) rest

-- ---- joining neighbours

add_in : (a b : Bool) (m n : ℕ) → cond a (cond b (m + n) 0) 0 ≡ cond a (cond b n 0) 0 + cond a (cond b m 0) 0
add_in true true m n = omega arith
add_in true false m n = refl
add_in false b m n = refl

put-weight : (f : Part → ℕ) (p : Part) (qs : List Part) → ((q : Part) → is_at q p ≡ true → f (record q { weight = q.weight + p.weight }) ≡ f p + f q)
    → sum_by f (put p qs) ≡ f p + sum_by f qs
put-weight f p [] h = sum_by-cons f p []
put-weight f p (q ∷ qs) h = by (is_at q p) refl
  where
    by : (b : Bool) → is_at q p ≡ b → sum_by f (cond b (record q { weight = q.weight + p.weight } ∷ qs) (p ∷ q ∷ qs)) ≡ f p + sum_by f (q ∷ qs)
    by true e = omega (arith, sum_by-cons f (record q { weight = q.weight + p.weight }) qs, sum_by-cons f q qs, h q e)
    by false e = sum_by-cons f p (q ∷ qs)

merged-weight : (f : Part → ℕ) → ((p q : Part) → is_at q p ≡ true → f (record q { weight = q.weight + p.weight }) ≡ f p + f q) → (ps : List Part)
    → sum_by f (merged ps) ≡ sum_by f ps
merged-weight f h [] = refl
merged-weight f h (p ∷ ps) = omega (arith, put-weight f p (merged ps) (h p), merged-weight f h ps, sum_by-cons f p ps)

joined : (c : ℕ) (o : ℤ) (p q : Part) → is_at q p ≡ true → weight_at c o (record q { weight = q.weight + p.weight }) ≡ weight_at c o p + weight_at c o q
joined c o p q e =
    let k = (exact q p).0 e in
    add_in (int_eq q.outcome o) (q.class == c) q.weight p.weight
    ∙ ap (λ n. cond (int_eq q.outcome o) (cond (n == c) p.weight 0) 0 + weight_at c o q) k.0
    ∙ ap (λ n. cond (int_eq n o) (cond (p.class == c) p.weight 0) 0 + weight_at c o q) k.1

pub merged-sum : (c : ℕ) (o : ℤ) (ps : List Part) → sum_at (merged ps) c o ≡ sum_at ps c o
merged-sum c o ps = merged-weight (weight_at c o) (joined c o) ps

pub merged-total : (ps : List Part) → sum_by (λ p. p.weight) (merged ps) ≡ sum_by (λ p. p.weight) ps
merged-total ps = merged-weight (λ p. p.weight) (λ p q e. omega arith) ps

-- ---- joined neighbours of a sorted list rise

abbrev IsSortedList : List Part → Type 0
IsSortedList [] = Unit {0}
IsSortedList (p ∷ []) = Unit {0}
IsSortedList (p ∷ q ∷ ps) = (is_lt (key_cmp q p) ≡ false) × IsSortedList (q ∷ ps)

-- the first part counts for what p does
abbrev IsHead : Part → List Part → Type 0
IsHead p [] = Unit {0}
IsHead p (q ∷ qs) = (q.class ≡ p.class) × (q.outcome ≡ p.outcome)

-- the first part does not come before p
abbrev IsNotBelow : Part → List Part → Type 0
IsNotBelow p [] = Unit {0}
IsNotBelow p (q ∷ qs) = is_lt (key_cmp q p) ≡ false

head_put : (p : Part) (qs : List Part) → IsHead p (put p qs)
head_put p [] = (refl, refl)
head_put p (q ∷ qs) = by (is_at q p) refl
  where
    by : (b : Bool) → is_at q p ≡ b → IsHead p (cond b (record q { weight = q.weight + p.weight } ∷ qs) (p ∷ q ∷ qs))
    by true e = (exact q p).0 e
    by false e = (refl, refl)

head_below : (p first : Part) (qs : List Part) → IsHead first qs → is_lt (key_cmp first p) ≡ false → IsNotBelow p qs
head_below p first [] h l = tt
head_below p first (q ∷ qs) h l =
    ap (λ n. is_lt (ordering_then (nat_cmp n p.class) (int_cmp q.outcome p.outcome))) h.0
    ∙ ap (λ n. is_lt (ordering_then (nat_cmp first.class p.class) (int_cmp n p.outcome))) h.1
    ∙ l

rises_put : (p : Part) (qs : List Part) → 0 < p.weight → PartsRise qs → IsNotBelow p qs → PartsRise (put p qs)
rises_put p [] w a l = (w, tt, tt)
rises_put p (q ∷ qs) w a l = by (is_at q p) refl
  where
    before : (r : Ordering) → is_at q p ≡ false → key_cmp p q ≡ r → key_cmp p q ≡ Less
    before Less n e = e
    before Equal n e = let k = tied p q e in absurd (true≢false (sym ((exact q p).1 (sym k.0, sym k.1)) ∙ n))
    before Greater n e = absurd (true≢false (ap is_lt (sym (ap ordering_reverse e)) ∙ ap is_lt (sym (total.antisymm q p)) ∙ l))

    by : (b : Bool) → is_at q p ≡ b → PartsRise (cond b (record q { weight = q.weight + p.weight } ∷ qs) (p ∷ q ∷ qs))
    by true e = (omega arith, a.1, a.2)
    by false e = let f = before (key_cmp p q) e refl in (w, (f, further p q qs f a.1), a)

rises_merged : (ps : List Part) → IsSortedList ps → AllByRecursion (λ p. 0 < p.weight) ps → PartsRise (merged ps)
rises_merged [] s w = tt
rises_merged (p ∷ []) s w = (w.0, tt, tt)
rises_merged (p ∷ q ∷ ps) s w = rises_put p (merged (q ∷ ps)) w.0 (rises_merged (q ∷ ps) s.1 w.1)
    (head_below p q (merged (q ∷ ps)) (head_put q (merged ps)) s.0)

-- the order by which parts are sorted, weights last
abbrev pub part_lt : Part → Part → Bool
part_lt p q = is_lt (ordering_then (nat_cmp p.class q.class) (ordering_then (int_cmp p.outcome q.outcome) (nat_cmp p.weight q.weight)))

by_key : (a b c : Ordering) → is_lt (ordering_then a (ordering_then b c)) ≡ false → is_lt (ordering_then a b) ≡ false
by_key Less b c e = e
by_key Greater b c e = e
by_key Equal Less c e = e
by_key Equal Equal c e = refl
by_key Equal Greater c e = e

sorted_list : (ps : List Part) → IsSortedBy part_lt ps → IsSortedList ps
sorted_list [] s = tt
sorted_list (p ∷ []) s = tt
sorted_list (p ∷ q ∷ ps) s = (
  by_key (nat_cmp q.class p.class) (int_cmp q.outcome p.outcome) (nat_cmp q.weight p.weight) (s 0 p (omega arith) (omega arith)),
  sorted_list (q ∷ ps) (λ k d l m.
      let e : suc k + 1 ≡ suc (k + 1) = omega arith in
      subst (λ j. part_lt (get_or (p ∷ q ∷ ps) j d) (get_or (p ∷ q ∷ ps) (suc k) d) ≡ false) e (s (suc k) d (omega arith) (omega arith))),
)

pub sums_from : (parts sorted : List Part) → IsPermutation parts sorted → IsSortedBy part_lt sorted → All (λ p. 0 < p.weight) sorted
    → AreSumsOf parts (merged sorted)
sums_from parts sorted m s w = record {
  rises = rises_merged sorted (sorted_list sorted s) (recursion_from_All (λ p. 0 < p.weight) sorted w);
  sum = λ c o. merged-sum c o sorted ∙ sum_by-IsPermutation (weight_at c o) parts sorted m;
}

-- ---- parts taken in turn

-- a sum with a part of its key
abbrev with_part : Part → Part → Part
with_part q p = record q { weight = q.weight + p.weight }

pub not_at : (p q : Part) → ((p.class ≡ q.class) × (p.outcome ≡ q.outcome) → ⊥) → is_at p q ≡ false
not_at p q apart = by (is_at p q) refl
  where
    by : (b : Bool) → is_at p q ≡ b → b ≡ false
    by true e = absurd (apart ((exact p q).0 e))
    by false e = refl

at_turned : (p q : Part) → is_at p q ≡ is_at q p
at_turned p q = by (is_at p q) (is_at q p) refl refl
  where
    by : (a b : Bool) → is_at p q ≡ a → is_at q p ≡ b → a ≡ b
    by true true s t = refl
    by true false s t = let k = (exact p q).0 s in absurd (true≢false (sym ((exact q p).1 (sym k.0, sym k.1)) ∙ t))
    by false true s t = let k = (exact q p).0 t in absurd (true≢false (sym ((exact p q).1 (sym k.0, sym k.1)) ∙ s))
    by false false s t = refl

two_parts : (x p : Part) → cond (is_at p x) (with_part p x ∷ []) (x ∷ p ∷ []) ≡ cond (is_at x p) (with_part x p ∷ []) (x ∷ p ∷ [])
two_parts x p = by (is_at x p) refl
  where
    by : (b : Bool) → is_at x p ≡ b → cond (is_at p x) (with_part p x ∷ []) (x ∷ p ∷ []) ≡ cond b (with_part x p ∷ []) (x ∷ p ∷ [])
    by true e =
        let k = (exact x p).0 e in
        ap (λ b. cond b (with_part p x ∷ []) (x ∷ p ∷ [])) (at_turned p x ∙ e)
        ∙ ap (λ q. q ∷ []) (part_is (with_part p x) (with_part x p) (sym k.0) (sym k.1) (omega arith))
    by false e = ap (λ b. cond b (with_part p x ∷ []) (x ∷ p ∷ [])) (at_turned p x ∙ e)

-- a part before others and one behind them can be put in any order
puts_commute : (x p : Part) (qs : List Part) → put x (put_last p qs) ≡ put_last p (put x qs)
puts_commute x p [] = two_parts x p
puts_commute x p (q ∷ []) = by (is_at q p) (is_at q x) refl refl
  where
    by : (a b : Bool) → is_at q p ≡ a → is_at q x ≡ b
        → put x (cond a (with_part q p ∷ []) (q ∷ p ∷ [])) ≡ put_last p (cond b (with_part q x ∷ []) (x ∷ q ∷ []))
    by true true s t =
        ap (λ b. cond b (with_part (with_part q p) x ∷ []) (x ∷ with_part q p ∷ [])) t
        ∙ ap (λ n. record q { weight = n } ∷ []) (omega arith)
        ∙ sym (ap (λ b. cond b (with_part (with_part q x) p ∷ []) (with_part q x ∷ p ∷ [])) s)
    by true false s t =
        ap (λ b. cond b (with_part (with_part q p) x ∷ []) (x ∷ with_part q p ∷ [])) t
        ∙ sym (ap (λ b. x ∷ cond b (with_part q p ∷ []) (q ∷ p ∷ [])) s)
    by false true s t =
        ap (λ b. cond b (with_part q x ∷ p ∷ []) (x ∷ q ∷ p ∷ [])) t
        ∙ sym (ap (λ b. cond b (with_part (with_part q x) p ∷ []) (with_part q x ∷ p ∷ [])) s)
    by false false s t =
        ap (λ b. cond b (with_part q x ∷ p ∷ []) (x ∷ q ∷ p ∷ [])) t
        ∙ sym (ap (λ b. x ∷ cond b (with_part q p ∷ []) (q ∷ p ∷ [])) s)
puts_commute x p (q ∷ r ∷ rs) = by (is_at q x)
  where
    by : (b : Bool) → cond b (with_part q x ∷ put_last p (r ∷ rs)) (x ∷ q ∷ put_last p (r ∷ rs)) ≡ put_last p (cond b (with_part q x ∷ r ∷ rs) (x ∷ q ∷ r ∷ rs))
    by true = refl
    by false = refl

-- one part more
merged_behind : (xs : List Part) (p : Part) → merged (xs ++ p ∷ []) ≡ put_last p (merged xs)
merged_behind [] p = refl
merged_behind (x ∷ xs) p = ap (put x) (merged_behind xs p) ∙ puts_commute x p (merged xs)

pub merge_more : (sorted sums next : List Part) (at : ℕ) (d : Part) → at < length sorted → sums ≡ merged (take at sorted)
    → next ≡ put_last (get_or sorted at d) sums → next ≡ merged (take (at + 1) sorted)
merge_more sorted sums next at d l j n =
    n ∙ ap (put_last (get_or sorted at d)) j
    ∙ sym (ap merged (take_more sorted at d l) ∙ merged_behind (take at sorted) (get_or sorted at d))

-- the next part fits beside what was added up
pub fits_more : (parts sorted sums : List Part) (at : ℕ) (d : Part) → IsPermutation parts sorted → at < length sorted → sums ≡ merged (take at sorted)
    → sum_by (λ (p : Part). p.weight) sums + (get_or sorted at d).weight ≤ sum_by (λ (p : Part). p.weight) parts
fits_more parts sorted sums at d m l j =
    let w : Part → ℕ = λ p. p.weight in
    let a : sum_by w sums ≡ sum_by w (take at sorted) = ap (sum_by w) j ∙ merged-total (take at sorted) in
    let t = sum_by-IsPermutation w parts sorted m in
    let more = sum_by-drop_more w sorted at d l in
    let whole = sum_by-take-drop w sorted at in
    omega (arith, a, t, more, whole)

-- ---- the last of a list

before_cond : (y : Part) (b : Bool) (one other : List Part) → y ∷ cond b one other ≡ cond b (y ∷ one) (y ∷ other)
before_cond y true one other = refl
before_cond y false one other = refl

last_put : (ys : List Part) (last p : Part)
    → put_last p (ys ++ last ∷ []) ≡ cond (is_at last p) (ys ++ with_part last p ∷ []) (ys ++ last ∷ p ∷ [])
last_put [] last p = refl
last_put (y ∷ []) last p = before_cond y (is_at last p) (with_part last p ∷ []) (last ∷ p ∷ [])
last_put (y ∷ z ∷ zs) last p =
    ap (λ qs. y ∷ qs) (last_put (z ∷ zs) last p)
    ∙ before_cond y (is_at last p) (z ∷ zs ++ with_part last p ∷ []) (z ∷ zs ++ last ∷ p ∷ [])

pub front_last : {X : Type 0} (xs : List X) (last : X) → 0 < length xs → last ≡ get_or xs (length xs - 1) last
    → xs ≡ take (length xs - 1) xs ++ last ∷ []
front_last xs last l e =
    sym (take_all (length xs - 1 + 1) xs (omega arith)) ∙ take_more xs (length xs - 1) last (omega arith)
    ∙ ap (λ q. take (length xs - 1) xs ++ q ∷ []) (sym e)

pub join_last : (xs : List Part) (last p : Part) → 0 < length xs → last ≡ get_or xs (length xs - 1) last → is_at last p ≡ true
    → set xs (length xs - 1) (record last { weight = last.weight + p.weight }) ≡ put_last p xs
join_last xs last p l e t =
    let n = length xs - 1 in
    let front = take n xs in
    let v = with_part last p in
    let s : length front ≡ n = omega (arith, length-take n xs) in
    let whole = front_last xs last l e in
    ap (λ ys. set ys n v) whole ∙ ap (λ k. set (front ++ last ∷ []) k v) (sym s) ∙ set-append_seam front last [] v
    ∙ sym (ap (put_last p) whole ∙ last_put front last p ∙ ap (λ b. cond b (front ++ v ∷ []) (front ++ last ∷ p ∷ [])) t)

pub push_last : (xs : List Part) (last p : Part) → 0 < length xs → last ≡ get_or xs (length xs - 1) last → is_at last p ≡ false
    → xs ++ p ∷ [] ≡ put_last p xs
push_last xs last p l e t =
    let front = take (length xs - 1) xs in
    let whole = front_last xs last l e in
    ap (λ ys. ys ++ p ∷ []) whole ∙ append_assoc front (last ∷ []) (p ∷ [])
    ∙ sym (ap (put_last p) whole ∙ last_put front last p ∙ ap (λ b. cond b (front ++ with_part last p ∷ []) (front ++ last ∷ p ∷ [])) t)
