-- A row has one pair for each class that its class meets.
use Rattle.std.proofs.Common.{◌≡◌, ℕ, pos, zero, suc, ◌+◌, ◌-◌, ◌<◌, ◌≤◌, Bool, true, false, cond, List, [], ◌∷◌, length, get_or, refl, sym, ap, ◌∙◌, subst}
use Rattle.std.proofs.{Common.{arith, sum_by, count_by, eqb, nat_lt, Vec}, lemmas.List.Sums.{sum_by-cons}}
use Rattle.std.proofs.{lemmas.Bool.{lt-ltb}, lemmas.Bool.Decides.{Decides-eqb}, lemmas.Int.{ints}, lemmas.List.Elements.{recursion_from_All}}
use Rattle.std.specs.{Prelude.{◌==◌, ◌&&◌, ◌||◌, ◌*ℤ◌, All}, List.{AllByRecursion, list_any, range_with_len}, declared.alloc.Global.{Global}}
use borrow.Author.Differences.{product_is}
use Rattle.gs_model.specs.{Classes.{ClassLists, IsClass, IsClasses, class_count, class_of, classes_in}, Deals.{Deal}, Frame.{Frame, at_round, last_round}}
use Rattle.gs_model.proofs.{Known.{Tabled}, RawBound.{range_once}, Regroup.{sum_z-pos}, Total.{sum_z-same}, Basics.{pos-injective, sum-same, not_eq}}
use Rattle.gs_seq.specs.{Cells.{meets, pair_count, pair_weight}, Rows.{AreRowsIn, IsRow, Rises, weight_in}, declared.pair.Pair.{Pair}}
use Rattle.gs_seq.proofs.RowFacts.{row_class, sum-add}

-- ---- deals that count

one_more : (b t : Bool) (v n : ℕ) → 0 < v → t ≡ nat_lt 0 n → (b || t) ≡ nat_lt 0 (cond b v 0 + n)
one_more true t v n l e = sym (lt-ltb 0 (v + n) (omega arith))
one_more false t v n l e = e ∙ ap (nat_lt 0) (let k : n ≡ 0 + n = omega arith in k)

-- some item passes where those that pass weigh something
some_weighs : {X : Type 0} (w : X → ℕ) (p : X → Bool) (xs : List X) → AllByRecursion (λ x. 0 < w x) xs
    → list_any p xs ≡ nat_lt 0 (sum_by (λ x. cond (p x) (w x) 0) xs)
some_weighs w p [] h = refl
some_weighs w p (x ∷ xs) h =
    one_more (p x) (list_any p xs) (w x) (sum_by (λ x. cond (p x) (w x) 0) xs) h.0 (some_weighs w p xs h.1)
    ∙ ap (nat_lt 0) (sym (sum_by-cons (λ x. cond (p x) (w x) 0) x xs))

one_term : (a b : Bool) (w : ℕ) → cond b (cond a (pos w *ℤ pos 1) (pos 0)) (pos 0) ≡ pos (cond (a && b) w 0)
one_term true true w = omega (arith, ints, product_is (pos w) (pos 1))
one_term true false w = refl
one_term false true w = refl
one_term false false w = refl

-- ---- rows

rest : (p : Pair) (ps : List Pair) → Rises (p ∷ ps) → Rises ps
rest p ps r = record { ascends = λ i j d l m. r.ascends (suc i) (suc j) d (omega arith) (omega arith); some = λ i d l. r.some (suc i) d (omega arith) }

-- classes above one that it does not have
pub none_in : (row : List Pair) (e : ℕ) → ((k : ℕ) (d : Pair) → k < length row → e < (get_or row k d).two) → weight_in row e ≡ 0
none_in [] e h = refl
none_in (p ∷ ps) e h =
    let v : Pair → ℕ = λ q. cond (q.two == e) q.weight 0 in
    let above : e < p.two = h zero p (omega arith) in
    let test : (p.two == e) ≡ false = not_eq p.two e (λ k. omega (arith, k, above)) in
    let here : v p ≡ 0 = ap (λ b. cond {A = ℕ} b p.weight 0) test in
    omega (arith, sum_by-cons v p ps, here, none_in ps e (λ k d l. h (suc k) d (omega arith)))

turn : (b : Bool) (w v : ℕ) → 0 < w → (b ≡ true → v ≡ 0) → cond {A = ℕ} (nat_lt 0 (cond b w 0 + v)) 1 0 ≡ cond {A = ℕ} b 1 0 + cond {A = ℕ} (nat_lt 0 v) 1 0
turn true w v l z =
    let more : nat_lt 0 (w + v) ≡ true = lt-ltb 0 (w + v) (omega arith) in
    let none : nat_lt 0 v ≡ false = ap (nat_lt 0) (z refl) in
    ap (λ b. cond {A = ℕ} b 1 0) more ∙ sym (ap (λ b. 1 + cond {A = ℕ} b 1 0) none)
turn false w v l z =
    let same : 0 + v ≡ v = omega arith in
    let put : cond {A = ℕ} (nat_lt 0 (0 + v)) 1 0 ≡ cond {A = ℕ} (nat_lt 0 v) 1 0 = ap (λ k. cond {A = ℕ} (nat_lt 0 k) 1 0) same in
    omega (arith, put)

no_weight : (xs : List ℕ) → count_by (λ (e : ℕ). nat_lt 0 (weight_in [] e)) xs ≡ 0
no_weight [] = refl
no_weight (x ∷ xs) = omega (arith, sum_by-cons (λ (e : ℕ). cond {A = ℕ} (nat_lt 0 (weight_in [] e)) 1 0) x xs, no_weight xs)

-- as many classes weigh something in a row as it has pairs
counted : (row : List Pair) (n : ℕ) → Rises row → ((k : ℕ) (d : Pair) → k < length row → (0 < (get_or row k d).two) × ((get_or row k d).two ≤ n))
    → count_by (λ e. nat_lt 0 (weight_in row e)) (range_with_len 1 n) ≡ length row
counted [] n r h = no_weight (range_with_len 1 n)
counted (p ∷ ps) n r h =
    let v : Pair → ℕ → ℕ = λ q e. cond (q.two == e) q.weight 0 in
    let own : ℕ → ℕ = λ e. cond (eqb p.two e) 1 0 in
    let others : ℕ → ℕ = λ e. cond (nat_lt 0 (weight_in ps e)) 1 0 in
    let heavy : 0 < p.weight = r.some zero p (omega arith) in
    let bounds = h zero p (omega arith) in
    let low : (e : ℕ) → (p.two == e) ≡ true → weight_in ps e ≡ 0 = λ e t.
    let same : p.two ≡ e = (Decides-eqb p.two e).0 t in
    none_in ps e (λ k d l. (let up = r.ascends zero (suc k) d (omega arith) (omega arith) in omega (arith, up, same))) in
    let each : (e : ℕ) → cond {A = ℕ} (nat_lt 0 (weight_in (p ∷ ps) e)) 1 0 ≡ own e + others e = λ e.
    ap (λ k. cond {A = ℕ} (nat_lt 0 k) 1 0) (sum_by-cons (λ q. v q e) p ps) ∙ turn (p.two == e) p.weight (weight_in ps e) heavy (low e) in
    let once : sum_by own (range_with_len 1 n) ≡ 1 = range_once p.two 1 n (omega (arith, bounds.0)) (omega (arith, bounds.1)) in
    let more : sum_by others (range_with_len 1 n) ≡ length ps = counted ps n (rest p ps r) (λ k d l. h (suc k) d (omega arith)) in
    let split : sum_by (λ e. cond {A = ℕ} (nat_lt 0 (weight_in (p ∷ ps) e)) 1 0) (range_with_len 1 n)
    ≡ sum_by own (range_with_len 1 n) + sum_by others (range_with_len 1 n) =
    sum-same (λ e. cond {A = ℕ} (nat_lt 0 (weight_in (p ∷ ps) e)) 1 0) (λ e. own e + others e) each (range_with_len 1 n)
    ∙ sum-add own others (range_with_len 1 n) in
    omega (arith, split, once, more)

-- a pair of classes weighs something where some deal has it
pub meets_at : (f : Frame) (lists : ClassLists) → All (λ (d : Deal). 0 < d.weight) f.deals → (round c e : ℕ) (row : List Pair) → IsRow f lists round c row
    → meets f lists round c e ≡ nat_lt 0 (weight_in row e)
meets_at f lists w round c e row r =
    let p : Deal → Bool = λ d. (class_of lists round (at_round f round d.one) == c) && (class_of lists round (at_round f round d.two) == e) in
    let sum : pair_weight f lists round c e ≡ pos (sum_by (λ d. cond (p d) d.weight 0) f.deals) =
    sum_z-same (λ (d : Deal). cond (class_of lists round (at_round f round d.two) == e)
    (cond (class_of lists round (at_round f round d.one) == c) (pos d.weight *ℤ pos 1) (pos 0)) (pos 0)) (λ d. pos (cond (p d) d.weight 0))
    (λ d. one_term (class_of lists round (at_round f round d.one) == c) (class_of lists round (at_round f round d.two) == e) d.weight) f.deals
    ∙ sum_z-pos (λ (d : Deal). cond (p d) d.weight 0) f.deals in
    let same = pos-injective (weight_in row e) (sum_by (λ d. cond (p d) d.weight 0) f.deals) (r.weights e ∙ sum) in
    some_weighs (λ (d : Deal). d.weight) p f.deals (recursion_from_All (λ (d : Deal). 0 < d.weight) f.deals w) ∙ ap (nat_lt 0) (sym same)

module _ (f : Frame) (t : Tabled f) (lists : ClassLists) (k : IsClasses f.parents lists) (w : All (λ (d : Deal). 0 < d.weight) f.deals) (round : ℕ) (some : 0
    < round) (top : round ≤ last_round f) where
  -- the same of these classes
  pub meets_is : (c e : ℕ) (row : List Pair) → IsRow f lists round c row → meets f lists round c e ≡ nat_lt 0 (weight_in row e)
  meets_is c e row r = meets_at f lists w round c e row r

  -- the other class of a pair is a class of the round
  pub pair_in : (c : ℕ) (row : List Pair) → IsRow f lists round c row → (i : ℕ) (d : Pair) → i < length row → IsClass lists round (get_or row i d).two
  pair_in = row_class f t lists k round some top

  -- as many pairs as classes that the class meets
  pub row_long : (c : ℕ) (row : List Pair) → IsRow f lists round c row → length row ≡ count_by (λ e. meets f lists round c e) (classes_in lists round)
  row_long c row r =
      sym (counted row (class_count lists round) r.rises (pair_in c row r))
      ∙ sum-same (λ e. cond {A = ℕ} (nat_lt 0 (weight_in row e)) 1 0) (λ e. cond {A = ℕ} (meets f lists round c e) 1 0)
      (λ e. ap (λ b. cond {A = ℕ} b 1 0) (sym (meets_is c e row r))) (classes_in lists round)

  -- the pairs of all rows
  pub rows_long : (rows : List (Vec Pair Global)) → AreRowsIn f lists round rows → sum_by (λ (v : Vec Pair Global). v.len) rows ≡ pair_count f lists round
  rows_long rows r =
      let own : ℕ → ℕ = λ c. count_by (λ e. meets f lists round c e) (classes_in lists round) in
      by_place (λ (v : Vec Pair Global). v.len) own rows 1 (λ i d l.
      (let at : (1 + i) - 1 ≡ i = omega arith in
      let row = subst (λ j. IsRow f lists round (1 + i) (get_or rows j d).items) at (r.row (1 + i) d (omega arith, omega (arith, l, r.long))) in
      (get_or rows i d).ok.0 ∙ row_long (1 + i) (get_or rows i d).items row))
      ∙ ap (λ n. sum_by own (range_with_len 1 n)) r.long
    where
      by_place : {X : Type 0} (v : X → ℕ) (g : ℕ → ℕ) (xs : List X) (a : ℕ) → ((i : ℕ) (d : X) → i < length xs → v (get_or xs i d) ≡ g (a + i))
          → sum_by v xs ≡ sum_by g (range_with_len a (length xs))
      by_place v g [] a h = refl
      by_place v g (x ∷ xs) a h =
          let none : a + zero ≡ a = omega arith in
          let next : (i : ℕ) → a + suc i ≡ a + 1 + i = λ i. omega arith in
          let here : v x ≡ g a = h zero x (omega arith) ∙ ap g none in
          omega (
            arith,
            sum_by-cons v x xs,
            sum_by-cons g a (range_with_len (a + 1) (length xs)),
            here,
            by_place v g xs (a + 1) (λ i d l. h (suc i) d (omega arith) ∙ ap g (next i)),
          )
