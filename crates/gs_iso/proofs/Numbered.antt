-- Numbers in order of first occurrence: equal numbers are equal keys.
use Rattle.std.proofs.Common.{◌≡◌, ◌↔◌, ℕ, zero, suc, ◌+◌, ◌-◌, ◌<◌, ◌≤◌, List, [], ◌∷◌, ◌++◌, length, get_or, refl, sym, ap, ◌∙◌, subst, arith, Bool, true}
use Rattle.std.proofs.{Common.{false, cond, true≢false, Some, Vec, Global, ⊎_elim, length-append}, lemmas.List.{get_or_read}}
use Rattle.std.proofs.{lemmas.Bool.{cases_eq}, lemmas.Slice.Eq.{slice_eq-Decides}, lemmas.Map.Keys.{IsDistinct-head, IsDistinct-tail}, lemmas.Grind.{elements}}
use Rattle.std.specs.{List.{AllByRecursion, IsDistinct, find, list_any, slice_get}, Bool.{Decides}}
use lib.Pointwise.{pointwise}
use Rattle.indexmap.specs.IndexSet.{insert_key}
use Rattle.gs_iso.specs.KeyNumbers.{IsNumberOf, StayIn, same_parts}

-- the key with number `n` is a key of item `i`
pub record HasKey {X : Type 0} (sign : ℕ → List X → Type 0) (keys : List (Vec X Global)) (i n : ℕ) : Type 0 where
  pub some : 0 < n
  pub key : Vec X Global
  pub stands : slice_get keys (n - 1) ≡ Some key
  pub signs : sign i key.items

-- each number stands for a key of its item
abbrev pub LeadToKeys : {X : Type 0} → (ℕ → List X → Type 0) → List (Vec X Global) → List ℕ → Type 0
LeadToKeys sign keys numbers = (i : ℕ) → i < length numbers → HasKey sign keys i (get_or numbers i 0)

pub at_new : (xs : List ℕ) (n : ℕ) → get_or (xs ++ n ∷ []) (length xs) 0 ≡ n
at_new xs n = grind (arith, elements)

-- a place keeps its item when another goes behind
slice_get-append : {X : Type 0} (xs ys : List X) (i : ℕ) (x : X) → slice_get xs i ≡ Some x → slice_get (xs ++ ys) i ≡ Some x
slice_get-append [] ys i x e = absurd (cc)
slice_get-append (z ∷ zs) ys zero x e = e
slice_get-append (z ∷ zs) ys (suc i) x e = slice_get-append zs ys i x e

pub slice_get-insert : {X : Type 0} (eq : X → X → Bool) (xs : List X) (k : X) (i : ℕ) (x : X) → slice_get xs i ≡ Some x
    → slice_get (insert_key eq xs k) i ≡ Some x
slice_get-insert eq xs k i x e = go (list_any (eq k) xs)
  where
    go : (b : Bool) → slice_get (cond b xs (xs ++ k ∷ [])) i ≡ Some x
    go true = e
    go false = slice_get-append xs (k ∷ []) i x e

-- keys that are told apart stand once
head_apart : {X : Type 0} (P : X → Type 0) (xs : List X) (i : ℕ) (x : X) → AllByRecursion P xs → slice_get xs i ≡ Some x → P x
head_apart P [] i x h e = absurd (cc)
head_apart P (y ∷ ys) zero x h e = let same : y ≡ x = cc in subst P same h.0
head_apart P (y ∷ ys) (suc i) x h e = head_apart P ys i x h.1 e

pub one_place : {X : Type 0} (eq : X → X → Bool) (flips : (x y : X) → eq x y ≡ true → eq y x ≡ true) (xs : List X) → IsDistinct eq xs → (i j : ℕ) (x y : X)
    → slice_get xs i ≡ Some x → slice_get xs j ≡ Some y → eq x y ≡ true → i ≡ j
one_place eq flips [] d i j x y ex ey e = absurd (cc)
one_place eq flips (z ∷ zs) d zero zero x y ex ey e = refl
one_place eq flips (z ∷ zs) d zero (suc j) x y ex ey e =
    let same : z ≡ x = cc in
    let no : eq z y ≡ false = head_apart (λ w. eq z w ≡ false) zs j y (IsDistinct-head eq z zs d) ey in
    absurd (true≢false (sym e ∙ ap (λ w. eq w y) (sym same) ∙ no))
one_place eq flips (z ∷ zs) d (suc i) zero x y ex ey e =
    let same : z ≡ y = cc in
    let no : eq z x ≡ false = head_apart (λ w. eq z w ≡ false) zs i x (IsDistinct-head eq z zs d) ex in
    absurd (true≢false (sym (flips x y e) ∙ ap (λ w. eq w x) (sym same) ∙ no))
one_place eq flips (z ∷ zs) d (suc i) (suc j) x y ex ey e = ap suc (one_place eq flips zs (IsDistinct-tail eq z zs d) i j x y ex ey e)

-- the key that a look-up finds passes its test
pub find_passes : {K : Type 0} (test : K → Bool) (keys : List K) (k : K) → find test keys ≡ Some k → test k ≡ true
find_passes test [] k e = absurd (cc)
find_passes {K} test (x ∷ xs) k e = by (test x) refl (find_passes test xs k)
  where
    by : (b : Bool) → test x ≡ b → (find test xs ≡ Some k → test k ≡ true) → test k ≡ true
    by true t rest = let found : Some x ≡ Some k = ap (λ c. cond c (Some x) (find test xs)) (sym t) ∙ e in let same : x ≡ k = cc in ap test (sym same) ∙ t
    by false t rest = rest (ap (λ c. cond c (Some x) (find test xs)) (sym t) ∙ e)

module _ {X : Type 0} (eq : X → X → Bool) (exact : (x y : X) → Decides (eq x y) (x ≡ y)) where
  items_decide : (xs ys : List X) → Decides (pointwise eq xs ys) (xs ≡ ys)
  items_decide xs ys = slice_eq-Decides {E = eq} exact xs ys (pointwise eq xs ys) refl

  -- the number of an item's list leads to its key
  pub number_leads : (sign : ℕ → List X → Type 0) (keys : List (Vec X Global)) (parts : List X) (i n : ℕ) → IsNumberOf eq keys parts n → sign i parts
      → HasKey sign keys i n
  number_leads sign keys parts i n number signs = record {
    some = number.some;
    key = number.key;
    stands = number.stands;
    signs = subst (sign i) ((items_decide parts number.key.items).0 number.same) signs;
  }

  -- two numbers are equal exactly where the keys are
  pub number_tells : (sign : ℕ → List X → Type 0) (keys : List (Vec X Global)) → IsDistinct (same_parts eq) keys → (i j m n : ℕ) (R : Type 0)
      → HasKey sign keys i m → HasKey sign keys j n → ((a b : List X) → sign i a → sign j b → (a ≡ b) ↔ R) → (m ≡ n) ↔ R
  number_tells sign keys distinct i j m n R a b law =
      let both = law a.key.items b.key.items a.signs b.signs in (
        (λ e.
            let there : slice_get keys (m - 1) ≡ Some b.key = ap (λ n. slice_get keys (n - 1)) e ∙ b.stands in
            let one : Some a.key ≡ Some b.key = sym a.stands ∙ there in
            let k : a.key ≡ b.key = cc in
            both.0 (ap (λ (v : Vec X Global). v.items) k)),
        (λ r.
            let items : a.key.items ≡ b.key.items = both.1 r in
            let same : same_parts eq a.key b.key ≡ true = (items_decide a.key.items b.key.items).1 items in
            let flips = λ (x y : Vec X Global) (e : same_parts eq x y ≡ true). (items_decide y.items x.items).1 (sym ((items_decide x.items y.items).0 e)) in
            let place : m - 1 ≡ n - 1 =
            one_place (same_parts eq) flips keys distinct (m - 1) (n - 1) a.key b.key a.stands b.stands same in
            let some_a = a.some in let some_b = b.some in
            omega arith),
      )

  -- one more item, with the number of its key
  pub leads_more : (sign : ℕ → List X → Type 0) (keys more : List (Vec X Global)) (numbers : List ℕ) (parts : List X) (n : ℕ)
      → LeadToKeys sign keys numbers → StayIn keys more → IsNumberOf eq more parts n → sign (length numbers) parts → LeadToKeys sign more (numbers ++ n ∷ [])
  leads_more sign keys more numbers parts n leads stay number signs i l = ⊎_elim
      (λ e.
      let at : get_or (numbers ++ n ∷ []) i 0 ≡ n = ap (λ j. get_or (numbers ++ n ∷ []) j 0) e ∙ at_new numbers n in
      let h : HasKey sign more i n = number_leads sign more parts i n number (subst (λ j. sign j parts) (sym e) signs) in
      subst (λ m. HasKey sign more i m) (sym at) h)
      (λ ne.
      let lt : i < length numbers = omega (arith, length-append numbers (n ∷ [])) in
      let old = leads i lt in
      let at : get_or (numbers ++ n ∷ []) i 0 ≡ get_or numbers i 0 = grind (arith, elements) in
      let h : HasKey sign more i (get_or numbers i 0) = record {
        some = old.some;
        key = old.key;
        stands =
            stay (get_or numbers i 0 - 1) old.key old.stands;
        signs = old.signs;
      } in
      subst (λ m. HasKey sign more i m) (sym at) h)
      (cases_eq i (length numbers))

  -- one more item, with the number of an earlier one that has the same keys
  pub leads_again : (sign : ℕ → List X → Type 0) (keys : List (Vec X Global)) (numbers : List ℕ) (j n : ℕ) → LeadToKeys sign keys numbers → j < length numbers
      → n ≡ get_or numbers j 0
      → ((a : List X) → sign j a → sign (length numbers) a) → LeadToKeys sign keys (numbers ++ n ∷ [])
  leads_again sign keys numbers j n leads lj is like i l = ⊎_elim
      (λ e.
      let at : get_or (numbers ++ n ∷ []) i 0 ≡ get_or numbers j 0 = ap (λ k. get_or (numbers ++ n ∷ []) k 0) e ∙ at_new numbers n ∙ is in
      let old = leads j lj in
      let h : HasKey sign keys i (get_or numbers j 0) = record {
        some = old.some;
        key = old.key;
        stands = old.stands;
        signs =
            subst (λ k. sign k old.key.items) (sym e) (like old.key.items old.signs);
      } in
      subst (λ m. HasKey sign keys i m) (sym at) h)
      (λ ne.
      let lt : i < length numbers = omega (arith, length-append numbers (n ∷ [])) in
      let at : get_or (numbers ++ n ∷ []) i 0 ≡ get_or numbers i 0 = grind (arith, elements) in
      subst (λ m. HasKey sign keys i m) (sym at) (leads i lt))
      (cases_eq i (length numbers))

  -- for items that belong together, equal numbers are equal keys
  pub numbers_are : (sign : ℕ → List X → Type 0) (keys : List (Vec X Global)) (numbers : List ℕ) → IsDistinct (same_parts eq) keys
      → LeadToKeys sign keys numbers
      → (P R : ℕ → ℕ → Type 0) → ((i j : ℕ) (a b : List X) → i < length numbers → j < length numbers → P i j → sign i a → sign j b → (a ≡ b) ↔ R i j)
      → (i j : ℕ) → i < length numbers → j < length numbers → P i j → (get_or numbers i 0 ≡ get_or numbers j 0) ↔ R i j
  numbers_are sign keys numbers distinct leads P R law i j li lj p =
      number_tells sign keys distinct i j (get_or numbers i 0) (get_or numbers j 0) (R i j) (leads i li) (leads j lj)
      (λ a b x y. law i j a b li lj p x y)

  module _ (sign : ℕ → List X → Type 0) where
    -- what a loop over items knows before one of them: the lists that were seen, and the numbers of the items before it
    pub record AreNumbered (keys : List (Vec X Global)) (numbers : List ℕ) (item : ℕ) : Type 0 where
      pub few : length keys ≤ item
      pub long : length numbers ≡ item
      pub distinct : IsDistinct (same_parts eq) keys
      pub leads : LeadToKeys sign keys numbers

    pub numbered_none : (keys : List (Vec X Global)) (numbers : List ℕ) → keys ≡ [] → numbers ≡ [] → AreNumbered keys numbers 0
    unfolding IsDistinct
    numbered_none keys numbers none empty =
        let few = ap length none in
        let long = ap length empty in
        record {
          few = omega (arith, few);
          long = long;
          distinct = subst (IsDistinct (same_parts eq)) (sym none) tt;
          leads = λ i l. absurd (omega (arith, l, long));
        }

    -- the next item has the number of its list
    pub numbered_more : (keys more : List (Vec X Global)) (numbers pushed : List ℕ) (parts : List X) (item n : ℕ) → AreNumbered keys numbers item
        → sign item parts → StayIn keys more → IsNumberOf eq more parts n
        → length more ≤ length keys + 1 → IsDistinct (same_parts eq) more → pushed ≡ numbers ++ n ∷ [] → AreNumbered more pushed (item + 1)
    numbered_more keys more numbers pushed parts item n old signs stay number few distinct e =
        let span = ap length e ∙ length-append numbers (n ∷ []) in
        record {
          few = omega (arith, old.few, few);
          long = omega (arith, span, old.long);
          distinct = distinct;
          leads = subst (LeadToKeys sign more) (sym e) (leads_more sign keys more numbers parts n old.leads stay number
              (subst (λ i. sign i parts) (sym old.long) signs));
        }

    -- the next item has the number of an earlier one, whose lists are its own too
    pub numbered_again : (keys : List (Vec X Global)) (numbers pushed : List ℕ) (item j n : ℕ) → AreNumbered keys numbers item → j < item
        → n ≡ get_or numbers j n → ((a : List X) → sign j a → sign item a)
        → pushed ≡ numbers ++ n ∷ [] → AreNumbered keys pushed (item + 1)
    numbered_again keys numbers pushed item j n old before is like e =
        let span = ap length e ∙ length-append numbers (n ∷ []) in
        let lj : j < length numbers = omega (arith, before, old.long) in
        record {
          few = omega (arith, old.few);
          long = omega (arith, span, old.long);
          distinct = old.distinct;
          leads = subst (LeadToKeys sign keys) (sym e) (leads_again sign keys numbers j n old.leads lj (get_or_read numbers j n lj is 0)
              (λ a h. subst (λ i. sign i a) (sym old.long) (like a h)));
        }
