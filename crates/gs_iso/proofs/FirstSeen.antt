-- Classes by first sight of a key are the classes of equal keys.
use Rattle.std.proofs.Common.{◌≡◌, ◌↔◌, ℕ, ◌+◌, ◌-◌, ◌<◌, ◌≤◌, List, [], ◌∷◌, ◌++◌, length, get_or, refl, sym, ap, ◌∙◌, subst, arith, Bool, true, false, cond}
use Rattle.std.proofs.{Common.{max, Some, ⊎_elim, length-append}, lemmas.Bool.{cases_eq}, lemmas.Option.{slice_get_within}, lemmas.Grind.{elements}}
use Rattle.std.specs.{Bool.{Decides}, List.{IsDistinct, slice_get, list_any}}
use Rattle.indexmap.specs.IndexSet.{insert_key}
use Rattle.gs_model.specs.Numbering.{IsClassesOf, greatest}
use Rattle.gs_model.proofs.{Numbered.{greatest_push}, Push.{classes_push}}
use Rattle.gs_iso.specs.KeyNumbers.{HasClassOf}
use Rattle.gs_iso.proofs.Numbered.{one_place, slice_get-insert, at_new}

at_old : (xs : List ℕ) (n i : ℕ) → i < length xs → get_or (xs ++ n ∷ []) i 0 ≡ get_or xs i 0
at_old xs n i l = grind (arith, elements)

slice_get-last : {X : Type 0} (xs : List X) (x : X) → slice_get (xs ++ x ∷ []) (length xs) ≡ Some x
slice_get-last [] x = refl
slice_get-last (y ∷ ys) x = slice_get-last ys x

-- classes of a relation are classes of one that says the same
pub classes_like : (R S : ℕ → ℕ → Type 0) (xs : List ℕ) → ((i j : ℕ) → i < length xs → j < length xs → R i j ↔ S i j) → IsClassesOf R xs → IsClassesOf S xs
classes_like R S xs both h = record {
  numbered = h.numbered;
  same = λ i j li lj.
      let a = h.same i j li lj in
      let b = both i j li lj in
      (λ e. b.0 (a.0 e), λ s. a.1 (b.1 s));
}

module _ {K : Type 0} (eq : K → K → Bool) (exact : (x y : K) → Decides (eq x y) (x ≡ y)) (key : ℕ → K) where
  -- the keys that were seen, and the classes of the items so far
  pub record AreFirstSeen (keys : List K) (classes : List ℕ) : Type 0 where
    pub distinct : IsDistinct eq keys
    pub top : greatest classes ≡ length keys
    pub some : (i : ℕ) → i < length classes → 0 < get_or classes i 0
    pub leads : (i : ℕ) → i < length classes → slice_get keys (get_or classes i 0 - 1) ≡ Some (key i)
    pub grouped : IsClassesOf (λ i j. key i ≡ key j) classes

  pub first_none : AreFirstSeen [] []
  unfolding IsDistinct
  first_none = record {
    distinct = tt;
    top = refl;
    some = λ i l. absurd (omega (arith, l));
    leads = λ i l. absurd (omega (arith, l));
    grouped = record { numbered = λ k l. absurd (omega (arith, l)); same = λ i j l m. absurd (omega (arith, l)) };
  }

  flips : (x y : K) → eq x y ≡ true → eq y x ≡ true
  flips x y e = (exact y x).1 (sym ((exact x y).0 e))

  -- one more item, with the class of an earlier one that has the same key
  pub first_again : (keys : List K) (classes : List ℕ) (j n : ℕ) → AreFirstSeen keys classes → j < length classes → get_or classes j 0 ≡ n
      → key j ≡ key (length classes) → AreFirstSeen keys (classes ++ n ∷ [])
  first_again keys classes j n old lj is like =
      let stands : slice_get keys (n - 1) ≡ Some (key j) = ap (λ m. slice_get keys (m - 1)) (sym is) ∙ old.leads j lj in
      let w = slice_get_within keys (n - 1) (key j) stands in
      let some : 0 < n = omega (arith, old.some j lj, is) in
      let t = old.top in
      let span = length-append classes (n ∷ []) in
      record {
        distinct = old.distinct;
        top = (let g = greatest_push classes n in omega (arith, g, w, t, some));
        some = λ i l. ⊎_elim
            (λ e. let a = ap (λ j. get_or (classes ++ n ∷ []) j 0) e ∙ at_new classes n in omega (arith, a, some))
            (λ ne. let lt : i < length classes = omega (arith, l, span, ne) in let a = at_old classes n i lt in let o = old.some i lt in omega (arith, a, o))
            (cases_eq i (length classes));
        leads = λ i l. ⊎_elim
            (λ e. let a = ap (λ j. get_or (classes ++ n ∷ []) j 0) e ∙ at_new classes n in
            ap (λ v. slice_get keys (v - 1)) a ∙ stands ∙ ap Some (like ∙ ap key (sym e)))
            (λ ne. let lt : i < length classes = omega (arith, l, span, ne) in let a = at_old classes n i lt in
            ap (λ v. slice_get keys (v - 1)) a ∙ old.leads i lt)
            (cases_eq i (length classes));
        grouped = classes_push (λ i j. key i ≡ key j) classes n (λ i. refl) (λ i j e. sym e) old.grouped some (omega (arith, t, w)) (λ i l.
            let both = old.grouped.same i j l lj in (
              (λ e. both.0 (e ∙ sym is) ∙ like),
              (λ e. both.1 (e ∙ sym like) ∙ is),
            ));
      }

  module _ (keys more : List K) (classes : List ℕ) (n : ℕ) (k : K) (old : AreFirstSeen keys classes) (distinct : IsDistinct eq more)
      (grown : more ≡ insert_key eq keys (key (length classes))) (some : 0 < n) (stands : slice_get more (n - 1) ≡ Some k) (same : eq (key (length classes)) k
      ≡ true) where
    here : slice_get more (n - 1) ≡ Some (key (length classes))
    here = stands ∙ ap Some (sym ((exact (key (length classes)) k).0 same))

    kept : (i : ℕ) → i < length classes → slice_get more (get_or classes i 0 - 1) ≡ Some (key i)
    kept i l = ap (λ ks. slice_get ks (get_or classes i 0 - 1)) grown ∙ slice_get-insert eq keys (key (length classes)) (get_or classes i 0 - 1) (key i)
        (old.leads i l)

    bound : n ≤ 1 + length keys
    bound =
        let w = slice_get_within more (n - 1) (key (length classes)) here in
        let m : length more ≤ length keys + 1 = subst (λ ks. length ks ≤ length keys + 1) (sym grown) (either (list_any (eq (key (length classes))) keys)) in
        omega (arith, w, m, some)
      where
        either : (t : Bool) → length (cond t keys (keys ++ key (length classes) ∷ [])) ≤ length keys + 1
        either true = omega arith
        either false = omega (arith, length-append keys (key (length classes) ∷ []))

    long : (b : Bool) → list_any (eq (key (length classes))) keys ≡ b → length more ≡ max (length keys) n
    long true e =
        let g : more ≡ keys = grown ∙ ap (λ t. cond t keys (keys ++ key (length classes) ∷ [])) e in
        let w = slice_get_within more (n - 1) (key (length classes)) here in
        let m = ap length g in omega (arith, m, w, some)
    long false e =
        let g : more ≡ keys ++ key (length classes) ∷ [] = grown ∙ ap (λ t. cond t keys (keys ++ key (length classes) ∷ [])) e in
        let last : slice_get more (length keys) ≡ Some (key (length classes)) =
        ap (λ ks. slice_get ks (length keys)) g ∙ slice_get-last keys (key (length classes)) in
        let at : n - 1 ≡ length keys = one_place eq flips more distinct (n - 1) (length keys) (key (length classes)) (key (length classes)) here last
        ((exact (key (length classes)) (key (length classes))).1 refl) in
        let m = ap length g ∙ length-append keys (key (length classes) ∷ []) in omega (arith, m, at, some)

    pub first_more : AreFirstSeen more (classes ++ n ∷ [])
    first_more =
        let m = long (list_any (eq (key (length classes))) keys) refl in
        let w = slice_get_within more (n - 1) (key (length classes)) here in
        let t = old.top in
        let span = length-append classes (n ∷ []) in
        record {
          distinct = distinct;
          top = (let g = greatest_push classes n in omega (arith, g, m, t));
          some = λ i l. ⊎_elim
              (λ e. let a = ap (λ j. get_or (classes ++ n ∷ []) j 0) e ∙ at_new classes n in omega (arith, a, some))
              (λ ne. let lt : i < length classes = omega (arith, l, span, ne) in let a = at_old classes n i lt in let o = old.some i lt in
              omega (arith, a, o))
              (cases_eq i (length classes));
          leads = λ i l. ⊎_elim
              (λ e. let a = ap (λ j. get_or (classes ++ n ∷ []) j 0) e ∙ at_new classes n in
              ap (λ v. slice_get more (v - 1)) a ∙ here ∙ ap (λ j. Some (key j)) (sym e))
              (λ ne. let lt : i < length classes = omega (arith, l, span, ne) in let a = at_old classes n i lt in
              ap (λ v. slice_get more (v - 1)) a ∙ kept i lt)
              (cases_eq i (length classes));
          grouped = classes_push (λ i j. key i ≡ key j) classes n (λ i. refl) (λ i j e. sym e) old.grouped some (let q = bound in
              omega (arith, t, q)) related;
        }
      where
        related : (i : ℕ) → i < length classes → (get_or classes i 0 ≡ n) ↔ (key i ≡ key (length classes))
        related i l = (
          (λ e. let one : Some (key i) ≡ Some (key (length classes)) = sym (kept i l) ∙ ap (λ v. slice_get more (v - 1)) e ∙ here in cc),
          (λ e.
              let place : get_or classes i 0 - 1 ≡ n - 1 = one_place eq flips more distinct (get_or classes i 0 - 1) (n - 1) (key i) (key (length classes))
              (kept i l) here ((exact (key i) (key (length classes))).1 e) in
              let o = old.some i l in omega (arith, place, o, some)),
        )

  -- what a loop over items knows before one of them: the keys that were seen, and the classes of the items before it
  pub record AreSeen (keys : List K) (classes : List ℕ) (item : ℕ) : Type 0 where
    pub few : length keys ≤ item
    pub long : length classes ≡ item
    pub seen : AreFirstSeen keys classes

  pub seen_none : (keys : List K) (classes : List ℕ) → keys ≡ [] → classes ≡ [] → AreSeen keys classes 0
  seen_none keys classes none empty =
      let few = ap length none in
      record {
        few = omega (arith, few);
        long = ap length empty;
        seen = subst (λ ks. AreFirstSeen ks classes) (sym none) (subst (AreFirstSeen []) (sym empty) first_none);
      }

  -- the next item has the class of an earlier one
  pub seen_again : (keys : List K) (classes pushed : List ℕ) (item n : ℕ) (k : K) → AreSeen keys classes item → key item ≡ k → HasClassOf key classes k n
      → pushed ≡ classes ++ n ∷ []
      → AreSeen keys pushed (item + 1)
  seen_again keys classes pushed item n k old is has e =
      let span = ap length e ∙ length-append classes (n ∷ []) in
      let like : key has.item ≡ key (length classes) = has.alike ∙ sym is ∙ ap key (sym old.long) in
      record {
        few = omega (arith, old.few);
        long = omega (arith, span, old.long);
        seen = subst (AreFirstSeen keys) (sym e) (first_again keys classes has.item n old.seen has.within has.is like);
      }

  -- the next item has the number of its key
  pub seen_more : (keys more : List K) (classes pushed : List ℕ) (item n : ℕ) (k : K) → AreSeen keys classes item → key item ≡ k
      → ((found : K) × (slice_get more (n - 1) ≡ Some found) × (eq k found ≡ true))
      → more ≡ insert_key eq keys k → length more ≤ length keys + 1 → IsDistinct eq more → 0 < n → pushed ≡ classes ++ n ∷ [] → AreSeen more pushed (item + 1)
  seen_more keys more classes pushed item n k old is stored grown few distinct some e =
      let span = ap length e ∙ length-append classes (n ∷ []) in
      let here : k ≡ key (length classes) = sym is ∙ ap key (sym old.long) in
      let grown' = subst (λ k. more ≡ insert_key eq keys k) here grown in
      let same = subst (λ k. eq k stored.0 ≡ true) here stored.2 in
      record {
        few = omega (arith, old.few, few);
        long = omega (arith, span, old.long);
        seen = subst (AreFirstSeen more) (sym e) (first_more keys more classes n stored.0 old.seen distinct grown' some stored.1 same);
      }
