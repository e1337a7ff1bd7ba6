-- The first items with their marks.
use Rattle.std.proofs.Common.{◌≡◌, ◌⊎◌, ◌≤◌, ◌<◌, ◌+◌, ◌∙◌, ℕ, zero, suc, List, [], ◌∷◌, get_or, length, replicate, set, refl, sym, ap, subst, below_more}
use Rattle.std.proofs.{Common.{arith, ⊎_elim, length-set}, lemmas.List.Sorted.{IsPermutation-refl, IsPermutation-sym, IsPermutation-trans}}
use Rattle.std.proofs.{lemmas.Bool.{cases_eq, cases_lt}, lemmas.List.{get_or-replicate, get_or-set_other, get_or-set_same, length-replicate}}
use Rattle.gs_model.specs.Game.{Game}
use Rattle.gs_tree.specs.Walk.{last_count}
use Rattle.gs_lossless.specs.{Alike.{AreAlike, AreStandIns, seen}, Firsts.{AreFirsts, AreAlikeMarks}}

-- what stands at a place, whatever stands past the end
pub get_or-in : (xs : List ℕ) (i x : ℕ) → x ≡ get_or xs i x → i < length xs → get_or xs i 0 ≡ x
get_or-in [] i x e l = absurd (omega arith)
get_or-in (y ∷ xs) zero x e l = sym e
get_or-in (y ∷ xs) (suc i) x e l = get_or-in xs i x e (omega arith)

-- each item that is kept has the mark that it is kept for
abbrev pub IsKept : List ℕ → List ℕ → Type 0
IsKept marks kept = (m : ℕ) → m < length kept → get_or kept m 0 < length marks → get_or marks (get_or kept m 0) 0 ≡ m

-- the marks of the first items are made first items with their marks
pub record AreMade (marks : List ℕ) (n : ℕ) (now kept : List ℕ) : Type 0 where
  pub long : length now ≡ length marks
  pub before : (i : ℕ) → i < n → get_or now i 0 ≤ i
  pub same : (i : ℕ) → i < n → get_or marks (get_or now i 0) 0 ≡ get_or marks i 0
  pub itself : (i : ℕ) → i < n → length marks ≤ get_or marks i 0 → get_or now i 0 ≡ i
  pub after : (i : ℕ) → n ≤ i → get_or now i 0 ≡ get_or marks i 0
  pub kept_long : length kept ≡ length marks
  pub each_kept : IsKept marks kept

pub none_made : (marks kept : List ℕ) (none : ℕ) → kept ≡ replicate (length marks) none → length marks ≤ none → AreMade marks 0 marks kept
none_made marks kept none e big = record {
  long = refl;
  before = λ i l. absurd (omega arith);
  same = λ i l. absurd (omega arith);
  itself = λ i l. absurd (omega arith);
  after = λ i l. refl;
  kept_long = ap (λ (k : List ℕ). length k) e ∙ length-replicate (length marks) none;
  each_kept = subst (IsKept marks) (sym e) (λ m l small. absurd (
      let in' : m < length marks = omega (arith, l, length-replicate (length marks) none) in
      let is : get_or (replicate (length marks) none) m 0 ≡ none = get_or-replicate (length marks) m none 0 in' in
      omega (arith, is, small, big)));
}

kept_one : (marks kept : List ℕ) (item mark : ℕ) → mark ≡ get_or marks item 0 → IsKept marks kept → IsKept marks (set kept mark item)
kept_one marks kept item mark is h m l = ⊎_elim
    (λ (e : m ≡ mark).
    let in' : mark < length kept = omega (arith, l, e, length-set kept mark item) in
    let at : get_or (set kept mark item) m 0 ≡ item = ap (λ (k : ℕ). get_or (set kept mark item) k 0) e ∙ get_or-set_same kept mark item 0 in' in
    λ small. ap (λ (k : ℕ). get_or marks k 0) at ∙ sym is ∙ sym e)
    (λ ne.
    let at : get_or (set kept mark item) m 0 ≡ get_or kept m 0 = get_or-set_other kept mark m item 0 ne in
    λ small. ap (λ (k : ℕ). get_or marks k 0) at ∙ h m (omega (arith, l, length-set kept mark item)) (omega (arith, small, at)))
    (cases_eq m mark)

-- one more
pub one_made : (marks : List ℕ) (n : ℕ) (now kept more : List ℕ) (mark first : ℕ) → n < length marks → AreMade marks n now kept → mark ≡ get_or now n 0
    → first ≤ n
    → (first < n → (mark < length kept) × (get_or kept mark 0 ≡ first)) → (more ≡ kept) ⊎ (more ≡ set kept mark n)
    → AreMade marks (n + 1) (set now n first) more
one_made marks n now kept more mark first l h is le earlier step =
    let at : n < length now = omega (arith, l, h.long) in
    let mark_is : mark ≡ get_or marks n 0 = is ∙ h.after n (omega arith) in
    let marked : get_or marks first 0 ≡ get_or marks n 0 = ⊎_elim
    (λ (s : first < n).
    let found = earlier s in
    let small : get_or kept mark 0 < length marks = omega (arith, found.1, s, l) in
    ap (λ (k : ℕ). get_or marks k 0) (sym found.1) ∙ h.each_kept mark found.0 small ∙ mark_is)
    (λ (s : n ≤ first). let e : first ≡ n = omega (arith, s, le) in ap (λ (k : ℕ). get_or marks k 0) e)
    (cases_lt first n) in
    let alone : length marks ≤ get_or marks n 0 → first ≡ n = λ big. ⊎_elim
    (λ (s : first < n). absurd (let found = earlier s in omega (arith, found.0, mark_is, big, h.kept_long)))
    (λ (s : n ≤ first). omega (arith, s, le))
    (cases_lt first n) in
    let other = λ (k : ℕ) (ne : k ≡ n → ⊥). get_or-set_other now n k first 0 ne in
    let here : get_or (set now n first) n 0 ≡ first = get_or-set_same now n first 0 at in
    record {
      long = length-set now n first ∙ h.long;
      before = below_more (λ (k : ℕ). get_or (set now n first) k 0 ≤ k) n
          (λ k m. let e = other k (λ e. absurd (omega (arith, e, m))) in omega (arith, e, h.before k m))
          (omega (arith, here, le));
      same = below_more (λ (k : ℕ). get_or marks (get_or (set now n first) k 0) 0 ≡ get_or marks k 0) n
          (λ k m. ap (λ (v : ℕ). get_or marks v 0) (other k (λ e. absurd (omega (arith, e, m)))) ∙ h.same k m)
          (ap (λ (v : ℕ). get_or marks v 0) here ∙ marked);
      itself = below_more (λ (k : ℕ). length marks ≤ get_or marks k 0 → get_or (set now n first) k 0 ≡ k) n
          (λ k m big. other k (λ e. absurd (omega (arith, e, m))) ∙ h.itself k m big)
          (λ big. here ∙ alone big);
      after = λ k m. other k (λ e. absurd (omega (arith, e, m))) ∙ h.after k (omega (arith, m));
      kept_long = ⊎_elim
          (λ (e : more ≡ kept). ap (λ (k : List ℕ). length k) e)
          (λ (e : more ≡ set kept mark n). ap (λ (k : List ℕ). length k) e ∙ length-set kept mark n)
          step ∙ h.kept_long;
      each_kept = ⊎_elim
          (λ (e : more ≡ kept). subst (IsKept marks) (sym e) h.each_kept)
          (λ (e : more ≡ set kept mark n). subst (IsKept marks) (sym e) (kept_one marks kept n mark mark_is h.each_kept))
          step;
    }

pub all_made : (marks : List ℕ) (n : ℕ) (now kept : List ℕ) → length marks ≤ n → AreMade marks n now kept → AreFirsts marks now
all_made marks n now kept l h = record {
  long = h.long;
  before = λ i m. h.before i (omega (arith, l, m));
  same = λ i m. h.same i (omega (arith, l, m));
  itself = λ i m. h.itself i (omega (arith, l, m));
}

-- a signal is like itself
pub alike_self : (g : Game) (keys : List ℕ) (i : ℕ) → AreAlike g keys i i
alike_self g keys i = record { key = refl; path = refl; deals = IsPermutation-refl (seen g keys i) }

-- two signals that are like one
alike_both : (g : Game) (keys : List ℕ) (i k m : ℕ) → AreAlike g keys i m → AreAlike g keys k m → AreAlike g keys i k
alike_both g keys i k m a b = record {
  key = a.key ∙ sym b.key;
  path = a.path ∙ sym b.path;
  deals = IsPermutation-trans (seen g keys i) (seen g keys m) (seen g keys k) a.deals (IsPermutation-sym (seen g keys k) (seen g keys m) b.deals);
}

-- the first signals with their marks stand for all
pub firsts_stand : (g : Game) (keys marks firsts : List ℕ) → AreAlikeMarks g keys marks → AreFirsts marks firsts → AreStandIns g keys firsts
firsts_stand g keys marks firsts m f =
    let in' = λ (i : ℕ) (l : i < last_count g). (let e : i < length marks = omega (arith, l, m.long) in e) in
    record {
      long = f.long ∙ m.long;
      before = λ i l. f.before i (in' i l);
      alike = λ i l.
          let k : ℕ = get_or firsts i 0 in
          let mark : ℕ = get_or marks i 0 in
          let lk : k < last_count g = omega (arith, f.before i (in' i l), l) in
          ⊎_elim
          (λ (small : mark < last_count g).
          let there : AreAlike g keys k mark = subst (AreAlike g keys k) (f.same i (in' i l)) (m.alike k lk (omega (arith, small, f.same i (in' i l)))) in
          alike_both g keys i k mark (m.alike i l small) there)
          (λ (big : last_count g ≤ mark).
          let e : k ≡ i = f.itself i (in' i l) (omega (arith, big, m.long)) in
          subst (AreAlike g keys i) (sym e) (alike_self g keys i))
          (cases_lt mark (last_count g));
    }
