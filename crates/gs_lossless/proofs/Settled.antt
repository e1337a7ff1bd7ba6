-- From agreement with first members to lossless classes, and back.
use Rattle.std.proofs.Common.{◌≡◌, ℕ, ℤ, pos, zero, suc, ◌+◌, ◌-◌, ◌<◌, ◌≤◌, Bool, true, false, cond, List, [], ◌∷◌, length, get_or, refl, sym, ap, ◌∙◌, subst}
use Rattle.std.proofs.{Common.{arith, ⊎_elim, count_by, true≢false, Result, Ok, Err}, lemmas.List.Sums.{get_or-le-sum_by, passes_at_first, sum_by-cons}}
use Rattle.std.proofs.{lemmas.Bool.{cases_lt}, lemmas.Bool.Decides.{Decides-eqb}, lemmas.List.{get_or_past}, lemmas.List.FromFn.{get_or-range_with_len}}
use Rattle.std.specs.{Prelude.{◌==◌, IfOk}, List.{position_or_len}, Ordering.{int_eq}}
use Rattle.gs_filter.specs.Filter.{Filter, single_classes}
use Rattle.gs_filter.proofs.{ClassLaws.{single_at}, TallyLaws.{first_before}}
use Rattle.gs_model.specs.Classes.{ClassLists, InOneClass, IsClasses, IsFilter, class_of, class_size, first_member, list_of}
use Rattle.gs_model.specs.{Frame.{Frame, last_round, signal_count}, FrameFacts.{InRange}}
use Rattle.gs_model.specs.Lossless.{Alike, IsFirstUnlike, IsLossless, children_in, weight_against, weight_with}
use Rattle.gs_model.proofs.{Alike.{fair_everywhere, fair_from_outcomes, keeps_from}, Gather.{firsts_from}, Tables.{is_table}}
use Rattle.gs_model.proofs.Unlike.{single_signals_are_lossless, unlike_is_not_lossless}
use Rattle.gs_lossless.specs.{Amounts.{HaveEqualAmounts, AgreesWithFirst, AreAmounts, amount}, Sums.{sum_at}, declared.parts.Part.{Part}}
use Rattle.gs_lossless.specs.{declared.aspects.Aspect.{Aspect}, declared.aspects.Aspect.TheVariants.{Deals, Children}}
use Rattle.gs_lossless.proofs.Merge.{one_list}

pub if_ok : {T E : Type 0} (r : Result T E) (P Q : T → Type 0) → ((x : T) → P x → Q x) → IfOk r P → IfOk r Q
if_ok (Ok x) P Q h p = h x p
if_ok (Err e) P Q h p = p

-- ---- classes of one member

some_pass : (t : ℕ → Bool) (xs : List ℕ) (j : ℕ) → j < length xs → t (get_or xs j 0) ≡ true → 1 ≤ count_by t xs
some_pass t xs j l e = omega (arith, get_or-le-sum_by (λ x. cond (t x) 1 0) xs j 0 l, ap (λ b. cond {A = ℕ} b 1 0) e)

two_pass : (t : ℕ → Bool) (xs : List ℕ) (i j : ℕ) → i < j → j < length xs → t (get_or xs i 0) ≡ true → t (get_or xs j 0) ≡ true → 2 ≤ count_by t xs
two_pass t [] i j l m a b = absurd (omega arith)
two_pass t (x ∷ xs) i zero l m a b = absurd (omega arith)
two_pass t (x ∷ xs) zero (suc j) l m a b = omega (
  arith,
  sum_by-cons (λ x. cond (t x) 1 0) x xs,
  ap (λ b. cond {A = ℕ} b 1 0) a,
  some_pass t xs j (omega arith) b,
)
two_pass t (x ∷ xs) (suc i) (suc j) l m a b = omega (arith, sum_by-cons (λ x. cond (t x) 1 0) x xs, two_pass t xs i j (omega arith) (omega arith) a b)

-- the one member of a class is its first
single_place : (xs : List ℕ) (s : ℕ) → s < length xs → count_by (λ x. x == get_or xs s 0) xs ≡ 1 → position_or_len (λ x. x == get_or xs s 0) xs ≡ s
single_place xs s l one =
    let t : ℕ → Bool = λ x. x == get_or xs s 0 in
    let p = position_or_len t xs in
    let before : p ≤ s = first_before xs s in
    let here : t (get_or xs p 0) ≡ true = passes_at_first t xs 0 (omega arith) in
    ⊎_elim
    (λ under. absurd (let two = two_pass t xs p s under l here ((Decides-eqb (get_or xs s 0) (get_or xs s 0)).1 refl) in omega (arith, two, one)))
    (λ over. omega arith)
    (cases_lt p s)

pub single_first : (lists : ClassLists) (round s : ℕ) → s < length (list_of lists round) → class_size lists round (class_of lists round s) ≡ 1
    → first_member lists round (class_of lists round s) ≡ s
single_first lists round s l one = single_place (list_of lists round) s l one

pub single_agrees : (f : Frame) (lists : ClassLists) (aspect : Aspect) (round s : ℕ) → s < length (list_of lists round)
    → class_size lists round (class_of lists round s) ≡ 1 → AgreesWithFirst f lists aspect round s
single_agrees f lists aspect round s l one c o = ap (λ x. amount f lists aspect round x c o) (single_first lists round s l one)

-- the first member of a signal's class is not behind it
pub first_le : (lists : ClassLists) (round s : ℕ) → first_member lists round (class_of lists round s) ≤ s
first_le lists round s = first_before (list_of lists round) s

-- ---- agreement and likeness

module _ (f : Frame) (lists : ClassLists) (round s t : ℕ) where
  pub alike_from : 0 < round → HaveEqualAmounts f lists Deals round s t → (round < last_round f → HaveEqualAmounts f lists Children round s t)
      → Alike f lists round s t
  alike_from some h k = by (round == last_round f) refl
    where
      by : (b : Bool) → (round == last_round f) ≡ b → Alike f lists round s t
      by true e =
          let same : round ≡ last_round f = (Decides-eqb round (last_round f)).0 e in
          let out : (c : ℕ) (o : ℤ) → weight_with f lists s c o ≡ weight_with f lists t c o = λ c o.
          subst (λ (b : Bool). cond b (weight_with f lists s c o) (cond (int_eq (pos 0) o) (weight_against f lists round s c) 0)
          ≡ cond b (weight_with f lists t c o) (cond (int_eq (pos 0) o) (weight_against f lists round t c) 0)) e (h c o) in
          record {
            weights = λ c. subst (λ r. weight_against f lists r s c ≡ weight_against f lists r t c) (sym same)
                (fair_from_outcomes f lists s t c (λ o. out c o));
            outcomes = λ _ c o. out c o;
            children = λ l c. absurd (omega (arith, same, l));
          }
      by false e = record {
        weights = λ c. subst (λ (b : Bool). cond b (weight_with f lists s c (pos 0)) (weight_against f lists round s c)
            ≡ cond b (weight_with f lists t c (pos 0)) (weight_against f lists round t c)) e (h c (pos 0));
        outcomes = λ same. absurd (true≢false (sym ((Decides-eqb round (last_round f)).1 same) ∙ e));
        children = λ l c. k l c (pos 0);
      }

  pub agree_deals : Alike f lists round s t → HaveEqualAmounts f lists Deals round s t
  agree_deals a = λ c o. by c o (round == last_round f) refl
    where
      by : (c : ℕ) (o : ℤ) (b : Bool) → (round == last_round f) ≡ b → cond b (weight_with f lists s c o)
          (cond (int_eq (pos 0) o) (weight_against f lists round s c) 0)
          ≡ cond b (weight_with f lists t c o) (cond (int_eq (pos 0) o) (weight_against f lists round t c) 0)
      by c o true e = a.outcomes ((Decides-eqb round (last_round f)).0 e) c o
      by c o false e = ap (λ n. cond (int_eq (pos 0) o) n 0) (a.weights c)

  pub agree_children : round < last_round f → Alike f lists round s t → HaveEqualAmounts f lists Children round s t
  agree_children l a = λ c o. ap (λ n. cond (int_eq (pos 0) o) n 0) (a.children l c)

-- ---- lossless classes

-- both members agree with the first one
pub lossless_by_last : (f : Frame) (lists : ClassLists) → InRange f → IsFilter f.parents lists
    → ((s : ℕ) → s < signal_count f (last_round f) → AgreesWithFirst f lists Deals (last_round f) s)
    → ((round s : ℕ) → 0 < round → round < last_round f → s < signal_count f round → AgreesWithFirst f lists Children round s) → IsLossless f lists
lossless_by_last f lists q h last below =
    let out : (s c : ℕ) (o : ℤ) → s < signal_count f (last_round f) → weight_with f lists
    (first_member lists (last_round f) (class_of lists (last_round f) s)) c o ≡ weight_with f lists s c o = λ s c o l.
    let first = first_member lists (last_round f) (class_of lists (last_round f) s) in
    subst (λ (b : Bool). cond b (weight_with f lists first c o) (cond (int_eq (pos 0) o) (weight_against f lists (last_round f) first c) 0)
    ≡ cond b (weight_with f lists s c o) (cond (int_eq (pos 0) o) (weight_against f lists (last_round f) s c) 0))
    ((Decides-eqb (last_round f) (last_round f)).1 refl) (last s l c o) in
    fair_everywhere f (is_table f q) lists (keeps_from f lists h)
    (λ s u k o a. sym (out s k o a.first_in) ∙ ap (λ x. weight_with f lists (first_member lists (last_round f) x) k o) a.same ∙ out u k o a.second_in)
    (λ j s u k lj l a. sym (below j s lj l a.first_in k (pos 0)) ∙ ap (λ x. children_in f lists j (first_member lists j x) k) a.same
    ∙ below j u lj l a.second_in k (pos 0))

alike_turned : (f : Frame) (lists : ClassLists) (round s t : ℕ) → Alike f lists round s t → Alike f lists round t s
alike_turned f lists round s t a = record {
  weights = λ c. sym (a.weights c);
  outcomes = λ e c o. sym (a.outcomes e c o);
  children = λ l c. sym (a.children l c);
}

alike_joined : (f : Frame) (lists : ClassLists) (round s t u : ℕ) → Alike f lists round s t → Alike f lists round t u → Alike f lists round s u
alike_joined f lists round s t u a b = record {
  weights = λ c. a.weights c ∙ b.weights c;
  outcomes = λ e c o. a.outcomes e c o ∙ b.outcomes e c o;
  children = λ l c. a.children l c ∙ b.children l c;
}

pub lossless_by_firsts : (f : Frame) (lists : ClassLists) → IsFilter f.parents lists
    → ((round s : ℕ) → 0 < round → round ≤ last_round f → s < signal_count f round
    → Alike f lists round (first_member lists round (class_of lists round s)) s) → IsLossless f lists
lossless_by_firsts f lists h all = record {
  filter = h;
  alike = λ round s t some top a.
      let first : ℕ → ℕ = λ x. first_member lists round (class_of lists round x) in
      let same : first s ≡ first t = ap (first_member lists round) a.same in
      alike_joined f lists round s (first s) t (alike_turned f lists round (first s) s (all round s some top a.first_in))
      (subst (λ x. Alike f lists round x t) (sym same) (all round t some top a.second_in));
}

-- classes over a frame's parents
pub over : (f : Frame) (l : Filter) → l.parents ≡ f.parents → IsClasses l.parents l.lists → IsClasses f.parents l.lists
over f l e h = subst (λ (ps : List (List ℕ)). IsClasses ps l.lists) e h

pub not_lossless : (f : Frame) (lists : ClassLists) (round first second : ℕ) → IsClasses f.parents lists → IsFirstUnlike f lists round first second
    → IsLossless f lists → ⊥
not_lossless f lists round first second k = unlike_is_not_lossless f lists round first second (firsts_from f lists k)

-- classes of one signal each are lossless
pub singles : (f : Frame) → IsClasses f.parents (single_classes f.parents) → IsLossless f (single_classes f.parents)
singles f k = single_signals_are_lossless f (single_classes f.parents) (λ round s t a. same round s t a)
  where
    number : (round s : ℕ) → 0 < round → round ≤ length f.parents → s < signal_count f round → class_of (single_classes f.parents) round s ≡ 1 + s
    number round s some top l =
        ap (λ (xs : List ℕ). get_or xs s 0) (single_at f.parents round some top) ∙ get_or-range_with_len 1 (length (list_of f.parents round)) s 0 l

    none : (k : ℕ) → length f.parents ≤ k → length (get_or f.parents k []) ≡ 0
    none k l = ap (λ (xs : List ℕ). length xs) (get_or_past f.parents k [] l)

    any : (round s : ℕ) → s < signal_count f round → round ≤ length f.parents → class_of (single_classes f.parents) round s ≡ 1 + s
    any zero s l m = ⊎_elim (λ some. number 1 s (omega arith) some l) (λ no. absurd (omega (arith, l, none 0 no))) (cases_lt 0 (length f.parents))
    any (suc round) s l m = number (suc round) s (omega arith) m l

    whole : (round s : ℕ) → s < signal_count f round → class_of (single_classes f.parents) round s ≡ 1 + s
    whole round s l = ⊎_elim (λ past. absurd (omega (arith, l, none (round - 1) (omega (arith, past))))) (λ within. any round s l within)
        (cases_lt (length f.parents) round)

    same : (round s t : ℕ) → InOneClass f (single_classes f.parents) round s t → s ≡ t
    same round s t a = omega (arith, whole round s a.first_in, whole round t a.second_in, a.same)

-- ---- sums that agree

pub agree_if_same : (f : Frame) (lists : ClassLists) (aspect : Aspect) (round s t : ℕ) (xs ys : List Part) → AreAmounts f lists aspect round s xs
    → AreAmounts f lists aspect round t ys → xs ≡ ys → HaveEqualAmounts f lists aspect round s t
agree_if_same f lists aspect round s t xs ys a b e c o = sym (a.sum c o) ∙ ap (λ (l : List Part). sum_at l c o) e ∙ b.sum c o

pub same_if_agree : (f : Frame) (lists : ClassLists) (aspect : Aspect) (round s t : ℕ) (xs ys : List Part) → AreAmounts f lists aspect round s xs
    → AreAmounts f lists aspect round t ys → HaveEqualAmounts f lists aspect round s t → xs ≡ ys
same_if_agree f lists aspect round s t xs ys a b h = one_list xs ys a.rises b.rises (λ c o. a.sum c o ∙ h c o ∙ sym (b.sum c o))
