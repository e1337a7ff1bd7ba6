-- Members of a class, each with the next one.
use Rattle.std.proofs.Common.{◌≡◌, ◌+◌, ◌-◌, ◌<◌, ◌≤◌, ◌∙◌, ℕ, List, ap, arith, get_or, length, length-set, refl, replicate, set, subst, sym, ⊎_elim}
use Rattle.std.proofs.{lemmas.Bool.{cases_eq}, lemmas.List.{get_or-replicate, get_or-set_other, get_or-set_same, get_or_read, length-replicate}}
use Rattle.gs_model.specs.Classes.{ClassLists, class_count, class_of, first_member, list_of}
use Rattle.gs_filter.specs.Members.{IsMemberFrom}
use Rattle.gs_filter.proofs.TallyLaws.{first_before}

module _ (lists : ClassLists) (round : ℕ) where
  -- from its own place on, a signal is the first member of its class
  pub member_here : (s : ℕ) → IsMemberFrom lists round s (class_of lists round s) s
  member_here s = record { behind = omega arith; is = λ _. refl; none = λ t l m. absurd (omega (arith, l, m)) }

  -- no signal is at the end or behind it
  pub member_none : (class : ℕ) → IsMemberFrom lists round (length (list_of lists round)) class (length (list_of lists round))
  member_none class = record { behind = omega arith; is = λ l. absurd (omega (arith, l)); none = λ t l m. absurd (omega (arith, l, m)) }

  -- one place more, with a signal of another class
  pub member_before : (s class next : ℕ) → (class_of lists round s ≡ class → ⊥) → IsMemberFrom lists round (s + 1) class next
      → IsMemberFrom lists round s class next
  member_before s class next other h = record {
    behind = omega (arith, h.behind);
    is = h.is;
    none = λ t l m same. ⊎_elim
        (λ (e : t ≡ s). other (ap (class_of lists round) (sym e) ∙ same))
        (λ ne. h.none t (omega (arith, l, ne)) m same)
        (cases_eq t s);
  }

  -- the first member of a class
  pub member_first : (class first : ℕ) → class_of lists round first ≡ class → first ≡ first_member lists round class
      → IsMemberFrom lists round 0 class first
  member_first class first own is = record {
    behind = omega arith;
    is = λ _. own;
    none = λ t l m same.
        let b = first_before (list_of lists round) t in
        let e : first ≡ first_member lists round (class_of lists round t) = is ∙ ap (first_member lists round) (sym same) in
        omega (arith, m, b, e);
  }

  -- for each class its first member from a place on, and for each signal from there on the next member of its class
  pub record AreLinked (from : ℕ) (heads nexts : List ℕ) : Type 0 where
    pub within : from ≤ length (list_of lists round)
    pub heads_long : length heads ≡ class_count lists round
    pub nexts_long : length nexts ≡ length (list_of lists round)
    pub first : (k : ℕ) → k < length heads → IsMemberFrom lists round from (k + 1) (get_or heads k 0)
    pub next : (s : ℕ) → from ≤ s → s < length nexts → IsMemberFrom lists round (s + 1) (class_of lists round s) (get_or nexts s 0)

  pub linked_none : (m n : ℕ) (heads nexts : List ℕ) → m ≡ class_count lists round → n ≡ length (list_of lists round)
      → heads ≡ replicate m n → nexts ≡ replicate n n → AreLinked n heads nexts
  linked_none m n heads nexts count all eh en =
      let long = ap (λ (l : List ℕ). length l) eh ∙ length-replicate m n in
      let span = ap (λ (l : List ℕ). length l) en ∙ length-replicate n n in
      record {
        within = omega (arith, all);
        heads_long = long ∙ count;
        nexts_long = span ∙ all;
        first = λ k l.
            let at : get_or heads k 0 ≡ n = ap (λ (h : List ℕ). get_or h k 0) eh ∙ get_or-replicate m k n 0 (omega (arith, l, long)) in
            subst (λ x. IsMemberFrom lists round n (k + 1) x) (sym at) (subst (λ m. IsMemberFrom lists round m (k + 1) m) (sym all) (member_none (k + 1)));
        next = λ s m l. absurd (omega (arith, m, l, span));
      }

  -- one signal more, before the others
  pub linked_more : (s class next : ℕ) (heads nexts : List ℕ) → 0 < class → class ≤ class_count lists round → class ≡ class_of lists round s
      → next ≡ get_or heads (class - 1) next → AreLinked (s + 1) heads nexts → AreLinked s (set heads (class - 1) s) (set nexts s next)
  linked_more s class next heads nexts some top is e h =
      let k : ℕ = class - 1 in
      let back : k + 1 ≡ class = omega (arith, some) in
      let inside : k < length heads = omega (arith, some, top, h.heads_long) in
      let there : s < length nexts = omega (arith, h.within, h.nexts_long) in
      let read : next ≡ get_or heads k 0 = get_or_read heads k next inside e 0 in
      record {
        within = omega (arith, h.within);
        heads_long = length-set heads k s ∙ h.heads_long;
        nexts_long = length-set nexts s next ∙ h.nexts_long;
        first = λ j l. ⊎_elim
            (λ (same : j ≡ k).
            let at : get_or (set heads k s) j 0 ≡ s = ap (λ i. get_or (set heads k s) i 0) same ∙ get_or-set_same heads k s 0 inside in
            let c : class_of lists round s ≡ j + 1 = omega (arith, is, same, back) in
            subst (λ x. IsMemberFrom lists round s (j + 1) x) (sym at) (subst (λ x. IsMemberFrom lists round s x s) c (member_here s)))
            (λ ne.
            let old = h.first j (omega (arith, l, length-set heads k s)) in
            subst (λ x. IsMemberFrom lists round s (j + 1) x) (sym (get_or-set_other heads k j s 0 ne))
            (member_before s (j + 1) (get_or heads j 0) (λ c. ne (omega (arith, c, is, back))) old))
            (cases_eq j k);
        next = λ t from l. ⊎_elim
            (λ (same : t ≡ s).
            let at : get_or (set nexts s next) s 0 ≡ next = get_or-set_same nexts s next 0 there in
            let P : ℕ → Type 0 = λ u. IsMemberFrom lists round (u + 1) (class_of lists round u) (get_or (set nexts s next) u 0) in
            let c : k + 1 ≡ class_of lists round s = back ∙ is in
            subst P (sym same) (subst (λ x. IsMemberFrom lists round (s + 1) (class_of lists round s) x) (sym (at ∙ read))
            (subst (λ x. IsMemberFrom lists round (s + 1) x (get_or heads k 0)) c (h.first k inside))))
            (λ ne.
            subst (λ x. IsMemberFrom lists round (t + 1) (class_of lists round t) x) (sym (get_or-set_other nexts s t next 0 ne))
            (h.next t (omega (arith, from, ne)) (omega (arith, l, length-set nexts s next))))
            (cases_eq t s);
      }
