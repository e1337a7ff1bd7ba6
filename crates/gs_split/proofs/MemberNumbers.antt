-- The numbers of the members of a class.
use Rattle.std.proofs.Common.{◌≡◌, ◌↔◌, ◌+◌, ◌-◌, ◌<◌, ◌≤◌, ◌∙◌, ℕ, List, [], Vec, Global, ap, arith, get_or, length, refl, replicate, set, subst, sym, ⊎_elim}
use Rattle.std.proofs.Common.{Bool, true, false, length-set}
use Rattle.std.proofs.{lemmas.Bool.{cases_eq, cases_lt}, lemmas.List.{get_or-replicate, get_or-set_other, get_or-set_same, length-replicate}}
use Rattle.std.specs.List.{IsDistinct}
use Rattle.gs_model.specs.{Classes.{ClassLists, class_of, list_of}, Frame.{Frame}}
use Rattle.gs_iso.specs.KeyNumbers.{StayIn, same_parts}
use Rattle.gs_iso.proofs.Numbered.{HasKey, number_tells}
use Rattle.gs_lossless.specs.{Amounts.{AreAmounts, AreAspectFirsts, HaveEqualAmounts}, declared.parts.Part.{Part}, declared.aspects.Aspect.{Aspect}}
use Rattle.gs_lossless.proofs.{Merge.{part_decides}, Settled.{agree_if_same, same_if_agree}}
use Rattle.gs_filter.specs.Members.{AreNextMembers, IsMemberFrom}
use Rattle.gs_split.specs.Turns.{AreMemberNumbers, AreSettled, IsSettled}
use Rattle.gs_split.proofs.Agreed.{part_eq, settled_alike}

module _ (f : Frame) (lists : ClassLists) (aspect : Aspect) (round class : ℕ) where
  -- the members of a class before the member `next` have the numbers of their sums
  pub record AreNumberedTo (keys : List (Vec Part Global)) (numbers : List ℕ) (next : ℕ) : Type 0 where
    pub few : length keys ≤ next
    pub distinct : IsDistinct (same_parts part_eq) keys
    pub is : next < length (list_of lists round) → class_of lists round next ≡ class
    pub leads : (s : ℕ) → s < next → s < length numbers → class_of lists round s ≡ class
        → HasKey (AreAmounts f lists aspect round) keys s (get_or numbers s 0)

  pub numbered_first : (keys : List (Vec Part Global)) (numbers : List ℕ) (next : ℕ) → keys ≡ [] → IsMemberFrom lists round 0 class next
      → AreNumberedTo keys numbers next
  unfolding IsDistinct
  numbered_first keys numbers next none h =
      let few = ap (λ (l : List (Vec Part Global)). length l) none in
      record {
        few = omega (arith, few);
        distinct = subst (IsDistinct (same_parts part_eq)) (sym none) tt;
        is = h.is;
        leads = λ s l _ same. absurd (h.none s (omega arith) l same);
      }

  -- the next member has its number
  pub numbered_next : (keys more : List (Vec Part Global)) (numbers : List ℕ) (s next n : ℕ) → AreNumberedTo keys numbers s
      → IsMemberFrom lists round (s + 1) class next
      → HasKey (AreAmounts f lists aspect round) more s n → StayIn keys more → length more ≤ length keys + 1 → IsDistinct (same_parts part_eq) more
      → AreNumberedTo more (set numbers s n) next
  numbered_next keys more numbers s next n old member here stay few distinct = record {
    few = omega (arith, old.few, few, member.behind);
    distinct = distinct;
    is = member.is;
    leads = λ t l m same. ⊎_elim
        (λ (e : t ≡ s).
        let at : get_or (set numbers s n) s 0 ≡ n = get_or-set_same numbers s n 0 (omega (arith, m, e, length-set numbers s n)) in
        let P : ℕ → Type 0 = λ u. HasKey (AreAmounts f lists aspect round) more u (get_or (set numbers s n) u 0) in
        subst P (sym e) (subst (λ v. HasKey (AreAmounts f lists aspect round) more s v) (sym at) here))
        (λ ne. ⊎_elim
        (λ (lt : t < s).
        let k = old.leads t lt (omega (arith, m, length-set numbers s n)) same in
        let h : HasKey (AreAmounts f lists aspect round) more t (get_or numbers t 0) = record {
          some = k.some;
          key = k.key;
          stands = stay (get_or numbers t 0 - 1) k.key k.stands;
          signs = k.signs;
        } in
        subst (λ v. HasKey (AreAmounts f lists aspect round) more t v) (sym (get_or-set_other numbers s t n 0 ne)) h)
        (λ (ge : s ≤ t). absurd (member.none t (omega (arith, ge, ne)) l same))
        (cases_lt t s))
        (cases_eq t s);
  }

  -- all members have numbers
  pub numbered_all : (keys : List (Vec Part Global)) (numbers : List ℕ) (next : ℕ) → AreNumberedTo keys numbers next → length numbers ≤ next
      → AreMemberNumbers f lists aspect round class numbers
  numbered_all keys numbers next h all i j li lj ci cj =
      number_tells part_eq part_decides (AreAmounts f lists aspect round) keys h.distinct i j (get_or numbers i 0) (get_or numbers j 0)
      (HaveEqualAmounts f lists aspect round i j) (h.leads i (omega (arith, li, all)) li ci) (h.leads j (omega (arith, lj, all)) lj cj)
      (λ a b x y. (agree_if_same f lists aspect round i j a b x y, same_if_agree f lists aspect round i j a b x y))

  -- what the loop over the members of a class knows, with the numbers `old` before it
  pub record AreNumbering (old : List ℕ) (keys : List (Vec Part Global)) (numbers : List ℕ) (next : ℕ) : Type 0 where
    pub long : length numbers ≡ length old
    pub others : (s : ℕ) → (class_of lists round s ≡ class → ⊥) → get_or numbers s 0 ≡ get_or old s 0
    pub numbered : AreNumberedTo keys numbers next

  -- one member more
  pub numbering_more : (old : List ℕ) (keys more : List (Vec Part Global)) (numbers nexts : List ℕ) (s n : ℕ) → AreNumbering old keys numbers s
      → AreNextMembers lists round nexts → s < length nexts
      → HasKey (AreAmounts f lists aspect round) more s n → StayIn keys more → length more ≤ length keys + 1 → IsDistinct (same_parts part_eq) more
      → AreNumbering old more (set numbers s n) (get_or nexts s 0)
  numbering_more old keys more numbers nexts s n h linked l here stay few distinct =
      let own : class_of lists round s ≡ class = h.numbered.is (omega (arith, l, linked.long)) in
      let member : IsMemberFrom lists round (s + 1) class (get_or nexts s 0) =
      subst (λ k. IsMemberFrom lists round (s + 1) k (get_or nexts s 0)) own (linked.each s l) in
      record {
        long = length-set numbers s n ∙ h.long;
        others = λ t no. get_or-set_other numbers s t n 0 (λ e. no (ap (class_of lists round) e ∙ own)) ∙ h.others t no;
        numbered = numbered_next keys more numbers s (get_or nexts s 0) n h.numbered member here stay few distinct;
      }

  -- the number of an earlier stand-in is that of the member
  pub number_stood : (old firsts : List ℕ) (keys : List (Vec Part Global)) (numbers : List ℕ) (s : ℕ) → AreNumbering old keys numbers s
      → AreAspectFirsts f lists aspect round firsts → s < length firsts → s < length (list_of lists round) → s < length numbers
      → get_or firsts s 0 < s → HasKey (AreAmounts f lists aspect round) keys s (get_or numbers (get_or firsts s 0) 0)
  number_stood old firsts keys numbers s h stands l inside room before =
      let first : ℕ = get_or firsts s 0 in
      let own : class_of lists round first ≡ class = stands.class s l ∙ h.numbered.is inside in
      let k = h.numbered.leads first before (omega (arith, before, room)) own in
      record {
        some = k.some;
        key = k.key;
        stands = k.stands;
        signs = record { rises = k.signs.rises; sum = λ c o. k.signs.sum c o ∙ stands.agree s l c o };
      }

module _ (f : Frame) (lists : ClassLists) (aspect : Aspect) (round : ℕ) where
  -- the members of the classes up to `before` have their numbers, and the others have none yet
  pub record AreDone (before : ℕ) (numbers : List ℕ) : Type 0 where
    pub done : (class : ℕ) → class ≤ before → AreMemberNumbers f lists aspect round class numbers
    pub rest : (s : ℕ) → s < length numbers → before < class_of lists round s → get_or numbers s 0 ≡ 0

  pub done_none : (n : ℕ) (numbers : List ℕ) → n ≡ length (list_of lists round) → numbers ≡ replicate n 0
      → ((s : ℕ) → s < length (list_of lists round) → 0 < class_of lists round s) → AreDone 0 numbers
  done_none n numbers all e some =
      let long = ap (λ (l : List ℕ). length l) e ∙ length-replicate n 0 in
      record {
        done = λ class none i j li lj ci cj. absurd (let p = some i (omega (arith, li, long, all)) in omega (arith, p, ci, none));
        rest = λ s l _. ap (λ (l : List ℕ). get_or l s 0) e ∙ get_or-replicate n s 0 0 (omega (arith, l, long));
      }

  -- one class more
  pub done_more : (before : ℕ) (numbers more : List ℕ) → AreDone before numbers → length more ≡ length numbers
      → ((s : ℕ) → (class_of lists round s ≡ before + 1 → ⊥) → get_or more s 0 ≡ get_or numbers s 0)
      → AreMemberNumbers f lists aspect round (before + 1) more → AreDone (before + 1) more
  done_more before numbers more h long others here = record {
    done = λ class top i j li lj ci cj. ⊎_elim
        (λ (e : class ≡ before + 1). here i j li lj (ci ∙ e) (cj ∙ e))
        (λ ne.
        let other : (s : ℕ) → class_of lists round s ≡ class → get_or more s 0 ≡ get_or numbers s 0 = λ s c. others s (λ q. ne (sym c ∙ q)) in
        let old = h.done class (omega (arith, top, ne)) i j (omega (arith, li, long)) (omega (arith, lj, long)) ci cj in (
          (λ e. old.0 (sym (other i ci) ∙ e ∙ other j cj)),
          (λ r. other i ci ∙ old.1 r ∙ sym (other j cj)),
        ))
        (cases_eq class (before + 1));
    rest = λ s l m. others s (λ q. absurd (omega (arith, q, m))) ∙ h.rest s (omega (arith, l, long)) (omega (arith, m));
  }

  -- one class more, whose members agree with one another
  pub done_settled : (before : ℕ) (firsts numbers : List ℕ) (settled : List Bool) → AreAspectFirsts f lists aspect round firsts
      → AreSettled lists round firsts settled → length numbers ≡ length firsts → get_or settled before false ≡ true
      → AreDone before numbers → AreDone (before + 1) numbers
  done_settled before firsts numbers settled stands known long is h =
      let settles : (s : ℕ) → class_of lists round s ≡ before + 1 → IsSettled lists round settled s = λ s c.
      (let k : class_of lists round s - 1 ≡ before = omega (arith, c) in ap (λ p. get_or settled p false) k ∙ is) in
      done_more before numbers numbers h refl (λ s _. refl) (λ i j li lj ci cj. (
        (λ _. settled_alike f lists round aspect firsts settled i j stands known (omega (arith, li, long)) (omega (arith, lj, long)) (ci ∙ sym cj)
            (settles i ci) (settles j cj)),
        (λ _. h.rest i li (omega (arith, ci)) ∙ sym (h.rest j lj (omega (arith, cj)))),
      ))

  -- all classes are done
  pub done_all : (before n : ℕ) (numbers : List ℕ) → AreDone before numbers → length numbers ≡ n
      → ((s : ℕ) → s < n → class_of lists round s ≤ before)
      → (i j : ℕ) → i < length numbers → j < length numbers → class_of lists round i ≡ class_of lists round j
      → (get_or numbers i 0 ≡ get_or numbers j 0) ↔ HaveEqualAmounts f lists aspect round i j
  done_all before n numbers h long top i j li lj same =
      h.done (class_of lists round i) (top i (omega (arith, li, long))) i j li lj refl (sym same)
