-- One more visit.
use Rattle.std.proofs.Common.{◌≡◌, ◌≢◌, ◌+◌, ◌<◌, ◌≤◌, ◌++◌, ℕ, Bool, true, false, Option, Some, None, List, [], ◌∷◌, length, set, sym, ◌∙◌, ap, subst, arith}
use Rattle.std.proofs.{Common.{cond, count_by, ⊎_elim, refl, true≢false}, lemmas.Bool.{cases_eq, cases_lt}, lemmas.List.Sums.{sum_by-set}}
use Rattle.std.proofs.lemmas.List.{get_or_append_left, get_or_push, get_or_past, get_or-set_same, get_or-set_other, length-set, length_push}
use Rattle.gs_match.specs.{declared.search.Visit.{Visit}, Adjacency.{Near}}
use Rattle.gs_match.specs.Search.{holder, IsMatching, visit, is_reached, IsLinked, IsTree, Extends, AreExplored}

-- what a place holds is one thing or nothing
pub same_some : (a b : ℕ) (o : Option ℕ) → o ≡ Some a → o ≡ Some b → a ≡ b
same_some a b o x y = cc

pub none_some : (a : ℕ) (o : Option ℕ) → o ≡ Some a → o ≡ None → ⊥
none_some a o x y = cc

-- a right node that is held is in range
pub held_in : (holders : List (Option ℕ)) (b a : ℕ) → holder holders b ≡ Some a → b < length holders
held_in holders b a h = ⊎_elim (λ within. within) (λ past. let e : None ≡ Some a = sym (get_or_past holders b None past) ∙ h in
    cc) (cases_lt b (length holders))

pub held_not_last : (holders : List (Option ℕ)) (b a : ℕ) → holder holders b ≡ Some a → b ≢ length holders
held_not_last holders b a h e = let l = held_in holders b a h in absurd (omega arith)

-- marks stay
pub mark_kept : (reached : List Bool) (right b : ℕ) → right < length reached → is_reached reached b ≡ true → is_reached (set reached right true) b ≡ true
mark_kept reached right b l h = ⊎_elim
    (λ e. ap (λ k. is_reached (set reached right true) k) e ∙ get_or-set_same reached right true false l)
    (λ ne. get_or-set_other reached right b true false ne ∙ h)
    (cases_eq b right)

module _ (adjacent : List (List ℕ)) (holders : List (Option ℕ)) (visits : List Visit) (reached : List Bool) (place left right : ℕ)
    (m : IsMatching adjacent holders (visit visits 0).left) (t : IsTree adjacent holders visits reached) (within : place
    < length visits) (near : Near adjacent (visit visits place).left right)
    (in' : right < length holders) (new : is_reached reached right ≡ false) (held : holder holders right ≡ Some left) where
  abbrev added : Visit
  added = record { left = left; right = right; from = place }

  abbrev more : List Visit
  more = visits ++ added ∷ []

  abbrev marks : List Bool
  marks = set reached right true

  old_visit : (k : ℕ) → k < length visits → visit more k ≡ visit visits k
  old_visit k l = get_or_append_left visits (added ∷ []) (record { left = 0; right = 0; from = 0 }) k l

  new_visit : visit more (length visits) ≡ added
  new_visit = get_or_push visits added (record { left = 0; right = 0; from = 0 }) (length visits) refl

  right_in : right < length reached
  right_in = let w = t.wide in omega arith

  grown : length more ≡ length visits + 1
  grown = length_push visits added

  link_old : (k : ℕ) → 0 < k → k < length visits → IsLinked adjacent holders more marks k
  link_old k some l =
      let link = t.linked k some l in
      let e = old_visit k l in
      let b = link.earlier in
      let ef = old_visit (visit visits k).from (omega arith) in record {
        earlier = subst (λ (w : Visit). w.from < k) (sym e) link.earlier;
        held = subst (λ (w : Visit). holder holders w.right ≡ Some w.left) (sym e) link.held;
        marked = subst (λ (w : Visit). is_reached marks w.right ≡ true) (sym e) (mark_kept reached right (visit visits k).right right_in link.marked);
        near = subst (λ (w : Visit). Near adjacent (visit more w.from).left w.right) (sym e)
            (subst (λ (u : Visit). Near adjacent u.left (visit visits k).right) (sym ef) link.near);
      }

  link_new : IsLinked adjacent holders more marks (length visits)
  link_new =
      let e = new_visit in
      let ef = old_visit place within in record {
        earlier = subst (λ (w : Visit). w.from < length visits) (sym e) within;
        held = subst (λ (w : Visit). holder holders w.right ≡ Some w.left) (sym e) held;
        marked = subst (λ (w : Visit). is_reached marks w.right ≡ true) (sym e) (get_or-set_same reached right true false right_in);
        near = subst (λ (w : Visit). Near adjacent (visit more w.from).left w.right) (sym e)
            (subst (λ (u : Visit). Near adjacent u.left right) (sym ef) near);
      }

  fresh : (i : ℕ) → i < length visits → (visit visits i).left ≢ left
  fresh i l e = ⊎_elim
      (λ some.
      let link = t.linked i some l in
      let h : holder holders (visit visits i).right ≡ Some left = link.held ∙ ap (λ k. Some k) e in
      let same = m.once (visit visits i).right right left (held_not_last holders (visit visits i).right left h)
      (held_not_last holders right left held) h held in
      true≢false (sym link.marked ∙ ap (λ b. is_reached reached b) same ∙ new))
      (λ first.
      let z : i ≡ 0 = omega arith in
      let b = m.below right left (held_not_last holders right left held) held in
      let f : (visit visits 0).left ≡ left = ap (λ k. (visit visits k).left) (sym z) ∙ e in
      absurd (omega arith))
      (cases_lt 0 i)

  pub tree_more : IsTree adjacent holders more marks
  tree_more =
      let g = grown in
      let s = t.some in record {
        some = omega arith;
        wide = length-set reached right true ∙ t.wide;
        linked = λ k some l. ⊎_elim (λ e. subst (IsLinked adjacent holders more marks) (sym e) link_new) (λ ne. link_old k some (omega arith))
            (cases_eq k (length visits));
        counted =
            (let c = t.counted in
            let u : count_by (λ x. x) marks + cond (is_reached reached right) 1 0 ≡ count_by (λ x. x) reached + 1 =
            sum_by-set (λ x. cond x 1 0) reached right true false right_in in
            let z : cond {A = ℕ} (is_reached reached right) 1 0 ≡ 0 = ap (λ b. cond {A = ℕ} b 1 0) new in
            omega arith);
        differ = λ i j lt l. ⊎_elim
            (λ e ends. fresh i (omega arith) (ap (λ (w : Visit). w.left) (sym (old_visit i (omega arith))) ∙ ends ∙ ap (λ k. (visit more k).left) e
            ∙ ap (λ (w : Visit). w.left) new_visit))
            (λ ne ends. t.differ i j lt (omega arith) (ap (λ (w : Visit). w.left) (sym (old_visit i (omega arith))) ∙ ends
            ∙ ap (λ (w : Visit). w.left) (old_visit j (omega arith))))
            (cases_eq j (length visits));
      }

  pub extends_more : Extends visits reached more marks
  extends_more = let g = grown in record { longer = omega arith; kept = old_visit; marks = λ b h. mark_kept reached right b right_in h }

  pub marked_more : is_reached marks right ≡ true
  marked_more = get_or-set_same reached right true false right_in

pub extends_refl : (visits : List Visit) (reached : List Bool) → Extends visits reached visits reached
extends_refl visits reached = record { longer = omega arith; kept = λ k l. refl; marks = λ b h. h }

pub extends_trans : (vs : List Visit) (rs : List Bool) (vs' : List Visit) (rs' : List Bool) (vs'' : List Visit) (rs'' : List Bool) → Extends vs rs vs' rs'
    → Extends vs' rs' vs'' rs'' → Extends vs rs vs'' rs''
extends_trans vs rs vs' rs' vs'' rs'' a b =
    let la = a.longer in let lb = b.longer in record {
      longer = omega arith;
      kept = λ k l. b.kept k (omega arith) ∙ a.kept k l;
      marks = λ r h. b.marks r (a.marks r h);
    }

pub explored_more : (adjacent : List (List ℕ)) (vs : List Visit) (rs : List Bool) (vs' : List Visit) (rs' : List Bool) (n : ℕ) → n ≤ length vs
    → Extends vs rs vs' rs' → AreExplored adjacent vs rs n → AreExplored adjacent vs' rs' n
explored_more adjacent vs rs vs' rs' n l e h k b lt near = e.marks b (h k b lt (subst (λ (w : Visit). Near adjacent w.left b) (e.kept k (omega arith)) near))
