-- Changing a matching along a path.
use Rattle.std.proofs.Common.{◌≡◌, ◌≢◌, ◌+◌, ◌<◌, ◌≤◌, ℕ, Bool, Option, Some, None, List, length, set, sym, ◌∙◌, ap, subst, arith, ⊎_elim}
use Rattle.std.proofs.{lemmas.Bool.{cases_eq}, lemmas.List.{get_or-set_same, get_or-set_other, length-set}}
use Rattle.gs_match.specs.{declared.search.Visit.{Visit}, Adjacency.{Near}, Search.{holder, IsMatchingBut, IsMatching, visit, IsTree, IsAugmentingPath}}
use Rattle.gs_match.proofs.SearchLaws.{held_in, held_not_last, same_some, none_some}

-- the way back from a visit whose left node is to be given `right`: the visits before it hold what they held
pub record IsShift (adjacent : List (List ℕ)) (holders : List (Option ℕ)) (root : ℕ) (visits : List Visit) (place right : ℕ) : Type 0 where
  pub within : place < length visits
  pub right_in : right < length holders
  pub but : IsMatchingBut adjacent holders root right
  pub near : Near adjacent (visit visits place).left right
  pub waiting : (j : ℕ) → 0 < j → j ≤ place → holder holders (visit visits j).right ≡ Some (visit visits j).left
  pub apart : (j : ℕ) → 0 < j → j ≤ place → (visit visits j).right ≢ right

pub shift_start : (adjacent : List (List ℕ)) (holders : List (Option ℕ)) (root : ℕ) (visits : List Visit) (place right : ℕ) → IsMatching adjacent holders root
    → IsAugmentingPath adjacent holders visits place right
    → IsShift adjacent holders root visits place right
shift_start adjacent holders root visits place right m p =
    let w = p.within in record {
      within = p.within;
      right_in = p.right_in;
      but = record {
        once = λ b c a nb nc hb hc. m.once b c a (held_not_last holders b a hb) (held_not_last holders c a hc) hb hc;
        along = λ b a nb hb. m.along b a (held_not_last holders b a hb) hb;
        below = λ b a nb hb. m.below b a (held_not_last holders b a hb) hb;
        all = λ a l. let h = m.all a l in record {
          at = h.at;
          is = h.is;
          other = λ e. none_some a (holder holders right) (ap (λ k. holder holders k) (sym e) ∙ h.is) p.free;
        };
      };
      near = p.near;
      waiting = λ j some low. (p.tree.linked j some (omega arith)).held;
      apart = λ j some low e. none_some (visit visits j).left (holder holders right) (ap (λ k. holder holders k) (sym e)
          ∙ (p.tree.linked j some (omega arith)).held) p.free;
    }

-- a right node is given to a left node
module _ (holders : List (Option ℕ)) (right left : ℕ) (inside : right < length holders) where
  abbrev given : List (Option ℕ)
  given = set holders right (Some left)

  given_here : holder given right ≡ Some left
  given_here = get_or-set_same holders right (Some left) None inside

  given_there : (b : ℕ) → b ≢ right → holder given b ≡ holder holders b
  given_there b ne = get_or-set_other holders right b (Some left) None ne

  given_at : (b a : ℕ) → b ≡ right → holder given b ≡ Some a → a ≡ left
  given_at b a e h = same_some a left (holder given right) (ap (λ k. holder given k) (sym e) ∙ h) given_here

module _ (adjacent : List (List ℕ)) (before holders : List (Option ℕ)) (reached : List Bool) (root : ℕ) (visits : List Visit) (place right : ℕ)
    (t : IsTree adjacent before visits reached) (s : IsShift adjacent holders root visits place right) (some : 0 < place) where
  abbrev left : ℕ
  left = (visit visits place).left

  abbrev next : ℕ
  next = (visit visits place).right

  abbrev changed : List (Option ℕ)
  changed = set holders right (Some left)

  there : (b : ℕ) → b ≢ right → holder changed b ≡ holder holders b
  there = given_there holders right left s.right_in

  at_right : (b a : ℕ) → b ≡ right → holder changed b ≡ Some a → a ≡ left
  at_right = given_at holders right left s.right_in

  held : holder holders next ≡ Some left
  held = s.waiting place some (omega arith)

  next_apart : next ≢ right
  next_apart = s.apart place some (omega arith)

  -- another right node that the left node of this visit holds is the next one
  only_next : (c a : ℕ) → a ≡ left → c ≢ right → holder changed c ≡ Some a → c ≡ next
  only_next c a e nc h = s.but.once c next left nc next_apart (sym (there c nc) ∙ h ∙ ap (λ k. Some k) e) held

  pub shift_step : IsShift adjacent changed root visits (visit visits place).from next
  shift_step =
      let link = t.linked place some s.within in
      let w = s.within in
      let earlier = link.earlier in
      let n = held_in holders next left held in
      let long = length-set holders right (Some left) in record {
        within = omega arith;
        right_in = omega arith;
        but = record {
          once = λ b c a nb nc hb hc. ⊎_elim
              (λ (eb : b ≡ right). ⊎_elim
              (λ (ec : c ≡ right). eb ∙ sym ec)
              (λ dc. absurd (nc (only_next c a (at_right b a eb hb) dc hc)))
              (cases_eq c right))
              (λ db. ⊎_elim
              (λ (ec : c ≡ right). absurd (nb (only_next b a (at_right c a ec hc) db hb)))
              (λ dc. s.but.once b c a db dc (sym (there b db) ∙ hb) (sym (there c dc) ∙ hc))
              (cases_eq c right))
              (cases_eq b right);
          along = λ b a nb hb. ⊎_elim
              (λ (eb : b ≡ right). subst (λ k. Near adjacent a k) (sym eb) (subst (λ k. Near adjacent k right) (sym (at_right b a eb hb)) s.near))
              (λ db. s.but.along b a db (sym (there b db) ∙ hb))
              (cases_eq b right);
          below = λ b a nb hb. ⊎_elim
              (λ (eb : b ≡ right). subst (λ k. k < root) (sym (at_right b a eb hb)) (s.but.below next left next_apart held))
              (λ db. s.but.below b a db (sym (there b db) ∙ hb))
              (cases_eq b right);
          all = λ a l.
              let h = s.but.all a l in ⊎_elim
              (λ (e : h.at ≡ next).
              let same : a ≡ left = same_some a left (holder holders next) (ap (λ k. holder holders k) (sym e) ∙ h.is) held in
              record { at = right; is = given_here holders right left s.right_in ∙ ap (λ k. Some k) (sym same); other = λ q. next_apart (sym q) })
              (λ ne. record { at = h.at; is = there h.at h.other ∙ h.is; other = ne })
              (cases_eq h.at next);
        };
        near = link.near;
        waiting = λ j pos low. there (visit visits j).right (s.apart j pos (omega arith)) ∙ s.waiting j pos (omega arith);
        apart = λ j pos low e.
            let q = s.waiting j pos (omega arith) in
            t.differ j place (omega arith) s.within (same_some (visit visits j).left left (holder holders next) (ap (λ k. holder holders k) (sym e)
            ∙ q) held);
      }

module _ (adjacent : List (List ℕ)) (holders : List (Option ℕ)) (root : ℕ) (visits : List Visit) (right : ℕ)
    (s : IsShift adjacent holders root visits 0 right) (first : (visit visits 0).left ≡ root) where
  abbrev full : List (Option ℕ)
  full = set holders right (Some root)

  there_root : (b : ℕ) → b ≢ right → holder full b ≡ holder holders b
  there_root = given_there holders right root s.right_in

  root_at : (b a : ℕ) → b ≡ right → holder full b ≡ Some a → a ≡ root
  root_at = given_at holders right root s.right_in

  not_root : (c a : ℕ) → a ≡ root → c ≢ right → holder full c ≡ Some a → ⊥
  not_root c a e nc h = let b = s.but.below c a nc (sym (there_root c nc) ∙ h) in absurd (omega arith)

  pub shift_end : IsMatching adjacent full (root + 1)
  shift_end =
      let long = length-set holders right (Some root) in
      let inside = s.right_in in record {
        once = λ b c a nb nc hb hc. ⊎_elim
            (λ (eb : b ≡ right). ⊎_elim (λ (ec : c ≡ right). eb ∙ sym ec) (λ dc. absurd (not_root c a (root_at b a eb hb) dc hc)) (cases_eq c right))
            (λ db. ⊎_elim (λ (ec : c ≡ right). absurd (not_root b a (root_at c a ec hc) db hb)) (λ dc. s.but.once b c a db dc (sym (there_root b db)
            ∙ hb) (sym (there_root c dc) ∙ hc)) (cases_eq c right))
            (cases_eq b right);
        along = λ b a nb hb. ⊎_elim
            (λ (eb : b ≡ right). subst (λ k. Near adjacent a k) (sym eb) (subst (λ k. Near adjacent k right) (first ∙ sym (root_at b a eb hb)) s.near))
            (λ db. s.but.along b a db (sym (there_root b db) ∙ hb))
            (cases_eq b right);
        below = λ b a nb hb. ⊎_elim
            (λ (eb : b ≡ right). let e = root_at b a eb hb in omega arith)
            (λ db. let l = s.but.below b a db (sym (there_root b db) ∙ hb) in omega arith)
            (cases_eq b right);
        all = λ a l. ⊎_elim
            (λ (e : a ≡ root). record {
              at = right;
              is = given_here holders right root s.right_in ∙ ap (λ k. Some k) (sym e);
              other =
                  λ q. absurd (omega arith);
            })
            (λ ne. let h = s.but.all a (omega arith) in let k = held_in holders h.at a h.is in
            record { at = h.at; is = there_root h.at h.other ∙ h.is; other = λ q. absurd (omega arith) })
            (cases_eq a root);
      }
