-- From the left node of each right node to the right node of each left node.
use Rattle.std.proofs.{Common.{◌≡◌, ◌+◌, ◌<◌, ℕ, Option, Some, None, List, length, get_or, set, sym, ◌∙◌, ap, arith, ⊎_elim}, lemmas.Bool.{cases_eq}}
use Rattle.std.proofs.lemmas.List.{get_or-set_same, get_or-set_other}
use Rattle.gs_match.specs.Search.{holder}
use Rattle.gs_match.proofs.SearchLaws.{same_some, none_some}

-- the list names the right node of each left node that a right node below n is matched with
abbrev pub FoundBelow : List (Option ℕ) → List ℕ → ℕ → Type 0
FoundBelow holders to n = (b a : ℕ) → b < n → holder holders b ≡ Some a → get_or to a 0 ≡ b

module _ (holders : List (Option ℕ)) (to : List ℕ) (right : ℕ) (old : (b a : ℕ) → b < right → holder holders b ≡ Some a → get_or to a 0 ≡ b) where
  pub by_left-some : (left : ℕ) → left < length to → holder holders right ≡ Some left
      → ((b c a : ℕ) → holder holders b ≡ Some a → holder holders c ≡ Some a → b ≡ c)
      → (b a : ℕ) → b < right + 1 → holder holders b ≡ Some a → get_or (set to left right) a 0 ≡ b
  by_left-some left within here once b a lt h = ⊎_elim
      (λ (e : a ≡ left). ap (λ k. get_or (set to left right) k 0) e ∙ get_or-set_same to left right 0 within
      ∙ once right b left here (h ∙ ap (λ k. Some k) e))
      (λ ne. get_or-set_other to left a right 0 ne ∙ old b a (⊎_elim
      (λ (e : b ≡ right). absurd (ne (same_some a left (holder holders right) (ap (λ k. holder holders k) (sym e) ∙ h) here)))
      (λ nb. omega arith)
      (cases_eq b right)) h)
      (cases_eq a left)

  pub by_left-none : holder holders right ≡ None → (b a : ℕ) → b < right + 1 → holder holders b ≡ Some a → get_or to a 0 ≡ b
  by_left-none none b a lt h = old b a (⊎_elim (λ (e : b ≡ right). absurd (none_some a (holder holders right) (ap (λ k. holder holders k) (sym e) ∙ h) none))
      (λ nb. omega arith) (cases_eq b right)) h
