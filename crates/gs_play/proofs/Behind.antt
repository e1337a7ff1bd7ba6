-- Numbers that stay behind others: part by part, and for equal numbers.
use Rattle.std.proofs.{Common.{◌≡◌, ℕ, ◌+◌, ◌<◌, ◌≤◌, Bool, subst, arith, ⊎_elim}, lemmas.Bool.{cases_lt}}
use Rattle.std.specs.Prelude.{ℤ, IsTrue, nat_lt}
use Rattle.gs_play.specs.Lasting.{IsBehind}

-- with one part more, the greatest number for the parts so far becomes the greatest for all
pub greatest_with : (Before Here Both : ℕ → Type 0) (times left less : ℕ) → less ≤ left → (left < times → Before (left + 1) → ⊥)
    → (less < left → Here (less + 1) → ⊥) → ((n : ℕ) → Both n → Before n) → ((n : ℕ) → Both n → Here n) → less < times → Both (less + 1) → ⊥
greatest_with Before Here Both times left less most before here first last l h = ⊎_elim
    (λ (fewer : less < left). here fewer (last (less + 1) h))
    (λ (from : left ≤ less).
    let e : less ≡ left = omega (arith, most, from) in before (omega (arith, l, e)) (subst (λ n. Before (n + 1)) e (first (less + 1) h)))
    (cases_lt less left)

-- the same numbers
pub behind_same : (before : Bool) (a a' b b' c c' d d' : ℤ) (times : ℕ) → a ≡ a' → b ≡ b' → c ≡ c' → d ≡ d' → IsBehind before a b c d times
    → IsBehind before a' b' c' d' times
behind_same before a a' b b' c c' d d' times ea eb ec ed h =
    subst (λ x. IsBehind before x b' c' d' times) ea (subst (λ x. IsBehind before a x c' d' times) eb
    (subst (λ x. IsBehind before a b x d' times) ec (subst (λ x. IsBehind before a b c x times) ed h)))

pub before_from : (m n : ℕ) → IsTrue (nat_lt m n) → m < n
before_from m n t = grind (arith, t)
