-- Blocks of 64 places.
use Rattle.std.proofs.Common.{◌≡◌, ℕ, ◌*◌, ◌/◌, ◌<◌, ◌≤◌, List, length, get_or, set, sym, subst, arith, ⊎_elim, get_or-set_other, get_or-set_same}
use Rattle.std.proofs.{lemmas.Bool.{cases_eq}, Math.Nat.{div-mul-le_self}}

pub in_block : (k : ℕ) → (k / 64) * 64 ≤ k
in_block k = div-mul-le_self k 64

pub renewed : (turns soonest : List ℕ) (block from stop n : ℕ) → block < length soonest → from ≡ block * 64
    → ((k : ℕ) → k < length turns → k / 64 ≡ block → k < stop) → ((k : ℕ) → from ≤ k → k < stop → n ≤ get_or turns k 0)
    → ((k : ℕ) → k < length turns → get_or soonest (k / 64) 0 ≤ get_or turns k 0)
    → (k : ℕ) → k < length turns → get_or (set soonest block n) (k / 64) 0 ≤ get_or turns k 0
renewed turns soonest block from stop n lb at whole here old k lk = ⊎_elim
    (λ (is : k / 64 ≡ block).
    let e : get_or (set soonest block n) (k / 64) 0 ≡ n = subst (λ i. get_or (set soonest block n) i 0 ≡ n) (sym is) (get_or-set_same soonest block n 0 lb) in
    let lo : from ≤ k = omega (arith, at, is, in_block k) in
    let h = here k lo (whole k lk is) in
    omega (arith, e, h))
    (λ (other : k / 64 ≡ block → ⊥).
    let e = get_or-set_other soonest block (k / 64) n 0 other in
    let h = old k lk in
    omega (arith, e, h))
    (cases_eq (k / 64) block)
