-- What a later round holds below a class, as a sum over a run of its classes.
use Rattle.std.proofs.{Common.{◌≡◌, ℕ, zero, suc, ◌+◌, ◌-◌, ◌<◌, ◌≤◌, Bool, true, false, cond, refl, sym, ap, ◌∙◌, arith}, lemmas.Bool.Decides.{Decides-eqb}}
use Rattle.std.proofs.lemmas.Int.{ints}
use Rattle.std.specs.{Prelude.{◌==◌, ℤ, pos, unsigned_abs}, List.{range_with_len}}
use borrow.Author.Differences.{abs_is}
use Rattle.gs_model.specs.{Classes.{ClassLists, IsClass, class_count}, Frame.{Frame}, Sums.{sum_z}}
use Rattle.gs_model.proofs.{Basics.{not_eq}, Sparse.{range_append, sum_none}, Total.{sum_z-append}}
use Rattle.gs_best.specs.{ClassTotals.{earlier_class, gathered_below}, Runs.{IsClassRun}}
use Rattle.gs_best.proofs.Ranges.{sum_same}

pub gathered_run : (f : Frame) (lists : ClassLists) (at round class first end : ℕ) (v : ℕ → ℤ) → IsClassRun f lists at round class first end
    → gathered_below f lists at round v class ≡ sum_z v (range_with_len first (end - first))
gathered_run f lists at round class first end v run =
    let n = class_count lists at in
    let w : ℕ → ℤ = λ k. cond (earlier_class f lists at round k == class) (v k) (pos 0) in
    let before = first - 1 in
    let mid = end - first in
    let rest = n + 1 - end in
    let e : n ≡ before + (mid + rest) = omega (arith, run.some, run.ordered, run.within) in
    let from : 1 + before ≡ first = omega (arith, run.some) in
    let out : (k : ℕ) → 1 ≤ k → k < 1 + n → ((first ≤ k) × (k < end) → ⊥) → w k ≡ pos 0 =
    λ k lo hi no. ap (λ b. cond b (v k) (pos 0)) (not_eq (earlier_class f lists at round k) class (λ is. no (run.inside k (omega arith, omega arith) is))) in
    let early = sum_none w 1 before (λ m lo hi. out m lo (omega (arith, hi, e)) (λ i. omega (arith, i.0, hi, from))) in
    let inner = sum_same w v first mid (λ m lo hi. ap (λ b. cond b (v m) (pos 0))
    ((Decides-eqb (earlier_class f lists at round m) class).1 (run.back m lo (omega (arith, hi, run.ordered))))) in
    let late = sum_none w (first + mid) rest (λ m lo hi. out m (omega (arith, lo, run.some)) (omega (arith, hi, run.ordered, run.within))
    (λ i. omega (arith, i.1, lo, run.ordered))) in
    let split = ap (λ k. sum_z w (range_with_len 1 k)) e ∙ ap (sum_z w) (range_append 1 before (mid + rest))
    ∙ sum_z-append w (range_with_len 1 before) (range_with_len (1 + before) (mid + rest)) in
    let split2 = ap (λ k. sum_z w (range_with_len k (mid + rest))) from ∙ ap (sum_z w) (range_append first mid rest)
    ∙ sum_z-append w (range_with_len first mid) (range_with_len (first + mid) rest) in
    omega (arith, ints, split, split2, early, inner, late)

-- two sums over ranges whose terms are the same, place by place
pub sum_shift : (u w : ℕ → ℤ) (a b n : ℕ) → ((m : ℕ) → m < n → u (a + m) ≡ w (b + m)) → sum_z u (range_with_len a n) ≡ sum_z w (range_with_len b n)
sum_shift u w a b zero h = refl
sum_shift u w a b (suc n) h =
    let a0 : a + 0 ≡ a = omega arith in
    let b0 : b + 0 ≡ b = omega arith in
    let here = ap u (sym a0) ∙ h 0 (omega arith) ∙ ap w b0 in
    let rest = sum_shift u w (a + 1) (b + 1) n (λ m l.
    let p : (a + 1) + m ≡ a + (m + 1) = omega arith in
    let q : b + (m + 1) ≡ (b + 1) + m = omega arith in
    ap u p ∙ h (m + 1) (omega arith) ∙ ap w q) in
    omega (arith, ints, here, rest)

-- what is gathered hangs on the classes of the round alone
pub gathered_same : (f : Frame) (lists : ClassLists) (from to : ℕ) (v w : ℕ → ℤ) (c : ℕ) → ((k : ℕ) → IsClass lists from k → v k ≡ w k)
    → gathered_below f lists from to v c ≡ gathered_below f lists from to w c
gathered_same f lists from to v w c h =
    sum_same (λ k. cond (earlier_class f lists from to k == c) (v k) (pos 0)) (λ k. cond (earlier_class f lists from to k == c) (w k) (pos 0)) 1
    (class_count lists from)
    (λ k lo hi. ap (λ x. cond (earlier_class f lists from to k == c) x (pos 0)) (h k (omega arith, omega arith)))

pub tested_small : (b : Bool) (x : ℤ) (most : ℕ) → unsigned_abs x ≤ most → unsigned_abs (cond b x (pos 0)) ≤ most
tested_small true x most h = h
tested_small false x most h = omega (arith, ints, abs_is (pos 0))
