-- Numbers that wrap around at 64 bits, and their sums.
use Rattle.std.proofs.Common.{◌≡◌, ℕ, ◌+◌, ◌-◌, ◌^◌, ◌<◌, ◌≤◌, sym, ap, ◌∙◌, arith}
use Rattle.std.specs.{Prelude.{ℤ, ◌+ℤ◌, unsigned_abs}, List.{range_with_len}}
use Rattle.std.proofs.lemmas.Int.{SFits-int_wrap, fits_signed_from_abs, int_wrap-add_left, int_wrap-add_right, int_wrap_fits}
use mir.Syntax.{w64}
use Rattle.gs_model.specs.Sums.{sum_z}
use Rattle.gs_best.proofs.Ranges.{run_step}
use Rattle.gs_play.specs.Lines.{wrapped}

-- a small number does not wrap around
pub unwrapped : (z : ℤ) → unsigned_abs z ≤ 2 ^ 59 → wrapped z ≡ z
unwrapped z h = let small : unsigned_abs z < 2 ^ 63 = omega (arith, h) in int_wrap_fits w64 z (fits_signed_from_abs w64 z small)

pub wrapped_twice : (z : ℤ) → wrapped (wrapped z) ≡ wrapped z
wrapped_twice z = int_wrap_fits w64 (wrapped z) (SFits-int_wrap w64 z)

pub wrapped_sum : (old true_old by more : ℤ) → old ≡ wrapped true_old → wrapped by ≡ wrapped more → wrapped (old +ℤ by) ≡ wrapped (true_old +ℤ more)
wrapped_sum old true_old by more e h =
    ap (λ x. wrapped (x +ℤ by)) e ∙ int_wrap-add_left w64 true_old by ∙ sym (int_wrap-add_right w64 true_old by) ∙ ap (λ x. wrapped (true_old +ℤ x)) h
    ∙ int_wrap-add_right w64 true_old more

-- one more number of a sum that wraps around
one_more : (u : ℕ → ℤ) (i : ℕ) → sum_z u (range_with_len 0 i) +ℤ u i ≡ sum_z u (range_with_len 0 (i + 1))
one_more u i =
    let a : i ≡ i - 0 = omega arith in
    let b : i + 1 - 0 ≡ i + 1 = omega arith in
    run_step u 0 i (sum_z u (range_with_len 0 i)) (omega arith) (ap (λ n. sum_z u (range_with_len 0 n)) a) ∙ ap (λ n. sum_z u (range_with_len 0 n)) b

pub wrapped_more : (u : ℕ → ℤ) (i : ℕ) (all x : ℤ) → all ≡ wrapped (sum_z u (range_with_len 0 i)) → x ≡ u i
    → wrapped (all +ℤ x) ≡ wrapped (sum_z u (range_with_len 0 (i + 1)))
wrapped_more u i all x e is =
    ap (λ v. wrapped (v +ℤ x)) e ∙ int_wrap-add_left w64 (sum_z u (range_with_len 0 i)) x ∙ ap (λ v. wrapped (sum_z u (range_with_len 0 i) +ℤ v)) is
    ∙ ap wrapped (one_more u i)
