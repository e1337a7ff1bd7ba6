-- Sums that are kept modulo 2^32.
use Rattle.std.proofs.{Common.{◌≡◌, ◌+◌, ◌-◌, ◌/◌, ◌%◌, ◌^◌, ◌+ℤ◌, ℕ, ℤ, pos, negsuc, ap, arith, refl, sym, unsigned_abs}, lemmas.Int.{int_rem_euclid_is, ints}}
use Rattle.gs_boards.specs.Boards.{remainder}

-- a machine's sum is the sum modulo 2^32, where one of its terms is kept modulo 2^32
pub remainder_more : (a r : ℕ) (x : ℤ) → pos r ≡ remainder x → pos ((a + r) % 2 ^ 32) ≡ remainder (pos a +ℤ x)
remainder_more a r (pos b) e =
    let is : r ≡ b % 2 ^ 32 = ap unsigned_abs e in
    ap pos (omega (arith, is))
remainder_more a r (negsuc b) e =
    let is : r ≡ 2 ^ 32 - 1 - b % 2 ^ 32 = ap unsigned_abs e in
    sym (int_rem_euclid_is (pos a +ℤ negsuc b) (pos (2 ^ 32)) (2 ^ 32) (b / 2 ^ 32 + 1) (a + r) (omega arith) refl (omega (arith, ints, is)))
