use Rattle.std.proofs.Common.{◌≡◌, ◌≢◌, ℕ, ◌+◌, ◌<◌, ℤ, pos, ◌-ℤ◌, neg_ℤ, unsigned_abs, List, length, set, to_z, of_z, w64, FitsSigned, sym, ap, subst, ◌∙◌}
use Rattle.std.proofs.{Common.{arith, below_more, get_or-set_other, get_or-set_same}, lemmas.Int.{ints, fits_signed_from_abs}}
use Rattle.gs_simplex.specs.{Rows.{IsNarrow}, Numbers.{at}}
use Rattle.gs_simplex.proofs.Fits.{kept_64}
use Rattle.gs_simplex.proofs.table.turn.Goals as goal

negated_abs : (z : ℤ) → unsigned_abs (pos 0 -ℤ z) ≡ unsigned_abs z
negated_abs z = omega (arith, ints)

negated_fits : (z : ℤ) → IsNarrow z → FitsSigned w64 (pos 0 -ℤ to_z w64 (of_z w64 z))
negated_fits z h = let P : ℤ → Type 0 = λ t. FitsSigned w64 (pos 0 -ℤ t) in subst P (sym (kept_64 z h))
    (fits_signed_from_abs w64 (pos 0 -ℤ z) (omega (arith, h, negated_abs z)))

negated_kept : (z : ℤ) → IsNarrow z → to_z w64 (of_z w64 (pos 0 -ℤ to_z w64 (of_z w64 z))) ≡ neg_ℤ z
negated_kept z h =
    ap (λ t. to_z w64 (of_z w64 (pos 0 -ℤ t))) (kept_64 z h) ∙ kept_64 (pos 0 -ℤ z) (omega (arith, h, negated_abs z))
    ∙ (let e : pos 0 -ℤ z ≡ neg_ℤ z = omega (arith, ints) in e)

pub overflow_sub-x : goal.overflow_sub-x
overflow_sub-x c =
    let i = c.loop-x.x-index in
    let P : ℤ → Type 0 = λ t. IsNarrow t in
    negated_fits (at c.loop-x.row i) (subst P (sym (c.loop-x.invariant.left i (omega arith))) (c.requires i c.loop-x-test.true))

one_more : (old row : List ℤ) (i : ℕ) (z : ℤ) → i < length row → z ≡ neg_ℤ (at row i) → at row i ≡ at old i → ((k : ℕ) → k < i → at row k ≡ neg_ℤ (at old k))
    → (k : ℕ) → k < i + 1 → at (set row i z) k ≡ neg_ℤ (at old k)
one_more old row i z h e s inv =
    below_more _ _ (λ k l. let ne : k ≢ i = omega arith in rw get_or-set_other (inv k l)) (rw get_or-set_same (e ∙ ap neg_ℤ s))

pub loop-x-preserved : goal.loop-x-preserved
loop-x-preserved c =
    let i = c.loop-x.x-index in
    let row = c.loop-x.row in
    let P : ℤ → Type 0 = λ t. IsNarrow t in
    let same = c.loop-x.invariant.left i (omega arith) in
    let z = to_z w64 (of_z w64 (pos 0 -ℤ to_z w64 (of_z w64 (at row i)))) in
    record {
      done = one_more c.args.row.now row i z (omega arith) (negated_kept (at row i) (subst P (sym same) (c.requires i c.loop-x-test.true))) same
          c.loop-x.invariant.done;
      left = λ k h. get_or-set_other row i k z (pos 0) (λ e. omega arith) ∙ c.loop-x.invariant.left k (omega arith);
    }

pub returns : goal.returns
returns c = λ j h. c.loop-x.invariant.done j (omega arith)
