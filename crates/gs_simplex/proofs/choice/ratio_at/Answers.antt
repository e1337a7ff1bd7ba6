use Rattle.std.proofs.Common.{◌≡◌, Bool, true, false, inl, inr, ℤ, pos, ◌<ℤ◌, ◌≤ℤ◌, to_z, of_z, w64, refl, sym, ap, subst, ◌∙◌}
use Rattle.std.specs.Int.Signed.{le_z}
use Rattle.gs_simplex.specs.Rows.{IsNarrow}
use Rattle.gs_simplex.proofs.Fits.{kept_64, le_true, le_false}
use Rattle.gs_simplex.proofs.choice.ratio_at.Goals as goal

true_not_false : true ≡ false → ⊥
true_not_false e = absurd cc

stored_test : (x : ℤ) (t : Bool) → IsNarrow x → le_z (to_z w64 (of_z w64 x)) (pos 0) ≡ t → le_z x (pos 0) ≡ t
stored_test x t h e = ap (λ y. le_z y (pos 0)) (sym (kept_64 x h)) ∙ e

-- the number in the entering column is not above 0
pub returns-then-over-le0 : goal.returns-then-over-le0
returns-then-over-le0 c =
    let t = c.pair_at-row in let o = c.number_at-over in
    let P : ℤ → Type 0 = λ x. x ≤ℤ pos 0 in
    record {
      pair = (
        t.result.0,
        t.result.1,
        t.ensures.pair,
        inr
            (subst P o.ensures.value (le_true o.result (pos 0) (stored_test o.result true o.ensures.narrow c.if-over-le0.true))),
      );
    }

pub returns-then-is_free : goal.returns-then-is_free
returns-then-is_free c = let t = c.pair_at-row in record { pair = (t.result.0, t.result.1, t.ensures.pair, inl (c.is_free.ensures.0 c.if-is_free.true)) }

pub returns : goal.returns
returns c =
    let t = c.pair_at-row in let o = c.number_at-over in let s = c.number_at-side in
    let eo = kept_64 o.result o.ensures.narrow in let es = kept_64 s.result s.ensures.narrow in
    let N : ℤ → Type 0 = λ x. IsNarrow x in let R : ℤ → Type 0 = λ x. pos 0 <ℤ x in record {
      pair = (
        t.result.0,
        t.result.1,
        t.ensures.pair,
        refl,
        λ f. true_not_false (sym (c.is_free.ensures.1 f) ∙ c.if-is_free.false),
        eo ∙ o.ensures.value,
        es
            ∙ s.ensures.value,
      );
      place = refl;
      rises = subst R (sym eo) (le_false o.result (pos 0) (stored_test o.result false o.ensures.narrow c.if-over-le0.false));
      narrow = subst N (sym eo) o.ensures.narrow;
      narrow_side = subst N (sym es) s.ensures.narrow;
    }

pub is_free-requires-clause-shaped : goal.is_free-requires-clause-shaped
is_free-requires-clause-shaped c = c.requires.shaped
