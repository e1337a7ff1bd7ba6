use Rattle.std.proofs.Common.{ap, arith, ◌+◌, ◌≡◌, ◌≢◌, ◌<◌, ◌≤◌, ◌^◌, ℕ, List, ℤ, ◌-ℤ◌, ◌*ℤ◌, unsigned_abs, length, sym, subst, ◌∙◌, to_z, of_z, w64, set}
use Rattle.std.proofs.{lemmas.Grind.{common_steps}, Common.{get_or-set_other, get_or-set_same, below_more}}
use mir.Syntax.{w128}
use Rattle.gs_simplex.specs.Numbers.{at}
use Rattle.gs_simplex.proofs.Fits.{kept_64, kept_128}
use Rattle.gs_simplex.proofs.row.mix.Goals as goal

one_more : (own far : ℤ) (row lead mixed : List ℤ) (j : ℕ) (r : ℤ) → j < length mixed
    → unsigned_abs (at row j) < 2 ^ 62 → unsigned_abs (at lead j) < 2 ^ 62
    → r ≡ to_z w64 (of_z w64 own) *ℤ to_z w64 (of_z w64 (at row j)) -ℤ to_z w64 (of_z w64 far) *ℤ to_z w64 (of_z w64 (at lead j)) → unsigned_abs r ≤ 2 ^ 125
    → ((k : ℕ) → k < j → at mixed k ≡ to_z w64 (of_z w64 own) *ℤ at row k -ℤ to_z w64 (of_z w64 far) *ℤ at lead k)
    → (k : ℕ) → k < j + 1 → at (set mixed j (to_z w128 (of_z w128 r))) k ≡ to_z w64 (of_z w64 own) *ℤ at row k -ℤ to_z w64 (of_z w64 far) *ℤ at lead k
one_more own far row lead mixed j r h nr np e small inv =
    below_more _ _
    (λ k l. let ne : k ≢ j = omega arith in rw get_or-set_other (inv k l))
    (rw get_or-set_same (kept_128 r (omega (arith, small)) ∙ e
    ∙ ap (λ t. to_z w64 (of_z w64 own) *ℤ t -ℤ to_z w64 (of_z w64 far) *ℤ to_z w64 (of_z w64 (at lead j))) (kept_64 (at row j) nr)
    ∙ ap (λ t. to_z w64 (of_z w64 own) *ℤ at row j -ℤ to_z w64 (of_z w64 far) *ℤ t) (kept_64 (at lead j) np)))

one_within : (mixed : List ℤ) (j : ℕ) (r : ℤ) → j < length mixed → unsigned_abs r ≤ 2 ^ 125 → ((k : ℕ) → k < j → unsigned_abs (at mixed k) ≤ 2 ^ 125)
    → (k : ℕ) → k < j + 1 → unsigned_abs (at (set mixed j (to_z w128 (of_z w128 r))) k) ≤ 2 ^ 125
one_within mixed j r h small inv =
    below_more _ _
    (λ k l. let ne : k ≢ j = omega arith in rw get_or-set_other (inv k l))
    (rw get_or-set_same (let P : ℤ → Type 0 = λ t. unsigned_abs t ≤ 2 ^ 125 in subst P (sym (kept_128 r (omega (arith, small)))) small))

pub loop-j-preserved : goal.loop-j-preserved
loop-j-preserved c = record {
  mixed = one_more c.args.own c.args.far c.args.row.now c.args.lead.now c.loop-j.mixed c.loop-j.j c.mixed_number.result (omega arith)
      (c.requires.narrow_row c.loop-j.j c.loop-j-test.true) (c.requires.narrow_lead c.loop-j.j (omega arith))
      c.mixed_number.ensures.value c.mixed_number.ensures.within c.loop-j.invariant.mixed;
  within = one_within c.loop-j.mixed c.loop-j.j c.mixed_number.result (omega arith) c.mixed_number.ensures.within c.loop-j.invariant.within;
}

before_end : (j n end : ℕ) → j < n → n ≤ end → j < end
before_end j n end h l = omega arith

pub returns : goal.returns
returns c = record {
  mixed = λ j h.
      let row = c.args.row.now in let lead = c.args.lead.now in
      c.loop-j.invariant.mixed j (before_end j (length row) c.loop-j.j h c.loop-j-test.false)
      ∙ ap (λ t. t *ℤ at row j -ℤ to_z w64 (of_z w64 c.args.far) *ℤ at lead j) (kept_64 c.args.own c.requires.narrow_own)
      ∙ ap (λ t. c.args.own *ℤ at row j -ℤ t *ℤ at lead j) (kept_64 c.args.far c.requires.narrow_far);
  within = λ j h. c.loop-j.invariant.within j (omega arith);
}

pub mixed_number-requires : goal.mixed_number-requires
mixed_number-requires c = grind (arith, common_steps)
