use Rattle.std.proofs.Common.{◌≡◌, inl, inr, ℕ, ◌+◌, ◌<◌, ◌≤◌, List, length, slice_index, slice_set, ℤ, pos, to_z, w64, sym, ap, subst, ◌∙◌, arith}
use Rattle.std.proofs.{Common.{get_or-set_other, get_or-set_same}, lemmas.Bool.{cases_eq, cases_lt, cases_order}, lemmas.Int.{to_z_pos}}
use Rattle.gs_simplex.specs.{Numbers.{at}, Support.{IsSupport}}
use Rattle.gs_simplex.proofs.{Fits.{kept_64}, Supports.{AreFilled}}
use Rattle.gs_simplex.proofs.row.fill.Goals as goal

skipped : (row : ℕ → ℤ) (filled : List ℕ) (count j : ℕ) → AreFilled row filled count j → row j ≡ pos 0 → AreFilled row filled count (j + 1)
skipped row filled count j u zero = record {
  few = omega (arith, u.few);
  under = λ k h. omega (arith, u.under k h);
  rises = u.rises;
  all = λ i h none. elim (cases_eq i j) [
    | inl e ↦ ap row e ∙ zero
    | inr ne ↦ u.all i (omega arith) none
  ];
}

module _ (row : ℕ → ℤ) (filled : List ℕ) (count j : ℕ) (inside : count < length filled) (u : AreFilled row filled count j) where
  last_is : slice_index (slice_set filled count j) count ≡ j
  last_is = get_or-set_same filled count j 0 inside

  before_is : (k : ℕ) → k < count → slice_index (slice_set filled count j) k ≡ slice_index filled k
  before_is k h = get_or-set_other filled count k j 0 (λ e. omega arith)

  under_is : (k : ℕ) → k < count + 1 → slice_index (slice_set filled count j) k < j + 1
  under_is k h = elim (cases_lt k count) [
    | inl less ↦ omega (arith, before_is k less, u.under k less)
    | inr more ↦ (let e : k ≡ count = omega arith in let P : ℕ → Type 0 = λ t. slice_index (slice_set filled count j) t < j + 1 in subst P (sym e)
        (omega (arith, last_is)))
  ]

  rises_is : (k h : ℕ) → k < h → h < count + 1 → slice_index (slice_set filled count j) k < slice_index (slice_set filled count j) h
  rises_is k h kh hc = elim (cases_lt h count) [
    | inl less ↦ omega (arith, before_is k (omega arith), before_is h less, u.rises k h kh less)
    | inr more ↦
        (let e : h ≡ count = omega arith in let P : ℕ → Type 0 = λ t. slice_index (slice_set filled count j) k < slice_index (slice_set filled count j) t in
        subst P (sym e) (omega (arith, last_is, before_is k (omega arith), u.under k (omega arith))))
  ]

  added : AreFilled row (slice_set filled count j) (count + 1) (j + 1)
  added = record {
    few = omega (arith, u.few);
    under = under_is;
    rises = rises_is;
    all = λ i h none. elim (cases_eq i j) [
      | inl e ↦ absurd (none count (omega arith) (last_is ∙ sym e))
      | inr ne ↦ u.all i (omega arith) (λ k kc e. none k (omega arith) (before_is k kc ∙ e))
    ];
  }

ended : (row : ℕ → ℤ) (filled : List ℕ) (count width : ℕ) → width ≤ length filled → AreFilled row filled count width → IsSupport filled count width row row
ended row filled count width long u = record {
  few = omega (arith, u.few);
  inside = u.under;
  differ = λ k h kc hc e. elim (cases_order k h) [
    | inl same ↦ same
    | inr x ↦ elim x [ inl less ↦ absurd (omega (arith, u.rises k h less hc)) | inr more ↦ absurd (omega (arith, u.rises h k more kc)) ]
  ];
  outside = λ j h none. (u.all j h none, u.all j h none);
}

pub loop-j-preserved-then-row-j-eq0 : goal.loop-j-preserved-then-row-j-eq0
loop-j-preserved-then-row-j-eq0 c =
    let row = c.args.row.now in let j = c.loop-j.j in
    let z : at row j ≡ pos 0 = sym (kept_64 (at row j) (c.requires.narrow j c.loop-j-test.true)) ∙ ap (to_z w64) c.if-row-j-eq0.true
    ∙ to_z_pos w64 0 (omega arith) in
    skipped (at row) c.loop-j.filled c.loop-j.count j c.loop-j.invariant z

pub loop-j-preserved : goal.loop-j-preserved
loop-j-preserved c =
    let inside : c.loop-j.count < length c.loop-j.filled = omega (arith, c.loop-j.invariant.few, c.loop-j-test.true, c.loop-j.auto.filled, c.requires.room) in
    added (at c.args.row.now) c.loop-j.filled c.loop-j.count c.loop-j.j inside c.loop-j.invariant

pub returns : goal.returns
returns c =
    let row = c.args.row.now in
    let all : c.loop-j.j ≡ length row = omega arith in
    let P : ℕ → Type 0 = λ x. AreFilled (at row) c.loop-j.filled c.loop-j.count x in
    ended (at row) c.loop-j.filled c.loop-j.count (length row) (omega (arith, c.loop-j.auto.filled, c.requires.room)) (subst P all c.loop-j.invariant)
