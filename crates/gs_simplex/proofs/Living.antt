-- The places that may have a number other than 0 in a pivot.
use Rattle.std.proofs.{Common.{◌≡◌, ◌≢◌, ℕ, ◌+◌, ◌-◌, ◌<◌, ◌≤◌, inl, inr, List, length, slice_index, slice_set, sym, ap, ◌∙◌, arith}, lemmas.Bool.{cases_lt}}
use Rattle.std.proofs.Common.{get_or-set_other, get_or-set_same, below_more}
use Rattle.gs_simplex.specs.Columns.{AreStands}

-- the places of the first `count` columns
pub record AreLiveSoFar (rows width : ℕ) (stands : ℕ → ℕ) (live : List ℕ) (found count : ℕ) : Type 0 where
  pub some : 1 < found
  pub few : found ≤ count + 2
  pub own : slice_index live 0 ≡ 0
  pub spare : slice_index live 1 ≡ width - 1
  pub inside : (k : ℕ) → k < found → slice_index live k < width
  pub differ : (k h : ℕ) → k < h → h < found → slice_index live k ≢ slice_index live h
  pub slots : (k : ℕ) → 1 < k → k < found → (j : ℕ) × (j < count) × (rows < stands j) × (slice_index live k ≡ stands j - rows)
  pub all : (j : ℕ) → j < count → rows < stands j → (k : ℕ) × (k < found) × (slice_index live k ≡ stands j - rows)

module _ (rows width n : ℕ) (stands : ℕ → ℕ) (live : List ℕ) (found count : ℕ) (st : AreStands rows width n stands) (inside : count < n)
    (u : AreLiveSoFar rows width stands live found count) where
  pub skipped : stands count ≤ rows → AreLiveSoFar rows width stands live found (count + 1)
  skipped h = record {
    some = u.some;
    few = omega (arith, u.few);
    own = u.own;
    spare = u.spare;
    inside = u.inside;
    differ = u.differ;
    slots = λ k k1 kf. (let a = u.slots k k1 kf in (a.0, omega (arith, a.1), a.2, a.3));
    all = below_more (λ j. rows < stands j → (k : ℕ) × (k < found) × (slice_index live k ≡ stands j - rows)) count u.all (λ l. absurd (omega arith));
  }

  module _ (up : rows < stands count) (room : found < length live) where
    abbrev next : List ℕ
    next = slice_set live found (stands count - rows)

    last_is : slice_index next found ≡ stands count - rows
    last_is = get_or-set_same live found (stands count - rows) 0 room

    before_is : (k : ℕ) → k < found → slice_index next k ≡ slice_index live k
    before_is k h = get_or-set_other live found k (stands count - rows) 0 (λ e. omega arith)

    apart : (k : ℕ) → k < found → slice_index live k ≢ stands count - rows
    apart k h e = elim (cases_lt 1 k) [
      | inl more ↦ (let a = u.slots k more h in let q : stands a.0 ≡ stands count = omega (arith, a.2, a.3, e, up) in
          let s : a.0 ≡ count = st.differ a.0 count (omega (arith, a.1, inside)) inside q in absurd (omega (arith, a.1, s)))
      | inr less ↦ elim (cases_lt 0 k) [
        | inl one ↦ (let s : slice_index live k ≡ slice_index live 1 = ap (λ t. slice_index live t) (let z : k ≡ 1 = omega arith in z) in
            absurd (omega (arith, s, u.spare, e, st.inside count inside, up)))
        | inr none ↦ (let s : slice_index live k ≡ slice_index live 0 = ap (λ t. slice_index live t) (let z : k ≡ 0 = omega arith in z) in
            absurd (omega (arith, s, u.own, e, up)))
      ]
    ]

    pub added : AreLiveSoFar rows width stands next (found + 1) (count + 1)
    added = record {
      some = omega (arith, u.some);
      few = omega (arith, u.few);
      own = before_is 0 (omega (arith, u.some)) ∙ u.own;
      spare = before_is 1 u.some ∙ u.spare;
      inside = below_more (λ k. slice_index next k < width) found (λ k h. omega (arith, before_is k h, u.inside k h))
          (omega (arith, last_is, st.inside count inside, up));
      differ = λ k h kh hf e. elim (cases_lt h found) [
        | inl l ↦ u.differ k h kh l (sym (before_is k (omega arith)) ∙ e ∙ before_is h l)
        | inr m ↦ (let s : slice_index next h ≡ slice_index next found = ap (λ t. slice_index next t) (let z : h ≡ found = omega arith in z) in
            apart k (omega arith) (sym (before_is k (omega arith)) ∙ e ∙ s ∙ last_is))
      ];
      slots = λ k k1 kf. below_more (λ k. 1 < k → (j : ℕ) × (j < count + 1) × (rows < stands j) × (slice_index next k ≡ stands j - rows)) found
          (λ k h k1. let a = u.slots k k1 h in (a.0, omega (arith, a.1), a.2, before_is k h ∙ a.3)) (λ k1. (count, omega arith, up, last_is)) k kf k1;
      all = below_more (λ j. rows < stands j → (k : ℕ) × (k < found + 1) × (slice_index next k ≡ stands j - rows)) count
          (λ j h l. let a = u.all j h l in (a.0, omega (arith, a.1), before_is a.0 a.1 ∙ a.2)) (λ l. (found, omega arith, last_is));
    }
