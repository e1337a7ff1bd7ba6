-- The first greatest of some lines: one line more, and as long as no line overtakes it.
use Rattle.std.proofs.{Common.{◌≡◌, ◌≢◌, ℕ, ◌+◌, ◌<◌, ◌≤◌, true, List, length, refl, sym, ap, subst, arith, ⊎_elim}, lemmas.Bool.{cases_eq}, lemmas.Int.{ints}}
use Rattle.std.specs.Prelude.{ℤ, ◌≤ℤ◌, ◌<ℤ◌, nat_lt}
use Rattle.gs_best.specs.Rows.{IsFirstGreatest}
use Rattle.gs_play.proofs.Behind.{before_from, greatest_with}
use Rattle.gs_play.specs.{Lines.{StaysBehind, StaysFirst, line_at, value_in}, declared.line.Line.{Line}}

-- ---- one number more

pub first_one : (u : ℕ → ℤ) (value : ℤ) → value ≡ u 0 → IsFirstGreatest u 1 value 0
first_one u value e = record {
  in_range = omega arith;
  reached = e;
  none_more = λ m lm. let z : m ≡ 0 = omega (arith, lm) in let k : u m ≡ u 0 = ap u z in omega (arith, ints, e, k);
  none_before = λ m lm. absurd (omega (arith, lm));
}

pub first_more : (u : ℕ → ℤ) (n place : ℕ) (most value : ℤ) → value ≡ u n → most <ℤ value → IsFirstGreatest u n most place → IsFirstGreatest u (n + 1) value n
first_more u n place most value e l h = record {
  in_range = omega arith;
  reached = e;
  none_more = λ m lm. ⊎_elim
      (λ (is : m ≡ n). let k : u m ≡ u n = ap u is in omega (arith, ints, e, k))
      (λ (other : m ≡ n → ⊥). let k = h.none_more m (omega (arith, lm, other)) in omega (arith, ints, k, l))
      (cases_eq m n);
  none_before = λ m lm. let k = h.none_more m lm in omega (arith, ints, k, l);
}

pub first_kept : (u : ℕ → ℤ) (n place : ℕ) (most : ℤ) → u n ≤ℤ most → IsFirstGreatest u n most place → IsFirstGreatest u (n + 1) most place
first_kept u n place most l h = record {
  in_range = (let k = h.in_range in omega (arith, k));
  reached = h.reached;
  none_more = λ m lm. ⊎_elim
      (λ (is : m ≡ n). let k : u m ≡ u n = ap u is in omega (arith, ints, l, k))
      (λ (other : m ≡ n → ⊥). h.none_more m (omega (arith, lm, other)))
      (cases_eq m n);
  none_before = h.none_before;
}

-- ---- no line overtakes

module _ (lines : List Line) (best now : ℕ) where
  -- a line does not overtake the chosen one before a turn
  abbrev pub Here : ℕ → ℕ → Type 0
  Here m until = m ≢ best → StaysBehind (nat_lt m best) (line_at lines best) (line_at lines m) now until

  -- so for the first lines
  abbrev pub Before : ℕ → ℕ → Type 0
  Before n until = (m : ℕ) → m < n → Here m until

  pub one_more : (n until less : ℕ) → less ≤ until → Before n until → Here n less → Before (n + 1) less
  one_more n until less l h here m lm = ⊎_elim
      (λ (is : m ≡ n). subst (λ i. Here i less) (sym is) here)
      (λ (other : m ≡ n → ⊥). λ ne t lo hi. h m (omega (arith, lm, other)) ne t lo (omega (arith, hi, l)))
      (cases_eq m n)

  pub fewer : (n until : ℕ) → Before (n + 1) until → Before n until
  fewer n until h m lm = h m (omega (arith, lm))

  pub no_more : (n last left less : ℕ) → less ≤ left → (left < last → Before n (left + 1) → ⊥) → (less < left → Here n (less + 1) → ⊥)
      → less < last → Before (n + 1) (less + 1) → ⊥
  no_more n last left less l before here = greatest_with (Before n) (Here n) (Before (n + 1)) last left less l before here (fewer n)
      (λ until h. h n (omega arith))

  before_is : (m : ℕ) → m < best → nat_lt m best ≡ true
  before_is m l = grind arith

  -- of all lines
  pub first_by : (until : ℕ) → best < length lines → Before (length lines) until → StaysFirst lines best now until
  first_by until inside h t lo hi = record {
    in_range = inside;
    reached = refl;
    none_more = λ m lm. ⊎_elim
        (λ (is : m ≡ best). let k : value_in (line_at lines m) t ≡ value_in (line_at lines best) t = ap (λ i. value_in (line_at lines i) t)
        is in omega (arith, ints, k))
        (λ (other : m ≡ best → ⊥). (h m lm other t lo hi).most)
        (cases_eq m best);
    none_before = λ m lm. (h m (omega (arith, lm, inside)) (λ e. omega (arith, lm, e)) t lo hi).less (before_is m lm);
  }

  pub by_first : (until : ℕ) → StaysFirst lines best now until → Before (length lines) until
  by_first until h m lm ne t lo hi = record {
    most = (h t lo hi).none_more m lm;
    less = λ b. (h t lo hi).none_before m (before_from m best b);
  }
