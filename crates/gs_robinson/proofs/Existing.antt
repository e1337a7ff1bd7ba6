-- From any totals there are turns of any number: some row and some column is always best.
use Rattle.std.proofs.{Common.{◌≡◌, ℕ, zero, suc, ◌<◌, refl, ◌∙◌, arith, ⊎_elim}, lemmas.Int.{ints}}
use Rattle.std.specs.Prelude.{ℤ, neg_ℤ, ◌≤ℤ◌}
use Rattle.gs_robinson.proofs.Extended.{columns_after, rows_after, row_after, column_after, columns_kept, rows_kept, no_turns, one_more_turn}
use Rattle.gs_robinson.proofs.Integers.{one_more, order_of}
use Rattle.gs_robinson.specs.{Laws.{TurnsExist}, Matrix.{AreTurns}}

greatest : (f : ℕ → ℤ) (n : ℕ) → (i : ℕ) × (i < suc n) × ((j : ℕ) → j < suc n → f j ≤ℤ f i)
greatest f zero = (0, omega arith, one_more (λ j. f j ≤ℤ f 0) 0 (λ j l. absurd (omega arith)) (omega (arith, ints)))
greatest f (suc n) =
    let (i, li, old) = greatest f n in
    ⊎_elim (λ le. (i, (omega arith), one_more (λ j. f j ≤ℤ f i) (suc n) old le))
    (λ gt. (suc n, (omega arith), one_more (λ j. f j ≤ℤ f (suc n)) (suc n) (λ j l. (let h = old j l in omega (arith, ints))) (omega (arith, ints))))
    (order_of (f (suc n)) (f i))

least : (f : ℕ → ℤ) (n : ℕ) → (i : ℕ) × (i < suc n) × ((j : ℕ) → j < suc n → f i ≤ℤ f j)
least f n =
    let (i, li, best) = greatest (λ j. neg_ℤ (f j)) n in
    (i, li, λ j l. (let h = best j l in omega (arith, ints)))

exist : (m n : ℕ) (A : ℕ → ℕ → ℤ) (u v : ℕ → ℤ) (turns : ℕ) → (U V : ℕ → ℕ → ℤ) × (row column : ℕ → ℕ)
    × AreTurns (suc m) (suc n) turns A U V row column × ((j : ℕ) → U 0 j ≡ u j) × ((i : ℕ) → V 0 i ≡ v i)
exist m n A u v zero = (
  λ t j. u j,
  λ t i. v i,
  λ t. 0,
  λ t. 0,
  no_turns (suc m) (suc n) A (λ t j. u j) (λ t i. v i) (λ t. 0) (λ t. 0),
  λ j. refl,
  λ i. refl,
)
exist m n A u v (suc turns) =
    let (U, V, row, column, p, cs, rs) = exist m n A u v turns in
    let (r, rl, rb) = greatest (V turns) m in
    let (c, cl, cb) = least (U turns) n in (
      columns_after (suc m) (suc n) turns A U V row column p r c,
      rows_after (suc m) (suc n) turns A U V row column p r c,
      row_after (suc m) (suc n) turns A U V row column p r c,
      column_after (suc m) (suc n) turns A U V row column p r c,
      one_more_turn (suc m) (suc n) turns A U V row column p r c rl cl rb cb,
      (λ j. columns_kept (suc m) (suc n) turns A U V row column p r c 0 j (omega arith) ∙ cs j),
      (λ i. rows_kept (suc m) (suc n) turns A U V row column p r c 0 i (omega arith) ∙ rs i),
    )

pub turns_exist : TurnsExist
turns_exist zero n turns A u v some some' = absurd (omega arith)
turns_exist (suc m) zero turns A u v some some' = absurd (omega arith)
turns_exist (suc m) (suc n) turns A u v some some' = exist m n A u v turns
