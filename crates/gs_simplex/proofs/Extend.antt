-- A path made one step longer, by a pair of the opening or by a pivot.
use Rattle.std.proofs.{Common.{◌≡◌, ℕ, suc, ◌<◌, ◌≤◌, ◌⊎◌, inl, inr, length, take, ℤ, sym, subst, arith}, lemmas.Bool.{cases_eq, cases_lt}}
use Rattle.gs_simplex.specs.{declared.program.Program.{Program}, Program.{Listing, IsRowsOf}, Path.{IsPivot, States, IsPath, AllNarrow}}

-- x in the first case, and y in the second
abbrev pub pick : {A B X : Type 0} → A ⊎ B → X → X → X
pick q x y = elim q [ inl h ↦ x | inr h ↦ y ]

-- the steps up to t, and then this list with its rows; column f enters and column d leaves in the pivot to it
abbrev pub longer : ℕ → States → Listing → (ℕ → ℕ → ℤ) → (ℕ → ℤ) → ℕ → ℕ → States
longer t s next Q b f d = record {
  lists = λ k. pick (cases_lt t k) next (s.lists k);
  rows = λ k. pick (cases_lt t k) Q (s.rows k);
  aim = λ k. pick (cases_lt t k) b (s.aim k);
  entering = λ k. pick (cases_eq k t) f (s.entering k);
  leaving = λ k. pick (cases_eq k t) d (s.leaving k);
}

module _ (t : ℕ) (s : States) (next : Listing) (Q : ℕ → ℕ → ℤ) (b : ℕ → ℤ) (f d : ℕ) where
  abbrev more : States
  more = longer t s next Q b f d

  pub last_step : (P : Listing → (ℕ → ℕ → ℤ) → (ℕ → ℤ) → Type 0) → P next Q b → P (more.lists (suc t)) (more.rows (suc t)) (more.aim (suc t))
  last_step P u = elim (cases_lt t (suc t)) as (λ q. P (pick q next (s.lists (suc t))) (pick q Q (s.rows (suc t))) (pick q b (s.aim (suc t))))
      [ inl h ↦ u | inr h ↦ absurd (omega arith) ]

  old_step : (P : Listing → (ℕ → ℕ → ℤ) → (ℕ → ℤ) → Type 0) (k : ℕ) → k ≤ t → P (s.lists k) (s.rows k) (s.aim k)
      → P (more.lists k) (more.rows k) (more.aim k)
  old_step P k kt u = elim (cases_lt t k) as (λ q. P (pick q next (s.lists k)) (pick q Q (s.rows k)) (pick q b (s.aim k)))
      [ inl h ↦ absurd (omega arith) | inr h ↦ u ]

  -- what holds of the old steps and of the new one holds of all
  each_step : (P : ℕ → Listing → (ℕ → ℕ → ℤ) → (ℕ → ℤ) → Type 0) → ((k : ℕ) → k ≤ t → P k (s.lists k) (s.rows k) (s.aim k)) → P (suc t) next Q b
      → (k : ℕ) → k ≤ suc t → P k (more.lists k) (more.rows k) (more.aim k)
  each_step P old new k h = elim (cases_lt t k) [
    | inl l ↦ (let e : suc t ≡ k = omega arith in let S : ℕ → Type 0 = λ x. P x (more.lists x) (more.rows x) (more.aim x) in
        subst S e (last_step (λ l R a. P (suc t) l R a) new))
    | inr l ↦ old_step (λ l R a. P k l R a) k l (old k l)
  ]

  -- the new list is that of an opening step, or a pivot leads to it
  pub path_longer : (p : Program) (o : Listing) → IsPath p o t s → (0 < t → AllNarrow p (s.rows t) (s.aim t)) → IsRowsOf p next Q b
      → (t < length o → next ≡ take (suc t) o) → (length o ≤ t → IsPivot p (s.lists t) (s.rows t) (s.aim t) next f d) → IsPath p o (suc t) more
  path_longer p o w narrow rows opens turn = record {
    opens = each_step (λ k l R a. k ≤ length o → l ≡ take k o) (λ k kt ko. w.opens k kt ko) (λ ko. opens (omega arith));
    pivots = λ k ok kt. elim (cases_eq k t) as (λ q. IsPivot p (more.lists k) (more.rows k) (more.aim k) (more.lists (suc k)) (pick q f (s.entering k))
        (pick q d (s.leaving k))) [
          | inl e ↦ (let P : ℕ → Type 0 = λ x. IsPivot p (more.lists x) (more.rows x) (more.aim x) (more.lists (suc x)) f d in
              subst P (sym e) (last_step (λ l R a. IsPivot p (more.lists t) (more.rows t) (more.aim t) l f d)
              (old_step (λ l R a. IsPivot p l R a next f d) t (omega arith) (turn (omega arith)))))
          | inr ne ↦ old_step (λ l R a. IsPivot p (more.lists k) (more.rows k) (more.aim k) l (s.entering k) (s.leaving k)) (suc k) (omega arith)
              (old_step (λ l R a. IsPivot p l R a (s.lists (suc k)) (s.entering k) (s.leaving k)) k (omega arith) (w.pivots k ok (omega arith)))
        ];
    rows = each_step (λ k l R a. IsRowsOf p l R a) (λ k kt. w.rows k kt) rows;
    narrow = λ k k0 kt. old_step (λ l R a. AllNarrow p R a) k (omega arith) (elim (cases_eq k t) [
      | inl e ↦ (let P : ℕ → Type 0 = λ x. AllNarrow p (s.rows x) (s.aim x) in subst P (sym e) (narrow (omega arith)))
      | inr ne ↦ w.narrow k k0 (omega arith)
    ]);
  }
