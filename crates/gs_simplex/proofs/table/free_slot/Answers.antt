use Rattle.std.proofs.{Common.{◌≡◌, ◌≢◌, ℕ, ◌+◌, ◌-◌, ◌<◌, ◌≤◌, ◌^◌, inl, inr, ℤ, pos, unsigned_abs, List, length, sym, ap, subst, ◌∙◌, arith}, lemmas.Bool.{cases_eq}}
use Rattle.gs_simplex.specs.Numbers.{at}
use Rattle.gs_simplex.proofs.table.free_slot.Goals.{After-swap}
use Rattle.gs_simplex.proofs.table.free_slot.Goals as goal

-- what holds of each number holds of each after two are exchanged
exchanged : (P : ℤ → Type 0) (xs ys : List ℤ) (a b : ℕ) → a < length xs → b < length xs → at ys a ≡ at xs b → at ys b ≡ at xs a
    → ((k : ℕ) → k ≢ a → k ≢ b → at ys k ≡ at xs k) → ((j : ℕ) → j < length xs → P (at xs j)) → (j : ℕ) → j < length xs → P (at ys j)
exchanged P xs ys a b al bl first second others h j l = elim (cases_eq j a) [
  | inl e ↦ subst P (sym (ap (at ys) e ∙ first)) (h b bl)
  | inr na ↦ elim (cases_eq j b) [
    | inl e ↦ subst P (sym (ap (at ys) e ∙ second)) (h a al)
    | inr nb ↦ subst P (sym (others j na nb)) (h j l)
  ]
]

slot_in : (q n : ℕ) → q + 1 < n → q < n
slot_in q n h = omega arith

spare_in : (q n : ℕ) → q + 1 < n → n - 1 < n
spare_in q n h = omega arith

each_kept : (c : After-swap) (P : ℤ → Type 0) → ((j : ℕ) → j < length c.args.row.now → P (at c.args.row.now j)) → (j : ℕ) → j < length c.swap.new.self
    → P (at c.swap.new.self j)
each_kept c P h j l =
    let row = c.args.row.now in let by = c.swap.ensures.by_index in let n = length row in
    exchanged P row c.swap.new.self c.args.q (n - 1) (slot_in c.args.q n c.requires.inside) (spare_in c.args.q n c.requires.inside) (by.0 (pos 0))
    (by.1 (pos 0)) (λ k na nb. by.2 k (pos 0) na nb) h j (subst (λ m. j < m) c.swap.auto.self l)

pub returns-then-q-gt0-clause-bound : goal.returns-then-q-gt0-clause-bound
returns-then-q-gt0-clause-bound c = λ most h.
    each_kept (goal.at.returns-then-q-gt0-clause-bound c).After-swap (λ z. unsigned_abs z ≤ most) h

pub returns-then-q-gt0-clause-narrow : goal.returns-then-q-gt0-clause-narrow
returns-then-q-gt0-clause-narrow c =
    each_kept (goal.at.returns-then-q-gt0-clause-narrow c).After-swap (λ z. unsigned_abs z < 2 ^ 62) c.requires.narrow
