-- A list that has one thing everywhere.
use Rattle.std.proofs.{Common.{◌≡◌, ℕ, ◌<◌, ◌≤◌, get_or, replicate, arith, ⊎_elim}, lemmas.Bool.{cases_lt}}
use Rattle.std.proofs.lemmas.List.{get_or-replicate, get_or_past, length-replicate}

-- it has that at each place, and past its end if that is what is read there
pub same_at : {X : Type 0} (n k : ℕ) (x : X) → get_or (replicate n x) k x ≡ x
same_at n k x = ⊎_elim
    (λ (l : k < n). get_or-replicate n k x x l)
    (λ (past : n ≤ k). get_or_past (replicate n x) k x (omega (arith, length-replicate n x, past)))
    (cases_lt k n)
