-- Robinson's theorem, as laws. Each is the clause of a function with an empty body. Source: Robinson 1951.
use Rattle.std.specs.Prelude.{ℕ, ◌*◌, ◌<◌, ◌≤◌, ◌≡◌, ℤ, pos, ◌-ℤ◌, ◌*ℤ◌, ◌≤ℤ◌}
use Rattle.gs_robinson.specs.Matrix.{IsMatrix, IsWithin, AreTurns}

-- for each fraction 1 / q there is a number T, from the sizes, the bound a of the entries and the bound g of the start alone. From the turn T on, no row
-- total is more than t / q above a column total after t turns. The turns may start with any totals whose row totals are at most g above the column totals
abbrev pub TurnsConvergeFrom : Type 0
TurnsConvergeFrom =
    (m n a q g : ℕ) → (T : ℕ) × ((turns : ℕ) (A U V : ℕ → ℕ → ℤ) (row column : ℕ → ℕ) → IsMatrix a m n A → AreTurns m n turns A U V row column
    → IsWithin m n U V 0 g → (t : ℕ) → T ≤ t → t ≤ turns → (h : ℕ) × (q * h ≤ t) × IsWithin m n U V t h)

-- Robinson's theorem: for each matrix and each fraction p / q above 0 there is a turn from which on the greatest row total less the least column total, times
-- q, is at most p times the number of turns
abbrev pub TurnsConverge : Type 0
TurnsConverge =
    (m n a g p q : ℕ) → 0 < p → (T : ℕ) × ((A U V : ℕ → ℕ → ℤ) (row column : ℕ → ℕ) → IsMatrix a m n A
    → ((turns : ℕ) → AreTurns m n turns A U V row column) → IsWithin m n U V 0 g
    → (t i j : ℕ) → T ≤ t → i < m → j < n → (pos q *ℤ (V t i -ℤ U t j)) ≤ℤ pos (p * t))

-- from any totals there are turns of any number
abbrev pub TurnsExist : Type 0
TurnsExist =
    (m n turns : ℕ) (A : ℕ → ℕ → ℤ) (u v : ℕ → ℤ) → 0 < m → 0 < n → (U V : ℕ → ℕ → ℤ) × (row column : ℕ → ℕ)
    × AreTurns m n turns A U V row column × ((j : ℕ) → U 0 j ≡ u j) × ((i : ℕ) → V 0 i ≡ v i)
