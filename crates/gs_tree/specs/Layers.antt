-- What a signal adds to its parent.
use Rattle.std.specs.Prelude.{ℕ, ◌≤◌, All, List, [], ◌∷◌, length}
use Rattle.gs_card.specs.declared.faults.TheConstants.{MOST_KINDS}
use Rattle.gs_model.specs.Signals.{Seen, Signal}

-- what the last round of a signal shows
abbrev pub last_seen : Signal → Seen
last_seen [] = record { own = []; public = [] }
last_seen (p ∷ []) = p
last_seen (p ∷ q ∷ s) = last_seen (q ∷ s)

-- an own group and a public group, shown together
abbrev pub showing : List ℕ → List ℕ → Seen
showing own public = record { own = own; public = public }

-- the copies that are left, kind by kind: as few kinds and copies as a deck has
pub record AreFew (left : List ℕ) : Type 0 where
  pub kinds : length left ≤ MOST_KINDS
  pub copies : All (λ n. n ≤ 9) left
