-- What ends pay a player, end by end and class by class. For private functions.
use Rattle.std.specs.Prelude.{ℕ, ◌+◌, ◌-◌, ◌<◌, ◌≤◌, ◌≡◌, List, get_or, length, ℤ, pos}
use Rattle.gs_model.specs.{Classes.{ClassLists, IsClass}, Frame.{Frame, end_count, round_of}, Plans.{Plan}, Positions.{at_end}}
use Rattle.gs_seq.specs.Payoffs.{end_classes, end_sum}
use Rattle.gs_certificate.specs.declared.ends.EndSums.{EndSums}

-- For each of the first `count` ends, `sums` has what the end pays a player at each class of its round, against the other's plan y over classes.
-- `starts` has the place of each end's first class.
pub record AreKept (f : Frame) (lists : ClassLists) (player : ℕ) (y : Plan) (count : ℕ) (starts : List ℕ) (sums : List ℤ) : Type 0 where
  pub long : length starts ≡ count
  pub within : (z : ℕ) → z < count → get_or starts z 0 + end_classes f lists z ≤ length sums
  pub paid : (z c : ℕ) → z < count → IsClass lists (round_of f (at_end z)) c
      → get_or sums (get_or starts z 0 + (c - 1)) (pos 0) ≡ end_sum f lists player y z c

-- the kept sums are what all ends pay a player against the other's plan y over classes
abbrev pub AreSumsPaid : Frame → ClassLists → ℕ → Plan → EndSums → Type 0
AreSumsPaid f lists player y e = AreKept f lists player y (end_count f) e.starts.items e.sums.items
