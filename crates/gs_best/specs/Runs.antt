-- The classes of a later round that descend from a class: over lossless classes a run of numbers.
use Rattle.std.specs.Prelude.{ℕ, ◌+◌, ◌<◌, ◌≤◌, ◌≡◌}
use Rattle.gs_model.specs.{Classes.{ClassLists, IsClass, class_count}, Frame.{Frame}}
use Rattle.gs_best.specs.ClassTotals.{earlier_class}

-- the classes of round `at` below a class of an earlier round are those from `first` up to `end`, which is not one of them
pub record IsClassRun (f : Frame) (lists : ClassLists) (at round class first end : ℕ) : Type 0 where
  pub some : 0 < first
  pub ordered : first ≤ end
  pub within : end ≤ class_count lists at + 1
  pub inside : (k : ℕ) → IsClass lists at k → earlier_class f lists at round k ≡ class → (first ≤ k) × (k < end)
  pub back : (k : ℕ) → first ≤ k → k < end → earlier_class f lists at round k ≡ class
