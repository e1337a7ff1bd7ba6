-- When a call may return a fault: the fault count of its source or sink has risen.
use Rattle.std.specs.Prelude.{◌≡◌, ℕ, ◌+◌, ◌-◌, ◌^◌, ◌≤◌, min, OnOk, OnErr, Result}

-- the count of faults after one more fault; it stops at 2^64 - 1
abbrev pub raised : ℕ → ℕ
raised faults = min (faults + 1) (2 ^ 64 - 1)

-- the count has not fallen, and it rose in the call or stands at the last value of its type
pub record Rose (before now : ℕ) : Type 0 where
  pub later : before ≤ now
  pub higher : raised before ≤ now

-- the count is unchanged at `Ok`, and rose at `Err`
pub record HasCause {T E : Type 0} (before now : ℕ) (result : Result T E) : Type 0 where
  pub ok : OnOk result (now ≡ before)
  pub failed : OnErr result (Rose before now)
