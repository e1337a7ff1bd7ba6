use Rattle.std.proofs.Common.{◌≡◌, ◌≤◌, ◌<◌, ◌+◌, ◌^◌, Bool, true, false, ℕ, arith}
use Rattle.std.specs.Bool.{if◌then◌else◌}
use Rattle.gs_iso.proofs.numbers.number_of.Goals as goal

-- one key more at most
at_most_one : (new : Bool) (after before : ℕ) → after ≡ before + (if new then 1 else 0) → after ≤ before + 1
at_most_one true after before e = omega (arith, e)
at_most_one false after before e = omega (arith, e)

next_small : (new : Bool) (after before place : ℕ) → before + 1 < 2 ^ 32 → after ≡ before + (if new then 1 else 0) → place < after → place + 1 < 2 ^ 32
next_small new after before place few e l = omega (arith, at_most_one new after before e, few, l)

small : (new : Bool) (after before place : ℕ) → before + 1 < 2 ^ 32 → after ≡ before + (if new then 1 else 0) → place < after → place < 2 ^ 32
small new after before place few e l = omega (arith, next_small new after before place few e l)

pub returns-clause-stored : goal.returns-clause-stored
returns-clause-stored c = grind arith

pub returns-clause-few : goal.returns-clause-few
returns-clause-few g c = at_most_one c.in_ok-index.field-0-1 _ _ c.in_ok-index.ensures.len

pub overflow_add-result : goal.overflow_add-result
overflow_add-result g c =
    omega (arith, next_small c.in_ok-index.field-0-1 _ _ _ c.requires c.in_ok-index.ensures.len c.in_ok-index.ensures.within)

pub overflow_cast-result : goal.overflow_cast-result
overflow_cast-result g c =
    omega (arith, small c.in_ok-index.field-0-1 _ _ _ c.requires c.in_ok-index.ensures.len c.in_ok-index.ensures.within)
