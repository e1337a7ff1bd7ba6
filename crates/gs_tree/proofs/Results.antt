-- What holds where a call went well.
use Rattle.std.proofs.Common.{◌≡◌, ◌∙◌}
use Rattle.std.specs.Prelude.{OnOk, Result, Ok, Err, if◌then◌else◌, is_ok}

-- what holds anyway
pub held : {A E : Type 0} (r : Result A E) (P : Type 0) → P → OnOk r P
held (Ok x) P h = h
held (Err x) P h = tt

-- what follows from what holds there
pub passed : {A E P Q : Type 0} (r : Result A E) → (P → Q) → OnOk r P → OnOk r Q
passed (Ok x) f h = f h
passed (Err x) f h = tt

-- what the call leaves then
pub left_where_ok : {A E X : Type 0} (r : Result A E) (now some none more : X) → now ≡ (if is_ok r then some else none) → some ≡ more → OnOk r (now ≡ more)
left_where_ok (Ok x) now some none more e same = e ∙ same
left_where_ok (Err x) now some none more e same = tt
