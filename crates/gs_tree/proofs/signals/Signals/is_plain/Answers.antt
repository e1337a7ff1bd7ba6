use Rattle.std.proofs.Common.{◌≡◌, Bool, true, false, refl}
use Rattle.std.specs.Prelude.{MatchBool}
use Rattle.gs_tree.proofs.signals.Signals.is_plain.Goals as goal

-- what a test says of two facts
both : (P N : Type 0) (b : Bool) → (b ≡ true → P) → (b ≡ false → N) → MatchBool b P N
both P N true pass fail = pass refl
both P N false pass fail = fail refl

pub returns : goal.returns
returns c = both _ _ c.is_plain.result c.is_plain.ensures.plain c.is_plain.ensures.not_plain
