-- A reading whose step passes something on: what is said of the reading that goes on is said of the whole.
use Rattle.std.proofs.Common.{◌≡◌, Result, Ok, sym, subst}
use Rattle.gs_json.specs.Steps.{Then}

pub passes : {A B E : Type 0} (r : Result A E) (x : A) (next : A → Result B E → Type 0) (says : (Result B E → Type 0) → Type 0) → r ≡ Ok x → says (next x)
    → says (Then r next)
passes r x next says e h = subst (λ q. says (Then q next)) (sym e) h
