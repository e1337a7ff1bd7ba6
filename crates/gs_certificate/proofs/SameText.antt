-- What is said of a text that is made holds of one that is the same, put together in another way.
use Rattle.std.proofs.Common.{◌≡◌, ◌∙◌, ℕ, List, Result, Ok, Err, IfOk}

-- a text that is another one
pub same_text : {A E : Type 0} (bytes : A → List ℕ) (r : Result A E) (one other : List ℕ) → IfOk r (λ s. bytes s ≡ one) → one ≡ other
    → IfOk r (λ s. bytes s ≡ other)
same_text bytes (Ok s) one other h e = h ∙ e
same_text bytes (Err x) one other h e = tt
