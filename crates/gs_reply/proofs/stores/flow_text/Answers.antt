use Rattle.std.proofs.Common.{◌≡◌, ◌∙◌, ℕ, List, Result, Ok, Err, IfOk, append_assoc, string_bytes}
use Rattle.gs_reply.proofs.stores.flow_text.Goals as goal

-- a text that is another one
same_text : {A E : Type 0} (bytes : A → List ℕ) (r : Result A E) (one other : List ℕ) → IfOk r (λ s. bytes s ≡ one) → one ≡ other
    → IfOk r (λ s. bytes s ≡ other)
same_text bytes (Ok s) one other h e = h ∙ e
same_text bytes (Err x) one other h e = tt

pub returns : goal.returns
returns c = same_text string_bytes c.format.result _ _ c.format.ensures.ok (simp append_assoc)
