use Rattle.std.proofs.Common.{ℕ, List, Vec, ◌++◌, ap, ap₂, ◌∙◌}
use Rattle.std.specs.declared.alloc.Global.{Global}
use Rattle.gs_reply.proofs.stores.game_text.Goals as goal

pub returns : goal.returns
returns c =
    let text = ap (λ (v : Vec ℕ Global). v.items) c.into_bytes-text.ensures.value ∙ c.in_ok-from_str.ensures.ok in
    c.in_ok-extend_from_slice.ensures.items
    ∙ ap₂ (λ (a b : List ℕ). a ++ b) text (c.deref.ensures.value ∙ c.in_ok-wrong.ensures)
