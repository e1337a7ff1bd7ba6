use Rattle.std.proofs.Common.{ℕ, List, Vec, ◌++◌, ap, codes, ◌∙◌}
use Rattle.std.specs.declared.alloc.Global.{Global}
use Rattle.gs_reply.proofs.lines.line_with.Goals as goal

pub returns : goal.returns
returns c =
    let line = ap (λ (v : Vec ℕ Global). v.items) c.into_bytes-line.ensures.value ∙ c.in_ok-format.ensures.ok in
    c.in_ok-push.ensures.items
    ∙ ap (λ (bytes : List ℕ). bytes ++ codes "\n") (c.in_ok-extend_from_slice.ensures.items ∙ ap (λ (bytes : List ℕ). bytes ++ c.args.text.now) line)
