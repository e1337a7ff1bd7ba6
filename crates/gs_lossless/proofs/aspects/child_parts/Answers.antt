use Rattle.std.proofs.{Common.{◌≡◌, ◌+◌, ◌-◌, ℕ, List, [], ◌∷◌, ◌++◌, ap, map, sym, ◌∙◌, arith}, lemmas.List.FromFn.{map-range_with_len_more}}
use Rattle.std.specs.List.{range_with_len}
use Rattle.gs_lossless.specs.{Amounts.{counted_part}, declared.parts.Part.{Part}}
use Rattle.gs_lossless.proofs.aspects.child_parts.Goals as goal

pub loop-child-preserved : goal.loop-child-preserved
loop-child-preserved c =
    let part = counted_part c.args.keys.now in
    let first = c.args.run.first in
    let x = c.loop-child.child in
    let here : first + (x - first) ≡ x = omega arith in
    let more : x - first + 1 ≡ x + 1 - first = omega arith in
    c.in_ok-push.ensures.items
    ∙ ap (λ (xs : List Part). xs ++ part x ∷ []) c.loop-child.invariant
    ∙ sym (map-range_with_len_more part first (x - first) x here)
    ∙ ap (λ (n : ℕ). map part (range_with_len first n)) more
