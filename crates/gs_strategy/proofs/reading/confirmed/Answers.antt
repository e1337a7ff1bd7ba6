use Rattle.std.proofs.Common.{inl, inr, refl, sym, ◌∙◌, subst}
use Rattle.std.specs.Cmp.Lexicographic.{other_text, same_text}
use Rattle.gs_json.specs.Differences.{IsFirstDifference}
use Rattle.gs_strategy.proofs.reading.confirmed.Goals as goal

pub returns-then-eq : goal.returns-then-eq
returns-then-eq c =
    let same = sym (same_text _ _ c.if-eq.ensures) ∙ c.as_slice.ensures.value ∙ c.in_ok-text.ensures in
    inl (same, refl)

pub returns-else-eq : goal.returns-else-eq
returns-else-eq c =
    let at = c.first_difference-at.result in
    let first = subst (λ text. IsFirstDifference c.args.bytes.now text at) (c.deref.ensures.value ∙ c.in_ok-text.ensures) c.first_difference-at.ensures in
    inr (at, ((λ same. other_text _ _ c.if-eq.ensures (c.as_slice.ensures.value ∙ c.in_ok-text.ensures ∙ sym same)), first), refl)
