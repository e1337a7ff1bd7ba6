use Rattle.std.proofs.{lemmas.Bool.Decides.{Decides-eqb}, lemmas.Slice.Eq.{slice_eq-Decides}, Common.{◌≢◌, subst, true≢false, inl, inr, refl, sym, ◌∙◌}}
use Rattle.std.specs.Cmp.Lexicographic.{same_text}
use Rattle.gs_json.specs.Differences.{IsFirstDifference}
use Rattle.gs_certificate.specs.{Texts.{certificate_text}, Views.{certificate_view}}
use Rattle.gs_certificate.proofs.reading.confirmed.Goals as goal

pub returns-then-eq : goal.returns-then-eq
returns-then-eq c = inl (sym (same_text _ _ c.if-eq.ensures) ∙ c.as_slice.ensures.value ∙ c.in_ok-text.ensures, refl)

pub returns-else-eq : goal.returns-else-eq
returns-else-eq c =
    let bytes = c.args.bytes.now in
    let text = certificate_text (certificate_view c.args.c) in
    let tells = slice_eq-Decides Decides-eqb c.as_slice.result.now bytes c.eq.result c.eq.ensures in
    let differ : bytes ≢ text = λ e. true≢false (sym (tells.1 (c.as_slice.ensures.value ∙ c.in_ok-text.ensures ∙ sym e)) ∙ c.if-eq.false) in
    inr (
      c.first_difference-at.result,
      differ,
      subst (λ t. IsFirstDifference bytes t c.first_difference-at.result) (c.deref.ensures.value ∙ c.in_ok-text.ensures) c.first_difference-at.ensures,
      refl,
    )
