use Rattle.std.proofs.Common.{◌<◌, ◌^◌, List, ℕ, ◌++◌, sym, ap, subst, ◌∙◌}
use Rattle.std.specs.{Prelude.{ℤ, unsigned_abs}, Fmt.{signed_decimal}}
use Rattle.gs_certificate.proofs.PlainTexts.{kept, number_is}
use Rattle.gs_certificate.proofs.straight.wide_in.Goals as goal

pub returns-in-Some-clause-text : goal.returns-in-Some-clause-text
returns-in-Some-clause-text c =
    let p = number_is c.in_ok-text.text.now _ (sym c.in-Some.ensures) in
    c.in_ok-text.ensures ∙ ap (λ (q : List ℕ). q ++ c.in_ok-text.rest.now) (p.0 ∙ ap signed_decimal (kept c.in-Some.number p.1))

pub returns-in-Some-clause-small : goal.returns-in-Some-clause-small
returns-in-Some-clause-small c =
    let p = number_is c.in_ok-text.text.now _ (sym c.in-Some.ensures) in
    subst (λ (z : ℤ). unsigned_abs z < 2 ^ 90) (kept c.in-Some.number p.1) p.1
