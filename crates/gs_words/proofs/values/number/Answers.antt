use Rattle.std.proofs.Common.{◌≡◌, ◌∙◌, true, sym, arith, rules}
use Rattle.gs_frac.specs.Texts.{is_numeral}
use Rattle.gs_words.proofs.Numbers.{inside, outside, too_large}
use Rattle.gs_words.proofs.values.number.Goals as goal

pub returns-in_err-number-clause-value : goal.returns-in_err-number-clause-value
returns-in_err-number-clause-value c =
    let numeral : is_numeral c.args.word.now ≡ true = search rules in
    c.from_residual.ensures ∙ sym (too_large c.args.word.now c.args.least c.args.most c.parse.result numeral (omega arith) c.parse.ensures.value.0
    (sym c.in_err-number.ensures.value))

pub returns-else-least-number-clause-value : goal.returns-else-least-number-clause-value
returns-else-least-number-clause-value c =
    let numeral : is_numeral c.args.word.now ≡ true = search rules in
    outside c.args.word.now c.args.least c.args.most c.in_ok-number.number c.parse.result numeral c.parse.ensures.value.0 c.in_ok-number.ensures.value
    c.else-least-number.either

pub returns-then-number-most-clause-value : goal.returns-then-number-most-clause-value
returns-then-number-most-clause-value c =
    let numeral : is_numeral c.args.word.now ≡ true = search rules in
    inside c.args.word.now c.args.least c.args.most c.in_ok-number.number c.parse.result numeral c.parse.ensures.value.0 c.in_ok-number.ensures.value
    c.if-least-number.true c.if-number-most.true

pub returns-then-number-most-clause-within : goal.returns-then-number-most-clause-within
returns-then-number-most-clause-within c = (c.if-least-number.true, c.if-number-most.true)

pub returns-in_err-number-clause-within : goal.returns-in_err-number-clause-within
returns-in_err-number-clause-within c = rw c.from_residual.ensures tt
