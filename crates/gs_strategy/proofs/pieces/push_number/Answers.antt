use Rattle.std.proofs.{Common.{rules, List, ℕ, ◌++◌, ap, sym, ◌∙◌}, lemmas.Fmt.{decimal_digit, length-decimal-le}}
use Rattle.gs_strategy.proofs.pieces.push_number.Goals as goal

pub returns-then-number-lt10 : goal.returns-then-number-lt10
returns-then-number-lt10 c = c.in_ok-push.ensures.items
    ∙ ap (λ (digits : List ℕ). c.args.text.now.items ++ digits) (sym (decimal_digit c.args.number c.if-number-lt10.true))

pub write_digits-start-requires : goal.write_digits-start-requires
write_digits-start-requires c = search (rules, length-decimal-le 20)
