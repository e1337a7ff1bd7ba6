use Rattle.std.proofs.Common.{◌≡◌, Bool, sym, ap, ◌∙◌, arith}
use Rattle.gs_play.proofs.{Overtaking.{past_quotient, turns_within, within_quotient}, lasting.within_gap.Goals.{After-from, then-before, else-before}}
use Rattle.gs_play.proofs.lasting.within_gap.Goals as goal

most_is : (c : After-from) → c.if-before.most ≡ turns_within c.args.before c.args.gap c.args.gain
most_is c = elim c.if-before.branch [
  | then-before w ↦ w.most-is ∙ ap (λ (b : Bool). turns_within b c.args.gap c.args.gain) (sym w.if-before.true)
  | else-before w ↦ w.most-is ∙ ap (λ (b : Bool). turns_within b c.args.gap c.args.gain) (sym w.if-before.false)
]

pub returns-then-most-from-clause-within : goal.returns-then-most-from-clause-within
returns-then-most-from-clause-within c =
    within_quotient c.args.before c.args.gap c.args.gain c.if-before.most c.if-before.most c.requires.gain
    (most_is (goal.at.returns-then-most-from-clause-within c).After-from) (omega arith)

pub returns-then-most-from-clause-greatest : goal.returns-then-most-from-clause-greatest
returns-then-most-from-clause-greatest c =
    λ l. past_quotient c.args.before c.args.gap c.args.gain c.if-before.most c.requires.gain
    (most_is (goal.at.returns-then-most-from-clause-greatest c).After-from)

pub returns-else-most-from-clause-within : goal.returns-else-most-from-clause-within
returns-else-most-from-clause-within c =
    within_quotient c.args.before c.args.gap c.args.gain c.if-before.most c.args.times c.requires.gain
    (most_is (goal.at.returns-else-most-from-clause-within c).After-from) (omega (arith, c.if-most-from.false, c.from.ensures))

pub returns-then-most-from-clause-some : goal.returns-then-most-from-clause-some
returns-then-most-from-clause-some c = grind arith
