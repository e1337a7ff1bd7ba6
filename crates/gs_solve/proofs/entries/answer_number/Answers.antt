use Rattle.std.proofs.Common.{◌≡◌, ℕ, ◌+◌, ◌*◌, ◌<◌, ◌^◌, get_or, neg_ℤ, unsigned_abs, pos, sym, ap, ◌∙◌, subst, arith}
use Rattle.std.proofs.{Math.Nat.{mul_comm}, lemmas.Grind.{common_steps}, lemmas.List.{get_or_default}, lemmas.Nat.{mul-add-lt}}
use Rattle.gs_simplex.proofs.Fits.{kept_64, narrow_passed}
use Rattle.gs_solve.specs.Layout.{form_number}
use Rattle.gs_solve.proofs.{FormNumbers.{payoff_number}, entries.answer_number.Goals.{After-index}}
use Rattle.gs_solve.proofs.entries.answer_number.Goals as goal

-- the place of a pair of sequences is among as many as the pairs
in_cells : (a b m n count : ℕ) → a < m → b < n → count ≡ m * n → a * n + b < count
in_cells a b m n count h k e = omega (arith, mul-add-lt a n b m h k, mul_comm n m, e)

-- the payoff that is read is narrow
read_narrow : (c : After-index) → unsigned_abs c.index.result.now < 2 ^ 62
read_narrow c =
    let p = c.args.layout.now in
    let k = c.args.col * p.size.twos + c.args.sequence in
    let there = in_cells c.args.col c.args.sequence p.size.ones p.size.twos _ c.if-col-ones.true c.requires.sequence p.cells in
    subst (λ n. unsigned_abs n < 2 ^ 62) (get_or_default p.payoffs.items k (pos 0) c.index.result.now there ∙ sym c.index.ensures) (p.narrow k)

pub index-requires : goal.index-requires
index-requires c =
    let p = c.args.layout.now in
    in_cells c.args.col c.args.sequence p.size.ones p.size.twos _ c.if-col-ones.true c.requires.sequence (p.payoffs.ok.0 ∙ p.cells)

pub negated-requires : goal.negated-requires
negated-requires c = narrow_passed c.index.result.now (read_narrow (goal.at.negated-requires c).After-index)

pub returns-then-col-ones-clause-narrow : goal.returns-then-col-ones-clause-narrow
returns-then-col-ones-clause-narrow c = narrow_passed c.negated.result c.negated.ensures.narrow

pub returns-then-col-ones-clause-number : goal.returns-then-col-ones-clause-number
returns-then-col-ones-clause-number c = λ f lists u.
    (let p = c.args.layout.now in
    let x = c.index.result.now in
    let s = c.args.col in let t = c.args.sequence in
    let s_in = subst (λ n. s < n) u.size.ones c.if-col-ones.true in
    let t_in = subst (λ n. t < n) u.size.twos c.requires.sequence in
    let read = kept_64 x (read_narrow (goal.at.returns-then-col-ones-clause-number c).After-index) ∙ c.index.ensures
    ∙ ap (λ n. get_or p.payoffs.items (s * n + t) x) u.size.twos ∙ u.payoffs.at s t s_in t_in x in
    kept_64 c.negated.result c.negated.ensures.narrow ∙ c.negated.ensures.number ∙ ap neg_ℤ read
    ∙ sym (ap (λ n. form_number f lists (n + t) s) u.size.one_rows ∙ payoff_number f lists t s s_in))

pub returns-then-col-first_slack : goal.returns-then-col-first_slack
returns-then-col-first_slack c = grind (arith, common_steps)

pub returns-else-col-first_slack-clause-number : goal.returns-else-col-first_slack-clause-number
returns-else-col-first_slack-clause-number c = grind (arith, common_steps)

pub returns-else-col-first_slack-clause-narrow : goal.returns-else-col-first_slack-clause-narrow
returns-else-col-first_slack-clause-narrow c = narrow_passed c.one_or_none.result c.one_or_none.ensures.narrow

pub overflow_add-col : goal.overflow_add-col
overflow_add-col c = grind arith

pub overflow_mul-col : goal.overflow_mul-col
overflow_mul-col c = grind arith
