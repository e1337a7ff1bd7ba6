use Rattle.std.proofs.Common.{◌≡◌, ◌+◌, ◌*◌, ◌≤◌, ap, sym, ◌∙◌, subst, arith}
use Rattle.gs_seq.specs.Abstracts.{abstract_frame, lists_of}
use Rattle.gs_solve.specs.Sequences.{form_sizes}
use Rattle.gs_solve.proofs.{EndSteps.{form_is}, GameOpening.{game_opening_opens}}
use Rattle.gs_solve.proofs.game.sparse_program.Goals as goal

pub returns-clause-path : goal.returns-clause-path
returns-clause-path c =
    let f = abstract_frame c.args.form.now in let ls = lists_of c.args.form.now in
    let u = form_is c.args.form.now in
    let p = c.in_ok-program.field-0 in
    let g = c.in_ok-program.ensures.program f ls c.in_ok-layout.ensures in
    record {
      shaped = c.in_ok-program.ensures.shaped;
      program = g;
      opening = c.in_ok-opening.ensures;
      opens = game_opening_opens f ls u p c.in_ok-opening.opening.items g c.in_ok-opening.ensures;
    }

pub returns-clause-small : goal.returns-clause-small
returns-clause-small c =
    let f = abstract_frame c.args.form.now in let ls = lists_of c.args.form.now in
    let p = c.in_ok-program.field-0 in
    let g = c.in_ok-program.ensures.program f ls c.in_ok-layout.ensures in
    let n = form_sizes f ls in
    let s = c.of-size.result in
    let rows : s.one_rows + s.twos + 1 ≡ p.rows + 1 = ap (λ k. k + s.twos + 1) c.of-size.ensures.one_rows ∙ ap (λ k. n.one_rows + k + 1) c.of-size.ensures.twos
    ∙ ap (λ k. k + 1) (sym g.rows) in
    let cols : s.ones + s.two_rows + s.twos + 1 ≡ p.cols + 1 =
    ap (λ k. k + s.two_rows + s.twos + 1) c.of-size.ensures.ones ∙ ap (λ k. n.ones + k + s.twos + 1) c.of-size.ensures.two_rows
    ∙ ap (λ k. n.ones + n.two_rows + k + 1) c.of-size.ensures.twos ∙ ap (λ k. k + 1) (sym g.cols) in
    subst (λ k. (p.rows + 1) * k ≤ 1048576) cols (subst (λ k. k * (s.ones + s.two_rows + s.twos + 1) ≤ 1048576) rows c.in_ok-fits.ensures.fits)

pub returns-in_err-program-clause-refused : goal.returns-in_err-program-clause-refused
returns-in_err-program-clause-refused c = grind arith

pub of-requires : goal.of-requires
of-requires c = c.of-size.ensures

pub returns-clause-refused : goal.returns-clause-refused
returns-clause-refused c = omega arith
