use Rattle.std.proofs.Common.{◌∙◌, arith}
use Rattle.gs_seq.proofs.{EndTotals.{end_within, ends_are_all, range_begun}, Forms.{given_in}, Signed.{read_back}}
use Rattle.gs_seq.proofs.form.Abstract.payoff_in.Goals as goal

pub plus-sum-requires : goal.plus-sum-requires
plus-sum-requires c =
    end_within _ _ (given_in c.args.self.now) _ _ c.requires.x.plan.plan c.requires.y.plan.plan c.loop-end.end
    (omega (arith, c.end_total-end-end.ensures, c.loop-end-test.true)) _ _ c.loop-end.invariant
    (read_back c.payoff_read.result _ (record { sfits = c.payoff_read.type_inv }) c.payoff_read.ensures)

pub loop-end-preserved : goal.loop-end-preserved
loop-end-preserved c = read_back c.plus-sum.result _ (record { sfits = c.plus-sum.type_inv })
    (c.plus-sum.ensures ∙ range_begun _ c.loop-end.end _ _ c.loop-end.invariant (read_back c.payoff_read.result _ (record { sfits = c.payoff_read.type_inv }) c.payoff_read.ensures))

pub returns : goal.returns
returns c =
    ends_are_all _ _ (given_in c.args.self.now) _ _ c.requires.x.plan.plan c.requires.y.plan.plan c.loop-end.end
    (omega (arith, c.end_total-end-end.ensures, c.loop-end-test.false, c.loop-end.auto.end-end)) _
    c.loop-end.invariant

pub payoff_read-requires : goal.payoff_read-requires
payoff_read-requires c = record {
  x = grind arith;
  y = grind arith;
  end = grind arith;
  sums = omega (
    arith,
    c.requires.sums c.loop-end.end (omega (arith, c.end_total-end-end.ensures, c.loop-end-test.true)),
    c.loop-end.auto.sums,
  );
  numbers = omega (
    arith,
    c.requires.numbers c.loop-end.end (omega (arith, c.end_total-end-end.ensures, c.loop-end-test.true)),
    c.loop-end.auto.numbers,
  );
}
