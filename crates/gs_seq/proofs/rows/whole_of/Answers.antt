use Rattle.std.proofs.{Common.{◌∙◌, ap, arith, get_or, pos}, lemmas.List.Sums.{sum_by_more_le}}
use Rattle.gs_seq.specs.{Rows.{together}, declared.pair.Pair.{Pair}}
use Rattle.gs_seq.proofs.Wholed.{whole_more}
use Rattle.gs_seq.proofs.rows.whole_of.Goals as goal

abbrev no_pair : Pair
no_pair = record { two = 0; weight = 0; signed = pos 0 }

pub joined-all-requires-clause-few : goal.joined-all-requires-clause-few
joined-all-requires-clause-few c =
    let more = sum_by_more_le (λ (p : Pair). p.weight) c.args.row.now c.loop-pair.pair-index no_pair c.loop-pair-test.true in
    omega (arith, more, ap (λ (p : Pair). p.weight) c.loop-pair.invariant.all_is, c.requires.few)

pub loop-pair-preserved : goal.loop-pair-preserved
loop-pair-preserved c = record {
  all_is = c.joined-all.ensures.value ∙ ap (λ (p : Pair). together p (get_or c.args.row.now c.loop-pair.pair-index no_pair)) c.loop-pair.invariant.all_is
      ∙ whole_more c.args.row.now c.loop-pair.pair-index no_pair c.loop-pair-test.true;
  moderate = c.joined-all.ensures.moderate;
}
