use Rattle.std.proofs.lemmas.Grind.{common_steps}
use Rattle.std.proofs.Common.{◌≡◌, ◌<◌, ◌+◌, ◌∙◌, arith, below_more, length, of_z, pos, to_z}
use Rattle.std.proofs.lemmas.List.{get_or-set_other, get_or-set_same}
use Rattle.std.specs.Int.{w128}
use Rattle.gs_seq.specs.{Abstracts.{abstract_frame, lists_of}, Payoffs.{number_sum}}
use Rattle.gs_seq.proofs.Signed.{read_back}
use Rattle.gs_seq.proofs.paying.Paying.pay_all.Goals as goal

pub loop-before-preserved : goal.loop-before-preserved
loop-before-preserved c =
    let o = c.args.self.now in
    let sums = c.loop-before.sums in
    let n = c.loop-before.before in
    let put = to_z w128 (of_z w128 c.paid.result) in
    let paid : put ≡ number_sum (abstract_frame o.form.now) (lists_of o.form.now) o.player o.numbers.now o.end (n + 1) =
    read_back c.paid.result _ (record { sfits = c.paid.type_inv }) c.paid.ensures in
    let within : n < length sums = omega (
      arith,
      c.loop-before-test.true,
      c.end_class_total-before-end.ensures,
      c.requires.room,
      c.loop-before.auto.sums,
    ) in
    record {
      here = below_more _ _
          (λ k l. get_or-set_other sums n k put (pos 0) (omega (arith, l)) ∙ c.loop-before.invariant.here k l)
          (get_or-set_same sums n put (pos 0) within ∙ paid);
      behind = λ i l. get_or-set_other sums n i put (pos 0) (omega (arith, l)) ∙ c.loop-before.invariant.behind i (omega (arith, l));
    }

pub returns : goal.returns
returns c = grind (arith, common_steps)

pub paid-requires : goal.paid-requires
paid-requires c = grind (arith, common_steps)
