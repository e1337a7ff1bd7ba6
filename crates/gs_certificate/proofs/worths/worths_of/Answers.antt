use Rattle.std.proofs.Common.{◌≡◌, ℕ, ◌+◌, ◌*◌, ◌^◌, refl, ap, ◌∙◌, arith, of_z, to_z, rules}
use Rattle.std.specs.{Int.{w128}, List.{range_with_len}, Prelude.{◌+ℤ◌, unsigned_abs}}
use Rattle.gs_model.specs.{Frame.{move_count}, Sums.{sum_z}}
use Rattle.gs_model.proofs.Sparse.{abs_sum}
use Rattle.gs_seq.proofs.{EndTotals.{range_begun}, Signed.{read_back}}
use Rattle.gs_best.specs.{ClassTotals.{total_worth}, Sides.{frame_at, lists_at}}
use Rattle.gs_certificate.specs.Claims.{claimed_totals}
use Rattle.gs_certificate.proofs.worths.worths_of.Goals as goal

pub loop-choice-preserved : goal.loop-choice-preserved
loop-choice-preserved c =
    let k = c.args.spot.now.claim in
    let m = c.loop-choice.choice in
    let u = λ (m : ℕ). total_worth (frame_at k.side) (lists_at k.side) (claimed_totals k) c.args.spot.now.point m c.args.class in
    let S = to_z w128 c.loop-choice.sum-bits in
    let v = to_z w128 (of_z w128 c.worth_of.result) in
    let worth : v ≡ u m = read_back c.worth_of.result _ (record { sfits = c.worth_of.type_inv }) c.worth_of.ensures.value in
    let value : to_z w128 (of_z w128 c.plus-sum.result) ≡ S +ℤ v = read_back c.plus-sum.result _ (record { sfits = c.plus-sum.type_inv }) c.plus-sum.ensures in
    let small = ap unsigned_abs (read_back c.worth_of.result c.worth_of.result (record { sfits = c.worth_of.type_inv }) refl) in
    let more : (m + 1) * (200000 * 2 ^ 90) ≡ m * (200000 * 2 ^ 90) + 200000 * 2 ^ 90 = omega arith in
    record {
      sum_is = value ∙ range_begun u m _ _ c.loop-choice.invariant.sum_is worth;
      within = omega (arith, ap unsigned_abs value, abs_sum S v, small, c.worth_of.ensures.small, c.loop-choice.invariant.within, more);
    }

pub returns : goal.returns
returns c =
    let k = c.args.spot.now.claim in
    let q = c.args.spot.now.point in
    let all : c.loop-choice.choice ≡ move_count (frame_at k.side) q =
    omega (arith, c.loop-choice-test.false, c.loop-choice.auto.choice-end, c.move_total-choice-end.ensures.value) in
    c.loop-choice.invariant.sum_is ∙ ap (λ n. sum_z (λ m. total_worth (frame_at k.side) (lists_at k.side) (claimed_totals k) q m c.args.class)
    (range_with_len 0 n)) all

pub plus-sum-requires : goal.plus-sum-requires
plus-sum-requires c = search rules
