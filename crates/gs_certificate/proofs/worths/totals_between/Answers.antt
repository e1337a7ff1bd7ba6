use Rattle.std.proofs.{Common.{◌≡◌, ◌+◌, ◌-◌, ◌*◌, ◌^◌, ap, ◌∙◌, arith, of_z, sum_by}, Math.Nat.{mul-le-mul_right}, lemmas.Int.{to_z-of_z}}
use Rattle.std.specs.{Prelude.{◌+ℤ◌, unsigned_abs}, List.{range_with_len}}
use mir.Syntax.{w128}
use mir.Val.{to_z}
use Rattle.gs_game.specs.Seen.{target_of}
use Rattle.gs_model.specs.{Classes.{class_size}, Sums.{sum_z}}
use Rattle.gs_model.proofs.Sparse.{abs_sum}
use Rattle.gs_best.specs.Sides.{lists_at}
use Rattle.gs_best.proofs.Ranges.{run_step}
use Rattle.gs_certificate.specs.Claims.{claimed_totals}
use Rattle.gs_certificate.proofs.{Sizes.{sizes_few, sum_more}, Together.{size_few, way_round}}
use Rattle.gs_certificate.proofs.worths.totals_between.Goals as goal

pub plus-sum-requires : goal.plus-sum-requires
plus-sum-requires c =
    let k = c.args.claim.now in
    let r = way_round k.side c.args.way c.requires.way in
    let v = to_z w128 (of_z w128 c.total_at.result) in
    let s = abs_sum (to_z w128 c.loop-class.sum-bits) v in
    let small = ap unsigned_abs (to_z-of_z w128 c.total_at.result (record { sfits = c.total_at.type_inv })) in
    let all = mul-le-mul_right (2 ^ 90) (sizes_few k.side c.args.way.round r.0 r.1 c.args.first (c.loop-class.class - c.args.first)) in
    let one = mul-le-mul_right (2 ^ 90) (size_few k.side c.args.way.round c.loop-class.class r.0 r.1) in
    omega (arith, s, small, c.total_at.ensures.small, c.loop-class.invariant.within, all, one)

pub loop-class-preserved : goal.loop-class-preserved
loop-class-preserved c =
    let S = to_z w128 c.loop-class.sum-bits in
    let v = to_z w128 (of_z w128 c.total_at.result) in
    let k = c.args.claim.now in
    let size = class_size (lists_at k.side) c.args.way.round in
    let value : to_z w128 (of_z w128 c.plus-sum.result) ≡ S +ℤ v = to_z-of_z w128 c.plus-sum.result (record { sfits = c.plus-sum.type_inv })
    ∙ c.plus-sum.ensures in
    let s = abs_sum S v in
    let small = ap unsigned_abs (to_z-of_z w128 c.total_at.result (record { sfits = c.total_at.type_inv })) in
    let first = c.args.first in
    let class = c.loop-class.class in
    let n = class - first in
    let up : class + 1 - first ≡ n + 1 = omega arith in
    let at : first + n ≡ class = omega arith in
    let sizes : sum_by size (range_with_len first (class + 1 - first)) ≡ sum_by size (range_with_len first n) + size class =
    ap (λ m. sum_by size (range_with_len first m)) up ∙ sum_more size first n ∙ ap (λ m. sum_by size (range_with_len first n) + size m) at in
    let more = ap (λ m. m * 2 ^ 90) sizes in
    record {
      sum_is = value ∙ ap (λ z. S +ℤ z) (to_z-of_z w128 c.total_at.result (record { sfits = c.total_at.type_inv }) ∙ c.total_at.ensures.value)
          ∙ run_step (claimed_totals k (target_of c.args.way.to)) first class S (omega arith) c.loop-class.invariant.sum_is;
      within = omega (arith, ap unsigned_abs value, s, small, c.total_at.ensures.small, c.loop-class.invariant.within, more);
    }

pub returns-clause-small : goal.returns-clause-small
returns-clause-small c =
    let k = c.args.claim.now in
    let r = way_round k.side c.args.way c.requires.way in
    let all = mul-le-mul_right (2 ^ 90) (sizes_few k.side c.args.way.round r.0 r.1 c.args.first (c.loop-class.class - c.args.first)) in
    omega (arith, c.loop-class.invariant.within, all)

pub loop-class-init : goal.loop-class-init
loop-class-init c =
    let k = c.args.claim.now in
    let none : 0 ≡ c.args.first - c.args.first = omega arith in
    record {
      sum_is = ap (λ n. sum_z (claimed_totals k (target_of c.args.way.to)) (range_with_len c.args.first n)) none;
      within = omega arith;
    }

pub returns-clause-value : goal.returns-clause-value
returns-clause-value c =
    let all : c.loop-class.class ≡ c.args.end = omega (arith, c.loop-class-test.false, c.loop-class.auto.class-end, c.requires.ordered) in
    c.loop-class.invariant.sum_is
    ∙ ap (λ n. sum_z (claimed_totals c.args.claim.now (target_of c.args.way.to)) (range_with_len c.args.first (n - c.args.first))) all
