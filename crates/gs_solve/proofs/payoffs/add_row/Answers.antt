use Rattle.std.proofs.Common.{◌≡◌, ◌+◌, ◌*◌, ◌^◌, ◌<◌, ℕ, List, length, get_or, take, refl, ap, ◌∙◌, arith, pos, ◌*ℤ◌, unsigned_abs, FitsSigned}
use Rattle.std.proofs.{Common.{of_z, to_z, to_z-of_z}, lemmas.Nat.{mul-add-lt, mul-le}, Math.Nat.{mul_comm}}
use Rattle.std.specs.Int.{w64}
use Rattle.gs_model.specs.{Frame.{end_at}, Sums.{sum_z}}
use Rattle.gs_model.proofs.Sparse.{abs_sum}
use Rattle.gs_seq.specs.{Abstracts.{game_in, abstract_frame, lists_of}, Payoffs.{pair_pays}, declared.pair.Pair.{Pair}}
use Rattle.gs_seq.proofs.{Sizes.{modest}, Turns.{IsKnown, IsTurn, begun, known, none_passed, passed, sum_ended, sum_turned, turn}}
use Rattle.gs_solve.specs.{Layout.{cell_at, class_adds, end_sequence}, Programs.{unit}, Sequences.{form_sizes}}
use Rattle.gs_solve.proofs.{AddedCells.{added_none, added_same, added_then, added_within}, Cells.{first_in, pair_adds, prefix_small, row_adds, second_in}}
use Rattle.gs_solve.proofs.{EndSteps.{form_is}, payoffs.add_row.Goals.{After-pays, After-sequence_at-two, In-Some}}
use Rattle.gs_solve.proofs.payoffs.add_row.Goals as goal

-- where the walk stands, and what is known of the pair there
at_pair : (c : In-Some) → IsTurn {X = Pair} c.args.row c.loop-pair.pair-iterator c.next.new.self c.in-Some.pair
    × IsKnown (abstract_frame c.args.form.now) (lists_of c.args.form.now) 1 c.args.end c.in-Some.pair
at_pair c =
    let u = form_is c.args.form.now in
    let t = turn {X = Pair} c.args.row c.loop-pair.pair-iterator c.next.new.self c.in-Some.pair c.loop-pair.invariant.on c.in-Some.ensures.steps in (
      t,
      known (abstract_frame c.args.form.now) u.in_range (lists_of c.args.form.now) u.classes 1 u.one (modest (game_in c.args.form.now)) c.args.end
          c.requires.end c.args.class c.args.row c.requires.row c.loop-pair.pair-iterator
          c.next.new.self c.in-Some.pair t,
    )

-- the place is one of the list, and this is what the end pays
inside : (c : After-sequence_at-two) → c.sequence_at-one.result * c.args.twos + c.sequence_at-two.result < length c.loop-pair.sums
inside c =
    let f = abstract_frame c.args.form.now in
    let ls = lists_of c.args.form.now in
    let at = goal.at.After-sequence_at-two c in
    let u = form_is c.args.form.now in
    let n = form_sizes f ls in
    let k : c.sequence_at-one.result < n.ones = omega (
      arith,
      c.sequence_at-one.ensures,
      first_in f ls u c.args.end c.args.class c.requires.end
          c.requires.class,
    ) in
    let l : c.sequence_at-two.result < c.args.twos = omega
    (arith, c.sequence_at-two.ensures, second_in f ls u c.args.end c.in-Some.pair.two c.requires.end (at_pair at.In-Some).1.class, c.requires.twos) in
    omega (
      arith,
      mul-add-lt c.sequence_at-one.result c.args.twos c.sequence_at-two.result n.ones k l,
      c.requires.long,
      c.loop-pair.auto.sums,
      mul_comm c.args.twos n.ones,
    )

pays_is : (c : After-pays) → to_z w64 (of_z w64 c.pays.result) ≡ pair_pays 1 (end_at (abstract_frame c.args.form.now) c.args.end) c.in-Some.pair
pays_is c =
    let fits : FitsSigned w64 c.pays.result = record { sfits = c.pays.type_inv } in to_z-of_z {w = w64} {z = c.pays.result} fits ∙ c.pays.ensures
    ∙ ap (λ e. pair_pays 1 e c.in-Some.pair) c.end_in-at.ensures.value

pub loop-pair-init : goal.loop-pair-init
loop-pair-init c =
    let v = pair_adds (abstract_frame c.args.form.now) (lists_of c.args.form.now) c.args.end c.args.class in
    let row : List Pair = c.args.row in
    let left : List Pair = c.into_iter-pair-iterator.result in
    let begins : left ≡ row = cc in
    record {
      on = begun row left begins;
      added = added_none (λ k. sum_z (v k) (take (passed row left) row)) c.args.sums.now
          (λ k. ap (λ n. sum_z (v k) (take n row)) (none_passed row left begins));
    }

pub sequence_at-two-requires-clause-class : goal.sequence_at-two-requires-clause-class
sequence_at-two-requires-clause-class c = (at_pair (goal.at.sequence_at-two-requires-clause-class c).In-Some).1.class

pub pays-requires : goal.pays-requires
pays-requires c = let k = (at_pair (goal.at.pays-requires c).In-Some).1 in record { few = k.weight; moderate = k.signed }

pub add-requires-clause-inside : goal.add-requires-clause-inside
add-requires-clause-inside c = omega (arith, inside (goal.at.add-requires-clause-inside c).After-sequence_at-two)

pub add-requires-clause-fits : goal.add-requires-clause-fits
add-requires-clause-fits c =
    let at = goal.at.add-requires-clause-fits c in
    let f = abstract_frame c.args.form.now in
    let ls = lists_of c.args.form.now in
    let z = c.args.end in
    let u = form_is c.args.form.now in
    let k = (at_pair at.In-Some).1 in
    let row : List Pair = c.args.row in
    let i = passed row c.loop-pair.pair-iterator in
    let place = c.sequence_at-one.result * c.args.twos + c.sequence_at-two.result in
    let within = added_within (λ k. sum_z (pair_adds f ls z c.args.class k) (take i row)) c.args.sums.now c.loop-pair.sums (2 ^ 61) (2 ^ 42)
    (2 ^ 61 + 2 ^ 42) c.loop-pair.invariant.added c.requires.within
    (λ k. prefix_small f u.in_range ls u.classes u.one (modest (game_in c.args.form.now)) z c.requires.end c.args.class row c.requires.row k i) (omega arith) in
    let here = within place (inside at.After-sequence_at-two) in
    let both = abs_sum (get_or c.loop-pair.sums place (pos 0)) (to_z w64 (of_z w64 c.pays.result)) in
    omega (arith, here, both, ap unsigned_abs (pays_is at.After-pays), k.pays, k.weight)

pub loop-pair-preserved : goal.loop-pair-preserved
loop-pair-preserved c =
    let at = goal.at.loop-pair-preserved c in
    let f = abstract_frame c.args.form.now in
    let ls = lists_of c.args.form.now in
    let z = c.args.end in
    let row : List Pair = c.args.row in
    let t = (at_pair at.In-Some).0 in
    let pair = c.in-Some.pair in
    let v = pair_adds f ls z c.args.class in
    let i = passed row c.loop-pair.pair-iterator in
    let place = c.sequence_at-one.result * c.args.twos + c.sequence_at-two.result in
    let cell : place ≡ cell_at f ls z c.args.class pair.two = ap (λ x. x * c.args.twos + c.sequence_at-two.result) c.sequence_at-one.ensures
    ∙ ap (λ w. end_sequence f ls 1 z c.args.class * w + c.sequence_at-two.result) c.requires.twos
    ∙ ap (λ x. end_sequence f ls 1 z c.args.class * (form_sizes f ls).twos + x) c.sequence_at-two.ensures in
    record {
      on = t.on;
      added = added_then (λ k. sum_z (v k) (take i row)) (λ k. unit place k *ℤ to_z w64 (of_z w64 c.pays.result))
          (λ k. sum_z (v k) (take (passed row c.next.new.self) row)) c.args.sums.now c.loop-pair.sums c.add.new.sums
          c.loop-pair.invariant.added c.add.ensures
          (λ k. sum_turned (v k) row c.loop-pair.pair-iterator c.next.new.self pair t _ _ refl (ap (λ x. unit x k *ℤ to_z w64 (of_z w64 c.pays.result)) cell
          ∙ ap (λ w. unit (cell_at f ls z c.args.class pair.two) k *ℤ w) (pays_is at.After-pays)));
    }

pub returns : goal.returns
returns c =
    let f = abstract_frame c.args.form.now in
    let ls = lists_of c.args.form.now in
    let u = form_is c.args.form.now in
    let row : List Pair = c.args.row in
    let v = pair_adds f ls c.args.end c.args.class in
    added_same (λ k. sum_z (v k) (take (passed row c.loop-pair.pair-iterator) row)) (class_adds f ls c.args.end c.args.class) c.args.sums.now c.loop-pair.sums
    c.loop-pair.invariant.added
    (λ k. sum_ended (v k) row c.loop-pair.pair-iterator c.in-None.ensures.steps.0 _ refl
    ∙ row_adds f u.in_range ls u.classes u.one (modest (game_in c.args.form.now)) c.args.end c.requires.end c.args.class row c.requires.row k)

-- a number of 32 bits times another, and one more added, has 64
fits_64 : (a b d : ℕ) → a < 4294967296 → b < 4294967296 → d < 4294967296 → a * b + d < 18446744073709551616
fits_64 a b d h k l = omega (arith, h, k, l, mul-le a b 4294967295 4294967295 (omega (arith, h)) (omega (arith, k)))

pub overflow_add-first : goal.overflow_add-first
overflow_add-first c = record {
  fits = fits_64 c.sequence_at-one.result c.args.twos c.sequence_at-two.result c.sequence_at-one.type_inv c.ranges.twos.fits c.sequence_at-two.type_inv;
}

pub sequence_at-two-requires-clause-end : goal.sequence_at-two-requires-clause-end
sequence_at-two-requires-clause-end c = c.requires.end

pub overflow_cast-two : goal.overflow_cast-two
overflow_cast-two c = grind arith

pub overflow_mul-first : goal.overflow_mul-first
overflow_mul-first c = grind arith
