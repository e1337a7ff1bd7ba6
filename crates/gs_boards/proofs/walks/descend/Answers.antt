use Rattle.std.proofs.Common.{◌≡◌, ◌+◌, ◌-◌, ◌<◌, ◌^◌, ◌∙◌, ◌+ℤ◌, ℕ, ℤ, List, ap, arith, drop, get_or, length, pos, subst, sym, to_z, of_z}
use Rattle.std.proofs.lemmas.Grind.{common_steps}
use Rattle.std.specs.{Int.{w128}, Prelude.{All, unsigned_abs}}
use Rattle.gs_boards.specs.{Runs.{paid_by}, declared.place.Place.{Place}}
use Rattle.gs_boards.proofs.{Added.{added}, Payments.{place_worth}, Steps.{come_down, come_within, go_down, lost_down, one_back, written}}
use Rattle.gs_boards.proofs.walks.descend.Goals as goal

-- a number that is as small as what it is equal to
as_small : (a b : ℤ) → a ≡ b → unsigned_abs b < 2 ^ 120 → unsigned_abs a < 2 ^ 120
as_small a b e h = subst (λ z. unsigned_abs z < 2 ^ 120) (sym e) h

pub lost-requires-clause-within : goal.lost-requires-clause-within
lost-requires-clause-within c = (come_down (place_worth c.args.pays c.args.numbers.now) _ c.requires.walkable.order _ _ (omega arith) _ _ c.at-here.ensures
    (one_back _ _ _ _ c.loop-at-test.true c.loop-at.invariant.walked)).within

pub overflow_add-sums : goal.overflow_add-sums
overflow_add-sums c =
    let n : ℕ = c.loop-at.at - 1 in
    let d : Place = record { board = 0; strength = 0; win = 0; signal = 0 } in
    let was = c.loop-at.invariant.same n d (omega arith) in
    (added (get_or c.loop-at.sums (get_or c.args.places.now n d).signal (pos 0)) c.lost.result (as_small _ _ was (c.requires.small n d (omega arith)))
    c.lost.ensures.small).fits

pub loop-at-preserved : goal.loop-at-preserved
loop-at-preserved c =
    let places : List Place = c.args.places.now in
    let numbers : List ℕ = c.args.numbers.now in
    let worth : Place → ℕ = place_worth c.args.pays numbers in
    let n : ℕ = c.loop-at.at - 1 in
    let d : Place = record { board = 0; strength = 0; win = 0; signal = 0 } in
    let p : Place = get_or places n d in
    let l : n < length places = omega arith in
    let r = c.loop-at.behind in
    let here = c.at-here.result in
    let walked = one_back _ _ _ _ c.loop-at-test.true c.loop-at.invariant.walked in
    let was : get_or c.loop-at.sums p.signal (pos 0) ≡ get_or c.args.sums.now p.signal (pos 0) = c.loop-at.invariant.same n d (omega arith) in
    let lost : c.lost.result ≡ paid_by c.args.pays numbers p (drop (n + 1) places) =
    c.lost.ensures.value ∙ lost_down c.args.pays numbers places n d r here c.requires.walkable.order l c.at-here.ensures walked in
    let more = added (get_or c.loop-at.sums p.signal (pos 0)) c.lost.result (as_small _ _ was (c.requires.small n d l)) c.lost.ensures.small in
    let paid : to_z w128 (of_z w128 (to_z w128 (of_z w128 (get_or c.loop-at.sums p.signal (pos 0))) +ℤ to_z w128 (of_z w128 c.lost.result)))
    ≡ get_or c.args.sums.now p.signal (pos 0) +ℤ paid_by c.args.pays numbers p (drop (n + 1) places) =
    more.is ∙ ap (λ z. z +ℤ c.lost.result) was ∙ ap (λ z. get_or c.args.sums.now p.signal (pos 0) +ℤ z) lost in
    let inside : All (λ (q : Place). q.signal < length c.loop-at.sums) places = λ i e m. omega (arith, c.requires.walkable.sums i e m) in
    let v : ℤ = to_z w128 (of_z w128 (to_z w128 (of_z w128 (get_or c.loop-at.sums p.signal (pos 0))) +ℤ to_z w128 (of_z w128 c.lost.result))) in
    record {
      within = omega arith;
      walked = go_down worth places c.requires.walkable.order n d l r here c.at-here.ensures c.worth.result c.past-behind.result c.worth.ensures.value
          c.past-behind.ensures walked;
      few = omega (
        arith,
        come_within worth places c.requires.walkable.order n d l r here c.at-here.ensures c.worth.result c.past-behind.result c.past-behind.ensures,
        c.worth.ensures.small,
        c.loop-at.invariant.few,
      );
      paid = λ k e from m. written (pos 0) places c.requires.walkable.apart c.loop-at.sums inside
          (λ k q z. z ≡ get_or c.args.sums.now q.signal (pos 0) +ℤ paid_by c.args.pays numbers q (drop (k + 1) places)) n d v l k e m
          (λ is. paid) (λ ne. c.loop-at.invariant.paid k e (omega (arith, from, ne)) m);
      same = λ k e m. written (pos 0) places c.requires.walkable.apart c.loop-at.sums inside (λ k q z. z ≡ get_or c.args.sums.now q.signal (pos 0)) n d v l k e
          (omega arith) (λ is. absurd (omega (arith, is, m))) (λ ne. c.loop-at.invariant.same k e (omega arith));
    }

pub past-behind-requires : goal.past-behind-requires
past-behind-requires c = grind arith

pub loop-at-init : goal.loop-at-init
loop-at-init c = grind (arith, common_steps)

pub bounds-numbers-signal : goal.bounds-numbers-signal
bounds-numbers-signal c = grind arith

pub bounds-sums-signal : goal.bounds-sums-signal
bounds-sums-signal c = grind arith

pub slice_copy_out-sums : goal.slice_copy_out-sums
slice_copy_out-sums c = grind arith
