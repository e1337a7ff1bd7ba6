use Rattle.std.proofs.{Common.{◌≡◌, ◌<◌, ◌^◌, ◌∙◌, ℕ, List, arith, get_or, length, pos, rules, subst, sym, take, to_z, of_z}, lemmas.Int.{to_z-of_z}}
use Rattle.std.specs.{Int.{w128}, Prelude.{All, unsigned_abs}}
use mir.Val.{SFits}
use Rattle.gs_boards.specs.{Runs.{number_at, paid_by}, declared.place.Place.{Place}}
use Rattle.gs_boards.proofs.Steps.{come_up, come_within, go_up, won_up, written}
use Rattle.gs_boards.proofs.walks.climb.Goals as goal

pub won-requires-clause-within : goal.won-requires-clause-within
won-requires-clause-within c = (come_up _ _ c.requires.order _ _ (omega arith) _ _ c.at-here.ensures c.loop-at.invariant.walked).within

pub loop-at-preserved : goal.loop-at-preserved
loop-at-preserved c =
    let places : List Place = c.args.places.now in
    let numbers : List ℕ = c.args.numbers.now in
    let worth : Place → ℕ = number_at numbers in
    let n : ℕ = c.loop-at.at in
    let d : Place = record { board = 0; strength = 0; win = 0; signal = 0 } in
    let p : Place = get_or places n d in
    let l : n < length places = omega arith in
    let r = c.loop-at.before in
    let here = c.at-here.result in
    let fits : SFits w128 c.won.result = search rules in
    let kept : to_z w128 (of_z w128 c.won.result) ≡ c.won.result = to_z-of_z w128 c.won.result fits in
    let paid : c.won.result ≡ paid_by c.args.pays numbers p (take n places) =
    c.won.ensures.value ∙ won_up c.args.pays numbers places n d r here c.requires.order l c.at-here.ensures c.loop-at.invariant.walked in
    let inside : All (λ (q : Place). q.signal < length c.loop-at.sums) places = λ i e m. omega (arith, c.requires.sums i e m) in
    record {
      walked = go_up worth places c.requires.order n d l r here c.at-here.ensures c.from.result c.past-before.result c.from.ensures c.past-before.ensures
          c.loop-at.invariant.walked;
      few = omega (
        arith,
        come_within worth places c.requires.order n d l r here c.at-here.ensures c.from.result c.past-before.result c.past-before.ensures,
        c.from.ensures,
        c.type_inv.numbers p.signal,
        c.loop-at.invariant.few,
      );
      paid = λ k e m. written (pos 0) places c.requires.apart c.loop-at.sums inside (λ k q z. z ≡ paid_by c.args.pays numbers q (take k places)) n d
          (to_z w128 (of_z w128 c.won.result)) l k e (omega arith)
          (λ is. kept ∙ paid) (λ ne. c.loop-at.invariant.paid k e (omega (arith, m, ne)));
      small = λ k e m. written (pos 0) places c.requires.apart c.loop-at.sums inside (λ k q z. unsigned_abs z < 2 ^ 120) n d
          (to_z w128 (of_z w128 c.won.result)) l k e (omega arith)
          (λ is. subst (λ z. unsigned_abs z < 2 ^ 120) (sym kept) c.won.ensures.small) (λ ne. c.loop-at.invariant.small k e (omega (arith, m, ne)));
    }

pub past-before-requires : goal.past-before-requires
past-before-requires c = grind arith

pub bounds-numbers-signal : goal.bounds-numbers-signal
bounds-numbers-signal c = grind arith

pub bounds-sums-signal : goal.bounds-sums-signal
bounds-sums-signal c = grind arith
