use Rattle.std.proofs.Common.{◌≡◌, ◌+◌, ◌-◌, ◌*◌, ◌%◌, ◌<◌, ◌^◌, ◌∙◌, ◌+ℤ◌, ℕ, List, ap, arith, drop, get_or, get_or-set_other, length, pos, rules, sym}
use Rattle.std.proofs.{lemmas.Grind.{common_steps}, lemmas.Int.{to_z-of_z}}
use Rattle.std.specs.{Int.{w128}, Prelude.{All}}
use mir.Val.{SFits}
use Rattle.gs_boards.specs.{Boards.{remainder}, Runs.{paid_by}, declared.pays.Pays.TheVariants.{Showdown}, declared.place.Place.{Place}}
use Rattle.gs_boards.proofs.{Payments.{place_worth}, Steps.{come_down, come_within, go_down, lost_down, one_back, written}}
use Rattle.gs_boards.proofs.Wrapped.{remainder_more}
use Rattle.gs_boards.proofs.remainders.descend.Goals as goal

pub lost-requires-clause-within : goal.lost-requires-clause-within
lost-requires-clause-within c = (come_down (place_worth (Showdown 1) c.args.numbers.now) _ c.requires.order _ _ (omega arith) _ _ c.at-here.ensures
    (one_back _ _ _ _ c.loop-at-test.true c.loop-at.invariant.walked)).within

pub loop-at-preserved : goal.loop-at-preserved
loop-at-preserved c =
    let board : List Place = c.args.board.now in
    let numbers : List ℕ = c.args.numbers.now in
    let old : List ℕ = c.args.sums.now in
    let sums : List ℕ = c.loop-at.sums in
    let worth : Place → ℕ = place_worth (Showdown 1) numbers in
    let n : ℕ = c.loop-at.at - 1 in
    let d : Place = record { board = 0; strength = 0; win = 0; signal = 0 } in
    let p : Place = get_or board n d in
    let l : n < length board = omega arith in
    let r = c.loop-at.behind in
    let here = c.at-here.result in
    let walked = one_back _ _ _ _ c.loop-at-test.true c.loop-at.invariant.walked in
    let more = paid_by (Showdown 1) numbers p (drop (n + 1) board) in
    let fits : SFits w128 c.lost.result = search rules in
    let lost : pos c.folded.result ≡ remainder more =
    c.folded.ensures ∙ ap remainder (to_z-of_z w128 c.lost.result fits ∙ c.lost.ensures.value
    ∙ lost_down (Showdown 1) numbers board n d r here c.requires.order l c.at-here.ensures walked) in
    let v : ℕ = (get_or sums p.signal 0 + c.folded.result) % 2 ^ 32 in
    let paid : pos v ≡ remainder (pos (get_or old p.signal 0) +ℤ more) =
    remainder_more (get_or sums p.signal 0) c.folded.result more lost
    ∙ ap (λ a. remainder (pos a +ℤ more)) (c.loop-at.invariant.same n d (omega arith)) in
    let inside : All (λ (q : Place). q.signal < length sums) board = λ i e m. omega (arith, c.requires.sums i e m) in
    record {
      within = omega arith;
      walked = go_down worth board c.requires.order n d l r here c.at-here.ensures c.worth.result c.past-behind.result
          (c.worth.ensures.value ∙ ap (λ x. x * p.win) c.from.ensures) c.past-behind.ensures walked;
      few = omega (
        arith,
        come_within worth board c.requires.order n d l r here c.at-here.ensures c.worth.result c.past-behind.result c.past-behind.ensures,
        c.worth.ensures.small,
        c.loop-at.invariant.few,
      );
      paid = λ k e from m. written 0 board c.requires.apart sums inside
          (λ k q z. pos z ≡ remainder (pos (get_or old q.signal 0) +ℤ paid_by (Showdown 1) numbers q (drop (k + 1) board))) n d v l k e m
          (λ is. paid) (λ ne. c.loop-at.invariant.paid k e (omega (arith, from, ne)) m);
      same = λ k e m. written 0 board c.requires.apart sums inside (λ k q z. z ≡ get_or old q.signal 0) n d v l k e (omega arith)
          (λ is. absurd (omega (arith, is, m))) (λ ne. c.loop-at.invariant.same k e (omega arith));
      others = λ s h. get_or-set_other sums p.signal s v 0 (λ e. h n d l (sym e)) ∙ c.loop-at.invariant.others s h;
    }

pub past-behind-requires : goal.past-behind-requires
past-behind-requires c = grind arith

pub loop-at-init : goal.loop-at-init
loop-at-init c = grind (arith, common_steps)

pub bounds-numbers-signal : goal.bounds-numbers-signal
bounds-numbers-signal c = grind arith

pub bounds-sums-signal : goal.bounds-sums-signal
bounds-sums-signal c = grind arith
