use Rattle.std.proofs.{Common.{◌≡◌, ◌<◌, ◌∙◌, ℕ, List, ap, arith, get_or, get_or-set_other, length, pos, rules, sym, take}, lemmas.Int.{to_z-of_z}}
use Rattle.std.specs.{Int.{w128}, Prelude.{All}}
use mir.Val.{SFits}
use Rattle.gs_boards.specs.{Boards.{remainder}, Runs.{number_at, paid_by}, declared.pays.Pays.TheVariants.{Showdown}, declared.place.Place.{Place}}
use Rattle.gs_boards.proofs.Steps.{come_up, come_within, go_up, won_up, written}
use Rattle.gs_boards.proofs.remainders.climb.Goals as goal

pub won-requires-clause-within : goal.won-requires-clause-within
won-requires-clause-within c = (come_up _ _ c.requires.order _ _ (omega arith) _ _ c.at-here.ensures c.loop-at.invariant.walked).within

pub loop-at-preserved : goal.loop-at-preserved
loop-at-preserved c =
    let board : List Place = c.args.board.now in
    let numbers : List ℕ = c.args.numbers.now in
    let sums : List ℕ = c.loop-at.sums in
    let worth : Place → ℕ = number_at numbers in
    let n : ℕ = c.loop-at.at in
    let d : Place = record { board = 0; strength = 0; win = 0; signal = 0 } in
    let p : Place = get_or board n d in
    let l : n < length board = omega arith in
    let r = c.loop-at.before in
    let here = c.at-here.result in
    let fits : SFits w128 c.won.result = search rules in
    let paid : pos c.folded.result ≡ remainder (paid_by (Showdown 1) numbers p (take n board)) =
    c.folded.ensures ∙ ap remainder (to_z-of_z w128 c.won.result fits ∙ c.won.ensures.value
    ∙ won_up (Showdown 1) numbers board n d r here c.requires.order l c.at-here.ensures c.loop-at.invariant.walked) in
    let inside : All (λ (q : Place). q.signal < length sums) board = λ i e m. omega (arith, c.requires.sums i e m) in
    record {
      walked = go_up worth board c.requires.order n d l r here c.at-here.ensures c.from.result c.past-before.result c.from.ensures c.past-before.ensures
          c.loop-at.invariant.walked;
      few = omega (
        arith,
        come_within worth board c.requires.order n d l r here c.at-here.ensures c.from.result c.past-before.result c.past-before.ensures,
        c.from.ensures,
        c.type_inv.numbers p.signal,
        c.loop-at.invariant.few,
      );
      paid = λ k e m. written 0 board c.requires.apart sums inside (λ k q z. pos z ≡ remainder (paid_by (Showdown 1) numbers q (take k board))) n d
          c.folded.result l k e (omega arith) (λ is. paid) (λ ne. c.loop-at.invariant.paid k e (omega (arith, m, ne)));
      others = λ s h. get_or-set_other sums p.signal s c.folded.result 0 (λ e. h n d l (sym e)) ∙ c.loop-at.invariant.others s h;
    }

pub past-before-requires : goal.past-before-requires
past-before-requires c = grind arith

pub bounds-numbers-signal : goal.bounds-numbers-signal
bounds-numbers-signal c = grind arith

pub bounds-sums-signal : goal.bounds-sums-signal
bounds-sums-signal c = grind arith
