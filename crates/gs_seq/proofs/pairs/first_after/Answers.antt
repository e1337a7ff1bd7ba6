use Rattle.std.proofs.{Common.{◌≡◌, ◌<◌, ◌≤◌, List, get_or, ap, ◌∙◌, arith, ⊎_elim}, lemmas.Bool.{cases_lt}}
use Rattle.gs_seq.specs.declared.pair.Pair.{Pair}
use Rattle.gs_seq.proofs.Turns.{all_passed, begun, none_passed, passed, turn}
use Rattle.gs_seq.proofs.pairs.first_after.Goals as goal

pub loop-pair-init : goal.loop-pair-init
loop-pair-init c =
    let row : List Pair = c.args.pairs in
    let left : List Pair = c.into_iter-pair-iterator.result in
    let same : left ≡ row = cc in
    record { on = begun row left same; low = λ k d l. absurd (omega (arith, l, none_passed row left same)) }

pub returns-then-pair-after : goal.returns-then-pair-after
returns-then-pair-after c =
    let row : List Pair = c.args.pairs in
    let left : List Pair = c.loop-pair.pair-iterator in
    let t = turn row left c.next.new.self c.in-Some.pair c.loop-pair.invariant.on c.in-Some.ensures.steps in
    record { place = passed row left; inside = t.inside; read = t.read; before = c.loop-pair.invariant.low; above = c.if-pair-after.true }

pub loop-pair-preserved : goal.loop-pair-preserved
loop-pair-preserved c =
    let row : List Pair = c.args.pairs in
    let left : List Pair = c.loop-pair.pair-iterator in
    let t = turn row left c.next.new.self c.in-Some.pair c.loop-pair.invariant.on c.in-Some.ensures.steps in
    record {
      on = t.on;
      low = λ k d l. ⊎_elim
          (λ (m : k < passed row left). c.loop-pair.invariant.low k d m)
          (λ (m : passed row left ≤ k). (let same : k ≡ passed row left = omega (arith, l, m, t.next) in
          let read : get_or row k d ≡ c.in-Some.pair = ap (λ n. get_or row n d) same ∙ t.read d in
          omega (arith, ap (λ (p : Pair). p.two) read, c.if-pair-after.false)))
          (cases_lt k (passed row left));
    }

pub returns : goal.returns
returns c =
    let row : List Pair = c.args.pairs in
    let left : List Pair = c.loop-pair.pair-iterator in
    let end = all_passed row left c.in-None.ensures.steps.0 in
    λ k d l. c.loop-pair.invariant.low k d (omega (arith, l, end))
