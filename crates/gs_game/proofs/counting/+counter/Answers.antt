use Rattle.std.proofs.Common.{◌≡◌, ◌<◌, ◌-◌, ◌∙◌, ℕ, List, count_by, drop, length-drop, nat_lt, refl, sym, ap, min, length, slice_index, get_or, take, take_all}
use Rattle.std.proofs.{lemmas.Grind.{common_steps}, Common.{arith}}
use Rattle.gs_game.specs.Sequences.{count_sequences}
use Rattle.gs_game.proofs.CountSteps.{count_rest, counted_all, counted_more, last_kinds, nothing_more, with_card, rest_more, rest_all, next_group, restored}
use Rattle.gs_game.proofs.RoundSteps.{split_number}
use Rattle.gs_game.proofs.counting.+counter.Goals as goal

pub count_with-returns-clause-count : goal.count_with-returns-clause-count
count_with-returns-clause-count t c =
    let some : 0 < slice_index c.args.left.now c.args.card = omega (arith, c.if-left-card-eq0.false) in
    c.count_from-count.ensures.count ∙ ap (λ (n : ℕ). min n c.args.cap) (sym (with_card c.args.later.now c.args.left.now _ c.args.size c.args.card some refl))

pub count_with-returns-clause-kept : goal.count_with-returns-clause-kept
count_with-returns-clause-kept t c =
    let some : 0 < slice_index c.args.left.now c.args.card = omega (arith, c.if-left-card-eq0.false) in
    restored c.args.left.now c.count_from-count.new.left c.args.card c.requires some c.count_from-count.ensures.kept

pub count_from-returns-then-total-cap-clause-count : goal.count_from-returns-then-total-cap-clause-count
count_from-returns-then-total-cap-clause-count t c =
    let all = rest_all c.args.later.now c.args.left.now c.args.size c.args.least (omega arith) in
    let more = rest_more c.args.later.now c.args.left.now (c.args.size - 1) c.loop-card.card (omega (arith, ap length c.loop-card.invariant.kept)) in
    let here = rw c.loop-card.invariant.kept at c.count_with-total.ensures.count in
    counted_all _ _ _ _ _ _ _ _ all c.loop-card.invariant.rest more here c.if-total-cap.true

pub count_from-loop-card-preserved : goal.count_from-loop-card-preserved
count_from-loop-card-preserved t c =
    let more = rest_more c.args.later.now c.args.left.now (c.args.size - 1) c.loop-card.card (omega (arith, ap length c.loop-card.invariant.kept)) in
    let here = rw c.loop-card.invariant.kept at c.count_with-total.ensures.count in
    let counted = counted_more _ _ _ _ _ _ _ c.loop-card.invariant.rest c.loop-card.invariant.small more here in
    record {
      rest = counted.0;
      kept = c.count_with-total.ensures.kept ∙ c.loop-card.invariant.kept;
      small = counted.1;
    }

pub count_from-returns-in-len1-up-clause-count : goal.count_from-returns-in-len1-up-clause-count
count_from-returns-in-len1-up-clause-count t c =
    c.count_from.ensures.count
    ∙ ap (λ (n : ℕ). min n c.args.cap) (sym (next_group c.args.later.now _ c.args.left.now c.args.least c.args.size
    (get_or c.args.later.now 0 0) c.if-size-eq0.true (split_number c.args.later.now c.in-len1-up.len_at_least)))

pub count_from-returns-then-take_nothing-clause-count : goal.count_from-returns-then-take_nothing-clause-count
count_from-returns-then-take_nothing-clause-count t c =
    let left : List ℕ = c.args.left.now in
    let later : List ℕ = c.args.later.now in
    let one : (rest : List ℕ) → count_sequences rest later ≡ 1 = λ rest. nothing_more later rest (c.take_nothing.ensures.0 c.if-take_nothing.true) in
    let size : c.args.size - 1 ≡ 0 = omega (arith, c.if-size-eq1.true) in
    let all = rest_all later left c.args.size c.args.least (omega (arith, c.if-size-eq1.true)) in
    let none : count_rest later left (c.args.size - 1) c.args.least ≡ count_rest later left 0 c.args.least =
    ap (λ n. count_rest later left n c.args.least) size in
    let kinds = last_kinds later left c.args.least one c.requires in
    let whole : take (length left - c.args.least) (drop c.args.least left) ≡ drop c.args.least left = take_all (length left - c.args.least)
    (drop c.args.least left) (omega (arith, length-drop c.args.least left)) in
    let read : c.kinds_left.result ≡ count_by (λ copies. nat_lt 0 copies) (drop c.args.least left) = c.kinds_left.ensures
    ∙ ap (λ (l : List ℕ). count_by (λ copies. nat_lt 0 copies) l) whole in
    omega (arith, c.min-then-take_nothing.ensures, all, none, kinds, read)

pub count_from-count_from-requires : goal.count_from-count_from-requires
count_from-count_from-requires t c = grind (arith, common_steps)

pub count_from-returns-in-empty-clause-count : goal.count_from-returns-in-empty-clause-count
count_from-returns-in-empty-clause-count t c = grind (arith, common_steps)

pub count_from-returns-clause-count : goal.count_from-returns-clause-count
count_from-returns-clause-count t c = grind arith

pub count_with-overflow_add-left : goal.count_with-overflow_add-left
count_with-overflow_add-left t c = grind (arith, common_steps)

pub count_from-returns-then-total-cap-clause-kept : goal.count_from-returns-then-total-cap-clause-kept
count_from-returns-then-total-cap-clause-kept t c = grind arith

pub count_with-bounds-left-card-4 : goal.count_with-bounds-left-card-4
count_with-bounds-left-card-4 t c = grind (arith, common_steps)

pub count_with-bounds-left-card-5 : goal.count_with-bounds-left-card-5
count_with-bounds-left-card-5 t c = grind (arith, common_steps)
