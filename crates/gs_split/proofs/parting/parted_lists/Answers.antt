use Rattle.std.proofs.Common.{◌≡◌, ◌+◌, ◌-◌, ◌≤◌, ◌++◌, ◌∷◌, ℕ, suc, List, [], ap, arith, length, length-append, subst, sym, ◌∙◌, Vec, Global}
use Rattle.std.proofs.lemmas.List.{map-append}
use Rattle.gs_model.specs.{Classes.{ClassLists, list_of}, Frame.{frame_of, last_round, signal_count}, Rows.{rows}}
use Rattle.gs_model.proofs.Walked.{last_round_of}
use Rattle.gs_filter.proofs.RowLaws.{length-rows, round_read}
use Rattle.gs_tree.specs.Trees.{rules_of}
use Rattle.gs_iso.specs.Numbers.{classes_above}
use Rattle.gs_split.specs.Turns.{IsRoundParted}
use Rattle.gs_split.proofs.Turned.{ArePartedTo, above_long, above_some, all_turned, turned_more}
use Rattle.gs_split.proofs.parting.parted_lists.Goals as goal

pub bounds-numbers-from : goal.bounds-numbers-from
bounds-numbers-from c =
    let l = last_round_of (rules_of c.args.grouped.now.signals.now) in
    omega (arith, c.from-in-loop-done.ensures, c.requires.rounds, length-rows c.args.numbers.now, c.loop-done-test.true, c.rounds-done-end.ensures.value, l)

pub round_parted-requires-clause-top : goal.round_parted-requires-clause-top
round_parted-requires-clause-top c = omega (
  arith,
  c.loop-done-test.true,
  c.rounds-done-end.ensures.value,
  last_round_of (rules_of
      c.args.grouped.now.signals.now),
)

pub round_parted-requires-clause-any : goal.round_parted-requires-clause-any
round_parted-requires-clause-any c = λ one.
    let is = c.last_classes-above.ensures ∙ ap (λ (vs : List (Vec ℕ Global)). classes_above (rows vs)) c.deref.ensures.value in
    let s = above_some (rows c.loop-done.lists.items) (omega (arith, one, c.loop-done.invariant.long)) in
    omega (arith, s, ap (λ (l : List ℕ). length l) is)

pub round_parted-requires-clause-above : goal.round_parted-requires-clause-above
round_parted-requires-clause-above c = λ more.
    let f = frame_of (rules_of c.args.grouped.now.signals.now) in
    let new = rows c.loop-done.lists.items in
    let is = c.last_classes-above.ensures ∙ ap (λ (vs : List (Vec ℕ Global)). classes_above (rows vs)) c.deref.ensures.value in
    let n : length new ≡ c.loop-done.done + 1 - 1 = omega (arith, c.loop-done.invariant.long) in
    ap (λ (l : List ℕ). length l) is ∙ above_long f c.args.grouped.now.classes.now.lists (rows c.args.numbers.now) new c.loop-done.invariant.each
    (omega (arith, more, c.loop-done.invariant.long)) ∙ ap (signal_count f) n

pub round_parted-requires-clause-numbers : goal.round_parted-requires-clause-numbers
round_parted-requires-clause-numbers c =
    let f = frame_of (rules_of c.args.grouped.now.signals.now) in
    let lt : c.loop-done.done + 1 ≤ last_round f = omega
    (arith, c.loop-done-test.true, c.rounds-done-end.ensures.value, last_round_of (rules_of c.args.grouped.now.signals.now)) in
    let at = c.deref-in-loop-done.ensures.value ∙ round_read c.args.numbers.now c.from-in-loop-done.result c.index-numbers-from.result
    (omega (arith, c.from-in-loop-done.ensures, c.requires.rounds, length-rows c.args.numbers.now, lt)) c.index-numbers-from.is in
    ap (λ (l : List ℕ). length l) at ∙ ap (λ k. length (list_of (rows c.args.numbers.now) (k + 1))) c.from-in-loop-done.ensures
    ∙ c.requires.each (c.loop-done.done + 1) (omega arith) lt

pub loop-done-preserved : goal.loop-done-preserved
loop-done-preserved c =
    let f = frame_of (rules_of c.args.grouped.now.signals.now) in
    let old = c.args.grouped.now.classes.now.lists in
    let numbers = rows c.args.numbers.now in
    let lists = c.loop-done.lists.items in
    let here = c.in_ok-here.here in
    let above = c.last_classes-above.result.now in
    let lt : c.loop-done.done + 1 ≤ last_round f = omega
    (arith, c.loop-done-test.true, c.rounds-done-end.ensures.value, last_round_of (rules_of c.args.grouped.now.signals.now)) in
    let is = c.last_classes-above.ensures ∙ ap (λ (vs : List (Vec ℕ Global)). classes_above (rows vs)) c.deref.ensures.value in
    let at = c.deref-in-loop-done.ensures.value ∙ round_read c.args.numbers.now c.from-in-loop-done.result c.index-numbers-from.result
    (omega (arith, c.from-in-loop-done.ensures, c.requires.rounds, length-rows c.args.numbers.now, lt)) c.index-numbers-from.is
    ∙ ap (λ k. list_of numbers (k + 1)) c.from-in-loop-done.ensures in
    let more : rows c.push.new.self.items ≡ rows lists ++ here.items ∷ [] = ap (λ (vs : List (Vec ℕ Global)). rows vs) c.in_ok-push.ensures.items
    ∙ map-append (λ (v : Vec ℕ Global). v.items) lists (here ∷ []) in
    let n : c.loop-done.done + 1 ≡ suc (length (rows lists)) = omega (arith, c.loop-done.invariant.long) in
    record {
      long = ap (λ (l : ClassLists). length l) more ∙ length-append (rows lists) (here.items ∷ []) ∙ ap (λ k. k + 1) c.loop-done.invariant.long;
      each = subst (ArePartedTo f old numbers) (sym more)
          (turned_more f old numbers (rows lists) above here.items is c.loop-done.invariant.each
          (subst (λ r. IsRoundParted f old above (list_of numbers r) r here.items) n
          (subst (λ (l : List ℕ). IsRoundParted f old above l (c.loop-done.done + 1) here.items) at c.in_ok-here.ensures)));
    }

pub returns : goal.returns
returns c =
    let g = rules_of c.args.grouped.now.signals.now in
    all_turned (frame_of g) c.args.grouped.now.classes.now.lists (rows c.args.numbers.now) (rows c.loop-done.lists.items)
    (omega (arith, c.loop-done.invariant.long, c.loop-done-test.false, c.loop-done.auto.done-end, c.rounds-done-end.ensures.value, last_round_of g))
    c.loop-done.invariant.each

pub overflow_add-done : goal.overflow_add-done
overflow_add-done c = omega (arith, c.loop-done-test.true, c.rounds-done-end.type_inv)
