use Rattle.std.proofs.Common.{◌≡◌, ◌+◌, ◌-◌, ◌≤◌, ◌++◌, ◌∷◌, ℕ, true, false, suc, List, [], ap, arith, get_or, length, length-append, subst, sym, ◌∙◌, Vec}
use Rattle.std.proofs.{Common.{Global}, lemmas.List.{map-append}}
use Rattle.gs_model.specs.{Classes.{ClassLists}, Frame.{frame_of, last_round}, Rows.{rows}}
use Rattle.gs_model.proofs.Walked.{last_round_of}
use Rattle.gs_tree.specs.Trees.{rules_of}
use Rattle.gs_split.specs.Turns.{AreTurnNumbers}
use Rattle.gs_split.proofs.Turned.{AreExactTo, all_exact, exact_more}
use Rattle.gs_split.proofs.turns.exact_numbers.Goals as goal

pub bounds-known-from : goal.bounds-known-from
bounds-known-from c =
    let l = last_round_of (rules_of c.args.grouped.now.signals.now) in
    omega (arith, c.from-in-loop-done.ensures, c.requires.known.long, c.loop-done-test.true, c.rounds-done-end.ensures.value, l)

pub round_numbers-requires-clause-top : goal.round_numbers-requires-clause-top
round_numbers-requires-clause-top c = omega (
  arith,
  c.loop-done-test.true,
  c.rounds-done-end.ensures.value,
  last_round_of (rules_of
      c.args.grouped.now.signals.now),
)

pub round_numbers-requires-clause-known : goal.round_numbers-requires-clause-known
round_numbers-requires-clause-known c =
    let lt : c.loop-done.done + 1 ≤ last_round (frame_of (rules_of c.args.grouped.now.signals.now)) =
    omega (arith, c.loop-done-test.true, c.rounds-done-end.ensures.value, last_round_of (rules_of c.args.grouped.now.signals.now)) in
    let at : c.from-in-loop-done.result ≡ c.loop-done.done + 1 - 1 = omega (arith, c.from-in-loop-done.ensures) in
    λ marked s t one. c.requires.known.same (c.loop-done.done + 1) s t (omega arith) lt (subst (λ k. get_or c.args.known.now k false ≡ true) at marked) one

pub loop-done-preserved : goal.loop-done-preserved
loop-done-preserved c =
    let f = frame_of (rules_of c.args.grouped.now.signals.now) in
    let old = c.args.grouped.now.classes.now.lists in
    let numbers = c.loop-done.numbers.items in
    let here = c.in_ok-here.here in
    let more : rows c.push.new.self.items ≡ rows numbers ++ here.items ∷ [] = ap (λ (vs : List (Vec ℕ Global)). rows vs) c.in_ok-push.ensures.items
    ∙ map-append (λ (v : Vec ℕ Global). v.items) numbers (here ∷ []) in
    let n : c.loop-done.done + 1 ≡ suc (length (rows numbers)) = omega (arith, c.loop-done.invariant.long) in
    record {
      long = ap (λ (l : ClassLists). length l) more ∙ length-append (rows numbers) (here.items ∷ []) ∙ ap (λ k. k + 1) c.loop-done.invariant.long;
      each = subst (AreExactTo f old) (sym more) (exact_more f old (rows numbers) here.items c.loop-done.invariant.each
          (subst (λ r. AreTurnNumbers f old r here.items) n c.in_ok-here.ensures));
    }

pub returns : goal.returns
returns c =
    let g = rules_of c.args.grouped.now.signals.now in
    all_exact (frame_of g) c.args.grouped.now.classes.now.lists (rows c.loop-done.numbers.items)
    (omega (arith, c.loop-done.invariant.long, c.loop-done-test.false, c.loop-done.auto.done-end, c.rounds-done-end.ensures.value, last_round_of g))
    c.loop-done.invariant.each
