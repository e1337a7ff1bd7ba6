use Rattle.std.proofs.{Common.{◌≡◌, ◌<◌, ◌≤◌, ℕ, List, ap, arith, length, subst, sym, ◌∙◌, Vec, Global}, lemmas.Grind.{common_steps}}
use Rattle.std.specs.List.{All}
use Rattle.gs_model.specs.{Classes.{list_of}, Frame.{frame_of}, Game.{round_count}}
use Rattle.gs_model.proofs.{Ranges.{length-parents, parents_at, signal_count_is}, Walked.{last_round_of}}
use Rattle.gs_tree.specs.Trees.{rules_of}
use Rattle.gs_lossless.proofs.Descent.{list_long}
use Rattle.gs_iso.specs.KeyNumbers.{IsKeyClasses}
use Rattle.gs_split.specs.Turns.{IsRoundParted, turn_key}
use Rattle.gs_split.proofs.{Turned.{both_ok, first_parents, list_read, parents_under, round_made}, parting.round_parted.Goals.{After-deref}}
use Rattle.gs_split.proofs.parting.round_parted.Goals as goal

pub parents_in-requires-clause-last : goal.parents_in-requires-clause-last
parents_in-requires-clause-last c = omega (arith, c.requires.top, last_round_of (rules_of c.args.grouped.now.signals.now))

pub round_classes-requires : goal.round_classes-requires
round_classes-requires c =
    let g = rules_of c.args.grouped.now.signals.now in
    let round = c.args.round in
    let top : round ≤ round_count g = omega (arith, c.requires.top, last_round_of g) in
    let n = c.args.grouped.now.signals.now.game.now.limits.signals_in round top in
    let m = signal_count_is g round c.requires.some top in
    omega (arith, n, m, c.requires.numbers)

-- what is read are the round's classes
before : (c : After-deref) → c.deref.result.now ≡ list_of c.args.grouped.now.classes.now.lists c.args.round
before c =
    let all = c.args.grouped.now.classes.now.classes.rounds ∙ ap (λ (ps : List (List ℕ)). length ps) c.args.grouped.now.parents in
    list_read c.lists.result.now c.args.grouped.now.classes.now.lists c.from.result c.args.round c.index-lists-from.result c.deref.result.now
    c.lists.ensures.value c.from.ensures c.requires.some (omega (arith, all, c.requires.top)) c.index-lists-from.is c.deref.ensures.value

pub invariant_of-keys : goal.invariant_of-keys
invariant_of-keys c =
    let g = rules_of c.args.grouped.now.signals.now in
    let round = c.args.round in
    let top : round ≤ round_count g = omega (arith, c.requires.top, last_round_of g) in
    let many = sym (signal_count_is g round c.requires.some top) ∙ sym c.requires.numbers in
    record {
      old = ap (λ (l : List ℕ). length l) (before (goal.at.invariant_of-keys c).After-deref)
          ∙ list_long g c.args.grouped.now.classes.now c.args.grouped.now.parents round c.requires.some top ∙ many;
      all = ap (λ (l : List ℕ). length l) c.parents_in.ensures ∙ length-parents g round ∙ many;
      in_range = subst (λ (ps : List ℕ). All (λ p. p < length c.args.above.now) ps) (sym c.parents_in.ensures)
          (parents_under c.args.grouped.now.signals.now round (length c.args.above.now) c.requires.some top c.requires.any c.requires.above);
    }

pub returns : goal.returns
returns c =
    let g = rules_of c.args.grouped.now.signals.now in
    let f = frame_of g in
    let round = c.args.round in
    let lists = c.args.grouped.now.classes.now.lists in
    let above = c.args.above.now in
    let numbers = c.args.numbers.now in
    let top : round ≤ round_count g = omega (arith, c.requires.top, last_round_of g) in
    let ps = c.parents_in.ensures ∙ sym (parents_at g round c.requires.some top) in
    both_ok c.round_classes.result
    (λ (v : Vec ℕ Global). length v.items ≡ length numbers)
    (λ (v : Vec ℕ Global). IsKeyClasses (turn_key c.deref.result.now above c.parents_in.result.now numbers) v.items)
    (λ (v : Vec ℕ Global). IsRoundParted f lists above numbers round v.items)
    (λ v long h. round_made f lists round above numbers v.items c.deref.result.now c.parents_in.result.now (before (goal.at.returns c).After-deref) ps
    c.requires.numbers
    (λ i one l. first_parents c.args.grouped.now.signals.now round i one l) c.requires.some long h)
    c.round_classes.ensures.long c.round_classes.ensures.classes

pub bounds-lists-from : goal.bounds-lists-from
bounds-lists-from c = grind (arith, common_steps)
