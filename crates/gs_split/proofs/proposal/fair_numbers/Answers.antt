use Rattle.std.proofs.{Common.{◌≡◌, ◌+◌, ◌-◌, ◌<◌, ℕ, List, ap, arith, get_or, length, subst, sym, ◌∙◌, Vec, Global}, lemmas.Grind.{common_steps}}
use Rattle.std.specs.List.{All}
use Rattle.gs_model.specs.{Classes.{list_of}, Frame.{frame_of, signal_count}, Signals.{parents, signals}}
use Rattle.gs_model.proofs.{Ranges.{length-parents, signal_count_is}, Walked.{last_round_of}}
use Rattle.gs_tree.specs.Trees.{rules_of}
use Rattle.gs_lossless.proofs.Descent.{list_long, playable}
use Rattle.gs_split.specs.Proposal.{AreFair, child_number}
use Rattle.gs_split.proofs.{Proposed.{children_fair}, Turned.{both_ok, list_next, parents_under}}
use Rattle.gs_split.proofs.proposal.fair_numbers.Goals.{After-count, After-deref, After-parents_in-parents}
use Rattle.gs_split.proofs.proposal.fair_numbers.Goals as goal

pub parents_in-parents-requires-clause-last : goal.parents_in-parents-requires-clause-last
parents_in-parents-requires-clause-last c = omega (arith, c.requires.before_last, last_round_of (rules_of c.args.grouped.now.signals.now))

-- the classes of the next round
next : (c : After-deref) → c.deref.result.now ≡ list_of c.args.grouped.now.classes.now.lists (c.args.round + 1)
next c =
    let all = c.args.grouped.now.classes.now.classes.rounds ∙ ap (λ (ps : List (List ℕ)). length ps) c.args.grouped.now.parents in
    list_next c.lists.result.now c.args.grouped.now.classes.now.lists c.from.result c.args.round c.index-lists-from.result c.deref.result.now
    c.lists.ensures.value c.from.ensures (omega (arith, all, c.requires.before_last)) c.index-lists-from.is c.deref.ensures.value

-- its signals, each with a parent
many : (c : After-parents_in-parents) → length (signals (rules_of c.args.grouped.now.signals.now) (c.args.round + 1)) ≡ length c.parents_in-parents.result.now
many c = sym (length-parents (rules_of c.args.grouped.now.signals.now) (c.args.round + 1)) ∙ ap (λ (l : List ℕ). length l) (sym c.parents_in-parents.ensures)

-- the round's own signals
count : (c : After-count) → c.count.result ≡ signal_count (frame_of (rules_of c.args.grouped.now.signals.now)) c.args.round
count c =
    let g = rules_of c.args.grouped.now.signals.now in
    c.count.ensures.value ∙ sym (signal_count_is g c.args.round c.requires.some (omega (arith, c.requires.before_last, last_round_of g)))

pub child_numbers-requires : goal.child_numbers-requires
child_numbers-requires c = record {
  classes = let g = rules_of c.args.grouped.now.signals.now in
      ap (λ (l : List ℕ). length l) (next (goal.at.child_numbers-requires c).After-deref)
      ∙ list_long g c.args.grouped.now.classes.now c.args.grouped.now.parents (c.args.round + 1) (omega arith)
      (omega (arith, c.requires.before_last, last_round_of g)) ∙ many (goal.at.child_numbers-requires c).After-parents_in-parents;
  numbers = let g = rules_of c.args.grouped.now.signals.now in
      c.requires.fair.long ∙ signal_count_is g (c.args.round + 1) (omega arith) (omega (arith, c.requires.before_last, last_round_of g))
      ∙ many (goal.at.child_numbers-requires c).After-parents_in-parents;
  in_range = let f = frame_of (rules_of c.args.grouped.now.signals.now) in
      let down : c.args.round ≡ c.args.round + 1 - 1 = omega arith in
      subst (λ (ps : List ℕ). All (λ p. p < c.count.result) ps) (sym c.parents_in-parents.ensures)
      (parents_under c.args.grouped.now.signals.now (c.args.round + 1) c.count.result (omega arith)
      (omega (arith, c.requires.before_last, last_round_of (rules_of c.args.grouped.now.signals.now))) (λ one. absurd (omega (arith, one, c.requires.some)))
      (λ _. count (goal.at.child_numbers-requires c).After-count ∙ ap (signal_count f) down));
}

pub returns : goal.returns
returns c =
    let g = rules_of c.args.grouped.now.signals.now in
    let round = c.args.round in
    let lists = c.args.grouped.now.classes.now.lists in
    let below = c.args.below.now in
    let many = count (goal.at.returns c).After-count in
    both_ok c.child_numbers.result
    (λ (v : Vec ℕ Global). length v.items ≡ c.count.result)
    (λ (v : Vec ℕ Global). (x : ℕ) → x < c.count.result → get_or v.items x 0 ≡ child_number c.parents_in-parents.result.now c.deref.result.now below x)
    (λ (v : Vec ℕ Global). AreFair (frame_of g) lists round v.items)
    (λ v long h. children_fair g (playable c.args.grouped.now.signals.now) lists round below v.items c.requires.some c.requires.before_last c.requires.fair
    (long ∙ many)
    (λ x l. subst (λ (k : List ℕ). get_or v.items x 0 ≡ child_number (parents g (round + 1)) k below x) (next (goal.at.returns c).After-deref)
    (subst (λ (k : List ℕ). get_or v.items x 0 ≡ child_number k c.deref.result.now below x) c.parents_in-parents.ensures (h x (omega (arith, l, long))))))
    c.child_numbers.ensures.long c.child_numbers.ensures.each

pub count-requires-clause-in_range : goal.count-requires-clause-in_range
count-requires-clause-in_range c = omega (arith, c.requires.before_last, last_round_of (rules_of c.args.grouped.now.signals.now))

pub bounds-lists-from : goal.bounds-lists-from
bounds-lists-from c = grind (arith, common_steps)
