use Rattle.std.proofs.Common.{◌≡◌, ◌<◌, ◌≤◌, ℕ, List, ap, arith, get_or, length, map, pos, subst, sym, ◌∙◌, Vec, Global}
use Rattle.std.proofs.lemmas.List.{length-map}
use Rattle.gs_model.specs.{Classes.{list_of}, Frame.{frame_of, last_round, signal_count}, Game.{round_count}, Signals.{signals}}
use Rattle.gs_model.proofs.{Ranges.{signal_count_is}, Walked.{last_round_of}}
use Rattle.gs_filter.proofs.RowLaws.{length-rows}
use Rattle.gs_tree.specs.{Trees.{rules_of}, Walk.{last_count}}
use Rattle.gs_boards.specs.Boards.{deal_remainder}
use Rattle.gs_lossless.proofs.Descent.{list_long, playable}
use Rattle.gs_split.specs.Proposal.{AreFair, mixed}
use Rattle.gs_split.proofs.{Proposed.{deals_fair}, Turned.{both_ok, list_read}}
use Rattle.gs_split.proofs.proposal.plain_numbers.Goals.{After-deref}
use Rattle.gs_split.proofs.proposal.plain_numbers.Goals as goal

pub bounds-lists-from : goal.bounds-lists-from
bounds-lists-from c =
    let g = rules_of c.args.grouped.now.signals.now in
    let all = c.args.grouped.now.classes.now.classes.rounds ∙ ap (λ (ps : List (List ℕ)). length ps) c.args.grouped.now.parents in
    let long = ap (λ (l : List (List ℕ)). length l) c.lists.ensures.value in
    omega (arith, c.from.ensures, c.rounds-last.ensures.value, c.rounds-last.ensures.some, all, long, length-rows c.lists.result.now, last_round_of g)

-- the classes of the last round
list : (c : After-deref) → c.deref.result.now ≡ list_of c.args.grouped.now.classes.now.lists (last_round (frame_of (rules_of c.args.grouped.now.signals.now)))
list c =
    let g = rules_of c.args.grouped.now.signals.now in
    let last = last_round (frame_of g) in
    let all = c.args.grouped.now.classes.now.classes.rounds ∙ ap (λ (ps : List (List ℕ)). length ps) c.args.grouped.now.parents in
    list_read c.lists.result.now c.args.grouped.now.classes.now.lists c.from.result last c.index-lists-from.result c.deref.result.now
    c.lists.ensures.value (omega (arith, c.from.ensures, c.rounds-last.ensures.value, last_round_of g))
    (omega (arith, c.rounds-last.ensures.value, c.rounds-last.ensures.some, last_round_of g)) (omega (arith, all)) c.index-lists-from.is
    c.deref.ensures.value

-- one for each of its signals
many : (c : After-deref) → length (list_of c.args.grouped.now.classes.now.lists (last_round (frame_of (rules_of c.args.grouped.now.signals.now))))
    ≡ last_count (rules_of c.args.grouped.now.signals.now)
many c =
    let g = rules_of c.args.grouped.now.signals.now in
    list_long g c.args.grouped.now.classes.now c.args.grouped.now.parents (last_round (frame_of g))
    (omega (arith, last_round_of g, (playable c.args.grouped.now.signals.now).some)) (omega (arith, last_round_of g))
    ∙ ap (λ r. length (signals g r)) (last_round_of g)

pub deal_remainders-requires-clause-numbers : goal.deal_remainders-requires-clause-numbers
deal_remainders-requires-clause-numbers c =
    let d = (goal.at.deal_remainders-requires-clause-numbers c).After-deref in
    let long = ap (λ (l : List ℕ). length l) (c.deref-2.ensures.value ∙ c.in_ok-hashes.ensures) in
    omega (arith, long, length-map c.deref.result.now mixed, ap (λ (l : List ℕ). length l) (list d), many d)

pub returns : goal.returns
returns c =
    let s = c.args.grouped.now.signals.now in
    let g = rules_of s in
    let f = frame_of g in
    let lists = c.args.grouped.now.classes.now.lists in
    let last = last_round f in
    let d = (goal.at.returns c).After-deref in
    let top : last ≤ round_count g = omega (arith, last_round_of g) in
    let some : 0 < last = omega (arith, last_round_of g, (playable s).some) in
    let count : last_count g ≡ signal_count f last = sym (many d) ∙ (list_long g c.args.grouped.now.classes.now c.args.grouped.now.parents last some top
    ∙ sym (signal_count_is g last some top)) in
    let hashes : c.deref-2.result.now ≡ map mixed (list_of lists last) = c.deref-2.ensures.value ∙ c.in_ok-hashes.ensures ∙ ap (map mixed) (list d) in
    both_ok c.deal_remainders.result
    (λ (v : Vec ℕ Global). length v.items ≡ last_count g)
    (λ (v : Vec ℕ Global). (x : ℕ) → x < last_count g → pos (get_or v.items x 0) ≡ deal_remainder g c.deref-2.result.now x)
    (λ (v : Vec ℕ Global). AreFair f lists last v.items)
    (λ v long h. deals_fair g (playable s) lists v.items (many d ∙ count) some (long ∙ count)
    (λ x l. subst (λ (k : List ℕ). pos (get_or v.items x 0) ≡ deal_remainder g k x) hashes (h x (omega (arith, l, many d)))))
    c.deal_remainders.ensures.long c.deal_remainders.ensures.each
