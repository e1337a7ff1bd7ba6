use Rattle.std.proofs.Common.{◌≡◌, ◌∙◌, ◌+◌, ◌≤◌, ◌∷◌, [], ℕ, List, ap, arith, below_more, get_or, length, sym}
use Rattle.std.proofs.lemmas.{List.{get_or_append_left, get_or_push, length_push}, Result.{IfOk-weaker}}
use Rattle.gs_filter.proofs.RowLaws.{length-rows}
use Rattle.gs_model.specs.{Classes.{list_of}, Frame.{frame_of, signal_count}, Game.{round_count}, Signals.{signals}}
use Rattle.gs_model.proofs.{Ranges.{signal_count_is}, Walked.{last_round_of}}
use Rattle.gs_tree.specs.{Trees.{rules_of}}
use Rattle.gs_lossless.specs.Alike.{AreStandIns}
use Rattle.gs_lossless.proofs.Descent.{list_long, playable}
use Rattle.gs_split.proofs.{Agreed.{firsts_of_classes, firsts_of_themselves}, Turned.{list_read}}
use Rattle.gs_split.proofs.aspects.aspect_firsts.Goals.{After-deref, Start}
use Rattle.gs_split.proofs.aspects.aspect_firsts.Goals as goal

-- one class for each signal
many : (c : Start) → length (list_of c.args.grouped.now.classes.now.lists c.args.round)
    ≡ signal_count (frame_of (rules_of c.args.grouped.now.signals.now)) c.args.round
many c =
    let g = rules_of c.args.grouped.now.signals.now in
    let top : c.args.round ≤ round_count g = omega (arith, c.requires.top, last_round_of g) in
    list_long g c.args.grouped.now.classes.now c.args.grouped.now.parents c.args.round c.requires.some top
    ∙ sym (signal_count_is g c.args.round c.requires.some top)

-- the keys are the classes of the round
keys : (c : After-deref) → c.deref.result.now ≡ list_of c.args.grouped.now.classes.now.lists c.args.round
keys c =
    let all = c.args.grouped.now.classes.now.classes.rounds ∙ ap (λ (ps : List (List ℕ)). length ps) c.args.grouped.now.parents in
    list_read c.lists.result.now c.args.grouped.now.classes.now.lists c.from.result c.args.round c.index-lists-from.result c.deref.result.now
    c.lists.ensures.value c.from.ensures c.requires.some (omega (arith, c.requires.top, all)) c.index-lists-from.is c.deref.ensures.value

pub stand_ins-requires : goal.stand_ins-requires
stand_ins-requires c =
    let s = c.args.grouped.now.signals.now in
    let g = rules_of s in
    let last : c.args.round ≡ round_count g = c.if-round-rounds.true ∙ c.rounds.ensures.value in
    ap (λ (l : List ℕ). length l) (keys (goal.at.stand_ins-requires c).After-deref)
    ∙ list_long g c.args.grouped.now.classes.now c.args.grouped.now.parents c.args.round c.requires.some (omega (arith, last))
    ∙ ap (λ r. length (signals g r)) last

pub returns-then-round-rounds : goal.returns-then-round-rounds
returns-then-round-rounds c =
    let s = c.args.grouped.now.signals.now in
    let g = rules_of s in
    let lists = c.args.grouped.now.classes.now.lists in
    IfOk-weaker c.stand_ins.result (λ v. AreStandIns g c.deref.result.now v.items) _
    (λ v h. firsts_of_classes g (playable s) c.args.round lists c.deref.result.now v.items (c.if-round-rounds.true ∙ c.rounds.ensures.value)
    (many (goal.at.returns-then-round-rounds c).Start) (keys (goal.at.returns-then-round-rounds c).After-deref) h)
    c.stand_ins.ensures

pub count-count-requires-clause-in_range : goal.count-count-requires-clause-in_range
count-count-requires-clause-in_range c = omega (arith, c.requires.top, last_round_of (rules_of c.args.grouped.now.signals.now))

pub returns : goal.returns
returns c = λ aspect has.
    (let g = rules_of c.args.grouped.now.signals.now in
    let top : c.args.round ≤ round_count g = omega (arith, c.requires.top, last_round_of g) in
    let all : c.loop-signal.signal ≡ c.count-count.result = omega (arith, c.loop-signal-test.false) in
    firsts_of_themselves g aspect c.args.round c.loop-signal.signal c.args.grouped.now.classes.now.lists c.loop-signal.firsts.items c.requires.some top
    (all ∙ c.count-count.ensures.value) c.loop-signal.invariant.long c.loop-signal.invariant.each)

pub loop-signal-preserved : goal.loop-signal-preserved
loop-signal-preserved c =
    let firsts = c.loop-signal.firsts.items in
    let s = c.loop-signal.signal in
    let put = c.in_ok-push.ensures.items in
    let long = c.loop-signal.invariant.long in
    record {
      long = ap (λ (l : List ℕ). length l) put ∙ length_push firsts s ∙ ap (λ k. k + 1) long;
      each = below_more _ _
          (λ k l. ap (λ (fs : List ℕ). get_or fs k 0) put ∙ get_or_append_left firsts (s ∷ []) 0 k (omega (arith, l, long)) ∙ c.loop-signal.invariant.each k l)
          (ap (λ (fs : List ℕ). get_or fs s 0) put ∙ get_or_push firsts s 0 s long);
    }

pub bounds-lists-from : goal.bounds-lists-from
bounds-lists-from c =
    let all = c.args.grouped.now.classes.now.classes.rounds ∙ ap (λ (ps : List (List ℕ)). length ps) c.args.grouped.now.parents in
    let long = ap (λ (ls : List (List ℕ)). length ls) c.lists.ensures.value in
    omega (arith, c.from.ensures, c.requires.some, c.requires.top, all, length-rows c.lists.result.now, long)
