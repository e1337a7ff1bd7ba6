use Rattle.std.proofs.Common.{◌≡◌, ◌+◌, ◌<◌, ◌∙◌, ℕ, List, ap, arith, get_or, length, subst, sym}
use Rattle.gs_model.specs.{Game.{Game}, Signals.{signals}}
use Rattle.gs_tree.specs.{Trees.{rules_of}, Walk.{last_count}}
use Rattle.gs_iso.proofs.Handed.{AreHanded, finds_more, hand_at, handed_all, handed_next}
use Rattle.gs_iso.proofs.hands.stand_ins_by_hand.Goals as goal

pub loop-signal-preserved : goal.loop-signal-preserved
loop-signal-preserved c =
    let g : Game = rules_of c.args.signals.now in
    let boards : List ℕ = c.boards.result.0.now in
    let masks : List ℕ = c.args.masks.now in
    let keys : List ℕ = c.args.keys.now in
    let n : ℕ = c.loop-signal.signal in
    let here : n < last_count g = omega (arith, c.loop-signal-test.true, c.count-count.ensures.value, ap (λ k. length (signals g k)) c.rounds.ensures.value) in
    let hand : (ℕ × ℕ) × (ℕ × ℕ) = ((get_or boards n 0, c.strength.result), (get_or masks n 0, get_or keys n 0)) in
    let is : hand ≡ hand_at g boards masks keys n =
    ap (λ (s : ℕ). let h : (ℕ × ℕ) × (ℕ × ℕ) = ((get_or boards n 0, s), (get_or masks n 0, get_or keys n 0)) in h) c.strength.ensures.value in
    let more = handed_next g boards c.boards.result.1.now masks keys c.boards.ensures c.requires.masks c.loop-signal.seen c.loop-signal.firsts.items n
    c.unwrap_or.result hand c.in_ok-earlier.earlier here c.loop-signal.invariant.firsts c.loop-signal.invariant.found is c.in_ok-earlier.ensures.old
    c.unwrap_or.ensures in
    record {
      firsts = subst (λ (l : List ℕ). AreHanded g keys l (n + 1)) (sym c.in_ok-push.ensures.items) more;
      found = finds_more g boards masks keys c.loop-signal.seen c.insert.new.self n hand c.loop-signal.invariant.found is c.in_ok-earlier.ensures.updates.0;
    }

pub returns : goal.returns
returns c =
    let g : Game = rules_of c.args.signals.now in
    let count = ap (λ k. length (signals g k)) c.rounds.ensures.value in
    handed_all g c.args.keys.now c.loop-signal.firsts.items c.loop-signal.signal c.loop-signal.invariant.firsts
    (omega (arith, c.loop-signal-test.false, c.loop-signal.auto.signal-end, c.count-count.ensures.value, count))

pub loop-signal-init : goal.loop-signal-init
loop-signal-init c = grind arith

pub bounds-keys-place : goal.bounds-keys-place
bounds-keys-place c = grind arith

pub bounds-masks-place : goal.bounds-masks-place
bounds-masks-place c = grind arith

pub strength-requires : goal.strength-requires
strength-requires c = grind arith

pub bounds-boards-place : goal.bounds-boards-place
bounds-boards-place c =
    let all = c.count-count.ensures.value ∙ ap (λ k. length (signals (rules_of c.args.signals.now) k)) c.rounds.ensures.value in
    subst (λ n. c.loop-signal.signal < n) (all ∙ sym c.boards.ensures.firsts_long) c.loop-signal-test.true
