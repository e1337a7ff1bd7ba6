use Rattle.std.proofs.lemmas.Result.{IfOk-from_err}
use Rattle.std.proofs.Common.{◌≡◌, ◌+◌, ◌-◌, ◌<◌, ◌∙◌, ◌^◌, ℕ, List, Some, Vec, Global, ap, arith, get_or, length, refl, set, slice_get, subst, sym}
use Rattle.gs_lossless.specs.{declared.parts.Part.{Part}, Amounts.{AreAmounts}, declared.aspect_keys.AspectKeys.{AspectKeys}}
use Rattle.gs_model.specs.{Classes.{list_of}, Frame.{frame_of, signal_count}, Signals.{signals}}
use Rattle.gs_tree.specs.Trees.{rules_of}
use Rattle.gs_lossless.proofs.{Merge.{part_decides}, Scanned.{aspect_classes, aspect_in, aspect_signals}}
use Rattle.gs_filter.proofs.Linked.{member_first}
use Rattle.gs_iso.specs.KeyNumbers.{IsNumberOf, StayIn, same_parts}
use Rattle.gs_iso.proofs.Numbered.{number_leads, slice_get-insert}
use Rattle.gs_split.proofs.{Agreed.{one_more, part_eq}, MemberNumbers.{AreNumbering, number_stood, numbered_all, numbered_first, numbering_more}}
use Rattle.gs_split.proofs.members.number_members.Goals.{then-first-signal, else-first-signal+in_ok-sums+in_ok-number, In_ok-number}
use Rattle.gs_split.proofs.members.number_members.Goals as goal

-- the list of the round has a class for each of its signals
all : (at : AspectKeys) → length (list_of at.classes.now.lists at.round) ≡ length (signals (rules_of at.signals.now) at.round)
all at = aspect_classes (rules_of at.signals.now) at.classes.now at.parents at.aspect at.round at.has

counted : (at : AspectKeys) → signal_count (frame_of (rules_of at.signals.now)) at.round ≡ length (signals (rules_of at.signals.now) at.round)
counted at = aspect_signals (rules_of at.signals.now) at.aspect at.round at.has

pub loop-next-init : goal.loop-next-init
loop-next-init c =
    let at = c.args.at.now in
    let lists = at.classes.now.lists in
    record {
      long = refl;
      others = λ s no. refl;
      numbered = numbered_first (frame_of (rules_of at.signals.now)) lists at.aspect at.round c.args.class c.new-seen.result.keys c.args.numbers.now
          c.first-next.result c.new-seen.ensures.empty
          (member_first lists at.round c.args.class c.first-next.result c.first-next.ensures.member c.first-next.ensures.value);
    }

pub sums-requires : goal.sums-requires
sums-requires c = omega (arith, c.loop-next-test.true, c.requires.nexts.long, all c.args.at.now)

pub loop-next-preserved : goal.loop-next-preserved
loop-next-preserved c =
    let at = c.args.at.now in
    let f = frame_of (rules_of at.signals.now) in
    let lists = at.classes.now.lists in
    let h = c.loop-next.invariant in
    let s = c.loop-next.next in
    let l : s < length c.args.nexts.now = c.loop-next-test.true in
    let old = c.loop-next.seen.keys in
    let old_numbers = c.args.numbers.now in
    let numbers = c.loop-next.numbers in
    let next = get_or c.args.nexts.now s 0 in
    let more : List (Vec Part Global) → ℕ → Type 0 = λ ks number. AreNumbering f lists at.aspect at.round c.args.class old_numbers ks (set numbers s number) next in
    elim c.if-first-signal.branch [
      | then-first-signal w ↦
          let stand = c.requires.firsts in
          let here = number_stood f lists at.aspect at.round c.args.class old_numbers c.args.firsts.now old numbers s h stand
          (omega (arith, l, stand.long, counted at, all at, c.requires.nexts.long)) (omega (arith, l, c.requires.nexts.long))
          (omega (arith, l, h.long, c.requires.numbers)) w.if-first-signal.true in
          let made = numbering_more f lists at.aspect at.round c.args.class old_numbers old old numbers c.args.nexts.now s
          (get_or numbers (get_or c.args.firsts.now s 0) 0) h c.requires.nexts l here (λ i k e. e) (omega arith) h.numbered.distinct in
          subst (λ ks. more ks c.if-first-signal.number) (sym (ap (λ x. x.keys) w.seen-is)) (subst (more old) (sym w.number-is) made)
      | else-first-signal+in_ok-sums+in_ok-number w ↦
          let n = w.in_ok-number.ensures in
          let sums = w.in_ok-sums.sums in
          let keys = w.insert_full.new.self.keys in
          let place = w.in_ok-number.field-0.0 in
          let behind : place + 1 - 1 ≡ place = omega arith in
          let number : IsNumberOf part_eq keys sums.items (place + 1) = record {
            some = omega arith;
            key = n.stored.0;
            stands = ap (slice_get keys) behind ∙ n.stored.1;
            same = n.stored.2;
          } in
          let stay : StayIn old keys = λ i k e. subst (λ ks. slice_get ks i ≡ Some k) (sym n.keys) (slice_get-insert (same_parts part_eq) old sums i k e) in
          let here = number_leads part_eq part_decides (AreAmounts f lists at.aspect at.round) keys sums.items s (place + 1) number w.in_ok-sums.ensures in
          let made = numbering_more f lists at.aspect at.round c.args.class old_numbers old keys numbers c.args.nexts.now s (place + 1) h c.requires.nexts l here
          stay (omega (arith, n.len, one_more w.in_ok-number.field-0.1 (length old))) n.unique in
          subst (λ ks. more ks c.if-first-signal.number) (sym (ap (λ x. x.keys) w.seen-is)) (subst (more keys) (sym w.number-is) made)
    ]

pub loop-next-smaller : goal.loop-next-smaller
loop-next-smaller c = grind arith

-- the number of a list fits 32 bits
fits : (c : In_ok-number) → c.in_ok-number.field-0.0 + 1 < 2 ^ 32
fits c =
    let n = c.in_ok-number.ensures in
    let room : length c.loop-next.seen.keys + 1 < 2 ^ 32 = grind arith in
    omega (arith, n.within, n.len, one_more c.in_ok-number.field-0.1 (length c.loop-next.seen.keys), room)

pub overflow_add-number : goal.overflow_add-number
overflow_add-number c = omega (arith, fits c)

pub bounds-firsts-signal : goal.bounds-firsts-signal
bounds-firsts-signal c = grind arith

pub returns : goal.returns
returns c = record {
  long = c.loop-next.invariant.long;
  others = grind arith;
  members = let at = c.args.at.now in
      let h = c.loop-next.invariant in
      numbered_all (frame_of (rules_of at.signals.now)) at.classes.now.lists at.aspect at.round c.args.class c.loop-next.seen.keys c.loop-next.numbers
      c.loop-next.next h.numbered (omega (arith, h.long, c.requires.numbers, c.loop-next-test.false));
}

pub first-next-requires-clause-top : goal.first-next-requires-clause-top
first-next-requires-clause-top c =
    let at = c.args.at.now in
    let h = aspect_in (frame_of (rules_of at.signals.now)) at.aspect at.round at.has in
    omega (arith, h.1, ap (λ (ps : List (List ℕ)). length ps) at.parents, at.classes.now.classes.rounds)

pub first-next-requires-clause-some : goal.first-next-requires-clause-some
first-next-requires-clause-some c = (aspect_in (frame_of (rules_of c.args.at.now.signals.now)) c.args.at.now.aspect c.args.at.now.round c.args.at.now.has).0

pub returns-in_err-number : goal.returns-in_err-number
returns-in_err-number c = let failed = c.from_residual-in_err-number.ensures.0 in record {
  long = IfOk-from_err _ _ failed;
  others = IfOk-from_err _ _ failed;
  members = IfOk-from_err _ _ failed;
}

pub returns-in_err-sums : goal.returns-in_err-sums
returns-in_err-sums c = let failed = c.from_residual.ensures.0 in record {
  long = IfOk-from_err _ _ failed;
  others = IfOk-from_err _ _ failed;
  members = IfOk-from_err _ _ failed;
}
