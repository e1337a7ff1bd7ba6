use Rattle.std.proofs.{Common.{true≢false, ◌≡◌, ◌<◌, ◌≤◌, ◌∙◌, ℕ, List, ap, arith, get_or, inl, length, subst, sym}, lemmas.Grind.{common_steps}}
use Rattle.gs_model.specs.{Classes.{class_of, first_member, list_of}, Frame.{frame_of}, Numbering.{IsNumbered}, Signals.{signals}}
use Rattle.gs_filter.proofs.ClassLaws.{greatest_before}
use Rattle.gs_tree.specs.Trees.{rules_of}
use Rattle.gs_lossless.specs.Scans.{AgreeBelow}
use Rattle.gs_lossless.proofs.{Scanned.{agree_more, agree_self, aspect_classes, aspect_in, stood_agrees}, scan.apart_before.Goals.{Start}}
use Rattle.gs_lossless.proofs.scan.apart_before.Goals as goal

-- the list of the round has a class for each signal, and numbers them as they are first seen
module _ (c : Start) where
  long : let g = rules_of c.args.at.now.signals.now in length (list_of c.args.at.now.classes.now.lists c.args.at.now.round) ≡ length
      (signals g c.args.at.now.round)
  long =
      let at = c.args.at.now in
      aspect_classes (rules_of at.signals.now) at.classes.now at.parents at.aspect at.round at.has

  within : (0 < c.args.at.now.round) × (c.args.at.now.round ≤ length c.args.at.now.classes.now.lists)
  within =
      let h = aspect_in (frame_of (rules_of c.args.at.now.signals.now)) c.args.at.now.aspect c.args.at.now.round c.args.at.now.has in
      (h.0, omega (arith, h.1, ap (λ (ps : List (List ℕ)). length ps) c.args.at.now.parents, c.args.at.now.classes.now.classes.rounds))

  numbered : IsNumbered (list_of c.args.at.now.classes.now.lists c.args.at.now.round)
  numbered =
      let h = aspect_in (frame_of (rules_of c.args.at.now.signals.now)) c.args.at.now.aspect c.args.at.now.round c.args.at.now.has in
      c.args.at.now.classes.now.classes.numbered c.args.at.now.round h.0 (omega (arith, h.1, ap (λ (ps : List (List ℕ)). length ps) c.args.at.now.parents))

  -- before the end there are at most as many classes as signals
  few : (signal : ℕ) → signal < c.args.end → class_of c.args.at.now.classes.now.lists c.args.at.now.round signal ≤ c.args.end
  few signal l =
      let list = list_of c.args.at.now.classes.now.lists c.args.at.now.round in
      let within : signal < length list = omega (arith, long, c.requires, l) in
      omega (arith, (numbered signal within).1, greatest_before list numbered signal (omega (arith, within)), l)

pub class_of-requires-clause-within : goal.class_of-requires-clause-within
class_of-requires-clause-within c = omega (arith, long (goal.at.class_of-requires-clause-within c).Start, c.requires)

pub stand_ins_at-requires : goal.stand_ins_at-requires
stand_ins_at-requires c = c.loop-signal.invariant.stand

pub agrees-requires : goal.agrees-requires
agrees-requires c =
    let class = c.class_of.ensures in
    record {
      in_range = omega (arith, c.loop-signal-test.true, c.requires);
      within = omega (
        arith,
        class.value,
        class.class.1,
        c.loop-signal.invariant.long,
        few (goal.at.agrees-requires c).Start c.loop-signal.signal c.loop-signal-test.true,
      );
      kept = c.loop-signal.invariant.kept;
    }

pub loop-signal-init : goal.loop-signal-init
loop-signal-init c = record {
  long = grind (arith, common_steps);
  kept = λ k a b. inl (λ d. c.in_ok-kept.ensures.empty _ d (omega (arith, a, b, c.in_ok-kept.ensures.long)));
  stand = grind (arith, common_steps);
  agree = λ s l. absurd (omega (arith, l));
}

pub loop-signal-preserved-then-has_earlier : goal.loop-signal-preserved-then-has_earlier
loop-signal-preserved-then-has_earlier c =
    let f = frame_of (rules_of c.args.at.now.signals.now) in
    let lists = c.args.at.now.classes.now.lists in
    let signal = c.loop-signal.signal in
    let firsts = c.in_ok-firsts.firsts.items in
    let found = subst (λ (xs : List ℕ). (signal < length xs) × (get_or xs signal 0 < signal)) c.deref.ensures.value
    (c.has_earlier.ensures c.if-has_earlier.true) in
    record {
      long = c.loop-signal.invariant.long;
      kept = c.loop-signal.invariant.kept;
      stand = c.in_ok-firsts.ensures;
      agree = agree_more f lists c.args.at.now.aspect c.args.at.now.round signal c.loop-signal.invariant.agree
          (stood_agrees f lists c.args.at.now.aspect c.args.at.now.round signal firsts (c.in_ok-firsts.ensures (omega (arith, found.0))) found.0 found.1
          c.loop-signal.invariant.agree);
    }

pub loop-signal-preserved-then-first-signal : goal.loop-signal-preserved-then-first-signal
loop-signal-preserved-then-first-signal c =
    let f = frame_of (rules_of c.args.at.now.signals.now) in
    let lists = c.args.at.now.classes.now.lists in
    let round = c.args.at.now.round in
    let signal = c.loop-signal.signal in
    let own : first_member lists round (class_of lists round signal) ≡ signal = ap (first_member lists round) (sym c.class_of.ensures.value)
    ∙ sym c.first.ensures.value ∙ c.if-first-signal.true in
    record {
      long = c.loop-signal.invariant.long;
      kept = c.loop-signal.invariant.kept;
      stand = c.in_ok-firsts.ensures;
      agree = agree_more f lists c.args.at.now.aspect round signal c.loop-signal.invariant.agree (agree_self f lists c.args.at.now.aspect round signal own);
    }

pub returns-then-not-same : goal.returns-then-not-same
returns-then-not-same c = (
  c.loop-signal-test.true,
  c.loop-signal.invariant.agree,
  (λ a. true≢false (sym (c.in_ok-same.ensures.agrees.1 a) ∙ c.if-not-same.true)),
)

pub loop-signal-preserved : goal.loop-signal-preserved
loop-signal-preserved c =
    let at = c.args.at.now in
    record {
      long = c.in_ok-same.ensures.long ∙ c.loop-signal.invariant.long;
      kept = c.in_ok-same.ensures.kept;
      stand = c.in_ok-firsts.ensures;
      agree = agree_more (frame_of (rules_of at.signals.now)) at.classes.now.lists at.aspect at.round c.loop-signal.signal c.loop-signal.invariant.agree
          (c.in_ok-same.ensures.agrees.0 c.if-not-same.false);
    }

pub returns : goal.returns
returns c =
    let at = c.args.at.now in
    subst (AgreeBelow (frame_of (rules_of at.signals.now)) at.classes.now.lists at.aspect at.round) (omega (arith, c.loop-signal-test.false, c.loop-signal.auto))
    c.loop-signal.invariant.agree

pub first-requires-clause-top : goal.first-requires-clause-top
first-requires-clause-top c = (within (goal.at.first-requires-clause-top c).Start).1

pub first-requires-clause-some : goal.first-requires-clause-some
first-requires-clause-some c = (within (goal.at.first-requires-clause-some c).Start).0

pub class_of-requires-clause-top : goal.class_of-requires-clause-top
class_of-requires-clause-top c = (within (goal.at.class_of-requires-clause-top c).Start).1

pub class_of-requires-clause-some : goal.class_of-requires-clause-some
class_of-requires-clause-some c = (within (goal.at.class_of-requires-clause-some c).Start).0

pub classes-requires-clause-top : goal.classes-requires-clause-top
classes-requires-clause-top c = (within (goal.at.classes-requires-clause-top c).Start).1

pub classes-requires-clause-some : goal.classes-requires-clause-some
classes-requires-clause-some c = (within (goal.at.classes-requires-clause-some c).Start).0

pub first-requires-clause-class : goal.first-requires-clause-class
first-requires-clause-class c = c.class_of.ensures.class
