use Rattle.std.proofs.Common.{◌≡◌, ◌≤◌, ◌<◌, ◌∙◌, ◌+◌, ◌++◌, ℕ, true, false, List, ap, arith, drop, get_or, length, refl, replicate, rules, subst, sym, take}
use Rattle.std.proofs.lemmas.List.{length-replicate}
use Rattle.gs_filter.specs.Members.{AreNextMembers}
use Rattle.gs_filter.proofs.ClassLaws.{class_at, count_fits}
use Rattle.gs_model.specs.{Classes.{ClassLists, IsClass, class_count, class_of}, Frame.{frame_of, signal_count}}
use Rattle.gs_lossless.proofs.{Marked.{whole}, Scanned.{aspect_classes, aspect_signals}, AspectOf.{as_asked}}
use Rattle.gs_lossless.specs.{declared.aspects.Aspect.{Aspect}, Amounts.{AreAspectFirsts, HasAspect}}
use Rattle.gs_tree.specs.Trees.{rules_of}
use Rattle.gs_split.specs.Turns.{AreMemberNumbers, AreSettled, AreAspectNumbers}
use Rattle.gs_split.proofs.{MemberNumbers.{AreDone, done_all, done_more, done_none, done_settled}, aspects.numbers_by_class.Goals.{In_ok-at, Start}}
use Rattle.gs_split.proofs.aspects.numbers_by_class.Goals as goal

-- what is known of the stand-ins
stands : (c : In_ok-at) → AreAspectFirsts (frame_of (rules_of c.args.grouped.now.signals.now)) c.args.grouped.now.classes.now.lists c.in_ok-at.at.aspect
    c.args.round c.args.firsts.now
stands c = c.requires.firsts c.in_ok-at.at.aspect (subst (λ a. HasAspect (frame_of (rules_of c.args.grouped.now.signals.now)) a c.args.round)
    (sym c.in_ok-at.ensures.aspect.0) c.aspect_at-aspect.ensures.aspect)

top : (c : Start) → c.args.round ≤ length c.args.grouped.now.classes.now.lists
top c = omega (arith, c.requires.top, c.args.grouped.now.classes.now.classes.rounds, ap (λ (ps : List (List ℕ)). length ps) c.args.grouped.now.parents)

-- a round has few classes
few : (c : Start) → class_count c.args.grouped.now.classes.now.lists c.args.round < 4294967296
few c = count_fits c.args.grouped.now.classes.now c.args.round c.requires.some (top c)

-- the class behind the classes before
next_class : (lists : ClassLists) (round before n : ℕ) → before < n → n ≡ class_count lists round → IsClass lists round (before + 1)
next_class lists round before n l all = (omega arith, omega (arith, l, all))

pub overflow_cast-before : goal.overflow_cast-before
overflow_cast-before c = omega (
  arith,
  few (goal.at.overflow_cast-before c).Start,
  c.requires.settled.long,
  c.loop-before-test.true,
)

pub overflow_add-before : goal.overflow_add-before
overflow_add-before c = omega (
  arith,
  few (goal.at.overflow_add-before c).Start,
  c.requires.settled.long,
  c.loop-before-test.true,
)

pub loop-before-preserved-then-is_settled : goal.loop-before-preserved-then-is_settled
loop-before-preserved-then-is_settled c =
    let g = rules_of c.args.grouped.now.signals.now in
    let lists = c.args.grouped.now.classes.now.lists in
    let classes = c.args.grouped.now.classes.now in
    let aspect = c.aspect_at-aspect.ensures.aspect in
    let firsts = c.args.firsts.now in
    let settled = c.args.settled.now in
    let stand = stands (goal.at.loop-before-preserved-then-is_settled c).In_ok-at in
    let known : AreSettled lists c.args.round firsts settled = c.requires.settled in
    let i = c.loop-before.invariant in
    let long : length c.loop-before.numbers.items ≡ length firsts = omega (
      arith,
      i.long,
      c.in_ok-nexts.ensures.long,
      stand.long,
      aspect_signals g c.aspect_at-aspect.result c.args.round aspect,
      aspect_classes g classes c.args.grouped.now.parents c.aspect_at-aspect.result c.args.round aspect,
    ) in
    let is : get_or settled c.loop-before.before false ≡ true = c.if-is_settled.true in
    record {
      long = i.long;
      done = done_settled (frame_of g) lists c.in_ok-at.at.aspect c.args.round c.loop-before.before firsts c.loop-before.numbers.items settled stand known
          long is i.done;
    }

pub loop-before-preserved : goal.loop-before-preserved
loop-before-preserved c =
    let g = rules_of c.args.grouped.now.signals.now in
    let f = frame_of g in
    let lists = c.args.grouped.now.classes.now.lists in
    let at = c.in_ok-at.ensures in
    let k = c.loop-before.before + 1 in
    let i = c.loop-before.invariant in
    let old = c.loop-before.numbers.items in
    let new = c.number_members.new.numbers in
    let h = c.in_ok-number_members.ensures in
    let value = c.deref_mut.ensures.value in
    let long : length new ≡ length old = h.long ∙ ap (λ (l : List ℕ). length l) value in
    let others = subst (λ (l : List ℕ). (s : ℕ) → (class_of lists c.args.round s ≡ k → ⊥) → get_or new s 0 ≡ get_or l s 0) value
    (as_asked (λ s t a m. (x : ℕ) → (class_of t.lists m x ≡ k → ⊥) → get_or new x 0 ≡ get_or c.deref_mut.result.now x 0) {a = c.in_ok-at.at.aspect}
    at.signals at.classes (refl, at.aspect.1) h.others) in
    let members = as_asked (λ s t a m. AreMemberNumbers (frame_of (rules_of s)) t.lists a m k new) at.signals at.classes (refl, at.aspect.1) h.members in
    let all : take c.loop-before.numbers.len (new ++ drop (length new) old) ≡ new = whole c.loop-before.numbers.len new old long
    (omega (arith, c.loop-before.numbers.ok.0)) in
    record {
      long = ap (λ (l : List ℕ). length l) all ∙ long ∙ i.long;
      done = subst (AreDone f lists c.in_ok-at.at.aspect c.args.round k) (sym all)
          (done_more f lists c.in_ok-at.at.aspect c.args.round c.loop-before.before old new i.done long others members);
    }

pub returns : goal.returns
returns c =
    let g = rules_of c.args.grouped.now.signals.now in
    let f = frame_of g in
    let classes = c.args.grouped.now.classes.now in
    let lists = classes.lists in
    let aspect = c.aspect_at-aspect.ensures.aspect in
    let numbers = c.loop-before.numbers.items in
    let i = c.loop-before.invariant in
    let start = (goal.at.returns c).Start in
    let n = aspect_classes g classes c.args.grouped.now.parents c.aspect_at-aspect.result c.args.round aspect in
    let long : length numbers ≡ signal_count f c.args.round = omega (
      arith,
      i.long,
      c.in_ok-nexts.ensures.long,
      aspect_signals g c.aspect_at-aspect.result c.args.round aspect,
      n,
    ) in
    let within : (s : ℕ) → s < length numbers → class_of lists c.args.round s ≤ c.loop-before.before = λ s l.
    (let is = class_at classes c.args.round c.requires.some (top start) s (omega (arith, l, i.long, c.in_ok-nexts.ensures.long)) in
    omega (arith, is.1, c.requires.settled.long, c.loop-before-test.false)) in
    c.aspect_at-aspect.ensures.turn lists numbers (subst (λ (s : Aspect). AreAspectNumbers f lists s c.args.round numbers) c.in_ok-at.ensures.aspect.0 (record {
      long = long;
      same = done_all f lists c.in_ok-at.at.aspect c.args.round c.loop-before.before (length numbers) numbers i.done refl within;
    }))

pub next_members-requires-clause-top : goal.next_members-requires-clause-top
next_members-requires-clause-top c = grind arith

pub loop-before-init : goal.loop-before-init
loop-before-init c =
    let lists = c.args.grouped.now.classes.now.lists in
    let numbers = c.in_ok-numbers.numbers.items in
    let start = (goal.at.loop-before-init c).Start in
    let len : c.len.result ≡ length c.in_ok-nexts.nexts.items = c.len.ensures ∙ c.in_ok-nexts.nexts.ok.0 in
    let none : numbers ≡ replicate c.len.result 0 = c.in_ok-numbers.ensures.items_if_clones_equal (λ y k. search rules) in
    record {
      long = ap (λ (l : List ℕ). length l) none ∙ length-replicate c.len.result 0 ∙ len;
      done = done_none (frame_of (rules_of c.args.grouped.now.signals.now)) lists c.in_ok-at.at.aspect c.args.round c.len.result numbers
          (len ∙ c.in_ok-nexts.ensures.long) none
          (λ s l. (class_at c.args.grouped.now.classes.now c.args.round c.requires.some (top start) s l).0);
    }

pub number_members-requires : goal.number_members-requires
number_members-requires c = record {
  firsts = let at = c.in_ok-at.ensures in
      as_asked (λ s k a m. AreAspectFirsts (frame_of (rules_of s)) k.lists a m c.args.firsts.now) (sym at.signals) (sym at.classes) (refl, sym at.aspect.1)
      (stands (goal.at.number_members-requires c).In_ok-at);
  nexts = let at = c.in_ok-at.ensures in
      as_asked (λ s t a m. AreNextMembers t.lists m c.deref.result.now) {a = c.in_ok-at.at.aspect} (sym at.signals) (sym at.classes) (refl, sym at.aspect.1)
      (subst (AreNextMembers c.args.grouped.now.classes.now.lists c.args.round) (sym c.deref.ensures.value) c.in_ok-nexts.ensures);
  class = let at = c.in_ok-at.ensures in
      as_asked (λ s t a m. IsClass t.lists m (c.loop-before.before + 1)) {a = c.in_ok-at.at.aspect} (sym at.signals) (sym at.classes) (refl, sym at.aspect.1)
      (next_class c.args.grouped.now.classes.now.lists c.args.round c.loop-before.before (length c.args.settled.now) c.loop-before-test.true
      c.requires.settled.long);
  numbers = ap (λ (l : List ℕ). length l) c.deref_mut.ensures.value ∙ c.loop-before.invariant.long ∙ ap (λ (l : List ℕ). length l) (sym c.deref.ensures.value);
}
