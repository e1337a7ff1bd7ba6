use Rattle.std.proofs.Common.{◌≡◌, ◌<◌, ◌≤◌, ◌∙◌, ℕ, Bool, false, true, List, ap, arith, get_or, length, replicate, rules, subst, sym}
use Rattle.std.proofs.lemmas.{Result.{IfOk-weaker}}
use Rattle.gs_filter.proofs.ClassLaws.{class_at}
use Rattle.gs_model.specs.{Classes.{list_of}, Frame.{frame_of}}
use Rattle.gs_model.proofs.{Ranges.{signal_count_is}, Walked.{last_round_of}}
use Rattle.gs_tree.specs.Trees.{rules_of}
use Rattle.gs_lossless.proofs.Descent.{list_long}
use Rattle.gs_lossless.specs.{declared.aspects.Aspect.{Aspect}, declared.aspects.Aspect.TheVariants.{Deals}, Amounts.{AreAspectFirsts, HasAspect}}
use Rattle.gs_split.specs.Turns.{AreSettled}
use Rattle.gs_split.proofs.{Agreed.{settled_turn}, aspects.aspect_numbers.Goals.{In_ok-firsts, Start}}
use Rattle.gs_split.proofs.aspects.aspect_numbers.Goals as goal

-- the round is one of the lists
top : (c : Start) → c.args.round ≤ length c.args.grouped.now.classes.now.lists
top c = omega (arith, c.requires.top, c.args.grouped.now.classes.now.classes.rounds, ap (λ (ps : List (List ℕ)). length ps) c.args.grouped.now.parents)

-- one stand-in for each class of a signal
many : (c : In_ok-firsts) → length c.in_ok-firsts.firsts.items ≡ length (list_of c.args.grouped.now.classes.now.lists c.args.round)
many c =
    let g = rules_of c.args.grouped.now.signals.now in
    let le = c.requires.top in
    (c.in_ok-firsts.ensures Deals (c.requires.some, le)).long ∙ signal_count_is g c.args.round c.requires.some (omega (arith, le, last_round_of g))
    ∙ sym (list_long g c.args.grouped.now.classes.now c.args.grouped.now.parents c.args.round c.requires.some (omega (arith, le, last_round_of g)))

pub settled_classes-requires-clause-all : goal.settled_classes-requires-clause-all
settled_classes-requires-clause-all c =
    ap (λ (l : List ℕ). length l) c.deref.ensures.value ∙ many (goal.at.settled_classes-requires-clause-all c).In_ok-firsts

pub returns-then-are_all : goal.returns-then-are_all
returns-then-are_all c =
    let g = rules_of c.args.grouped.now.signals.now in
    let f = frame_of g in
    let lists = c.args.grouped.now.classes.now.lists in
    let round = c.args.round in
    let firsts = c.in_ok-firsts.firsts.items in
    let settled = c.in_ok-settled.settled.items in
    let known : AreSettled lists round firsts settled = subst (λ (l : List ℕ). AreSettled lists round l settled) c.deref.ensures.value
    c.in_ok-settled.ensures in
    let all : (k : ℕ) → k < length settled → get_or settled k false ≡ true =
    subst (λ (l : List Bool). (k : ℕ) → k < length l → get_or l k false ≡ true) c.deref-2.ensures.value (c.are_all.ensures c.if-are_all.true) in
    let n = many (goal.at.returns-then-are_all c).In_ok-firsts in
    let len : c.len.result ≡ length firsts = omega (arith, c.len.ensures, c.in_ok-firsts.firsts.ok.0) in
    IfOk-weaker c.vec.result _ _
    (λ v h. settled_turn f lists round firsts v.items settled known all
    (λ s l. class_at c.args.grouped.now.classes.now round c.requires.some (top (goal.at.returns-then-are_all c).Start) s (omega (arith, l, n)))
    (subst (λ k. v.items ≡ replicate k 0) len (h (λ y k. search rules))) c.requires.some c.requires.top c.in_ok-firsts.ensures)
    c.vec.ensures.items_if_clones_equal

pub numbers_by_class-requires : goal.numbers_by_class-requires
numbers_by_class-requires c = record {
  some = c.requires.some;
  top = c.requires.top;
  firsts = let f = frame_of (rules_of c.args.grouped.now.signals.now) in
      subst (λ (l : List ℕ). (aspect : Aspect) → HasAspect f aspect c.args.round → AreAspectFirsts f c.args.grouped.now.classes.now.lists aspect c.args.round l)
      (sym c.deref-3.ensures.value) c.in_ok-firsts.ensures;
  settled = let lists = c.args.grouped.now.classes.now.lists in
      subst (AreSettled lists c.args.round c.deref-3.result.now) (sym c.deref-4.ensures.value)
      (subst (λ (l : List ℕ). AreSettled lists c.args.round l c.in_ok-settled.settled.items) (c.deref.ensures.value ∙ sym c.deref-3.ensures.value)
      c.in_ok-settled.ensures);
}

pub settled_classes-requires-clause-top : goal.settled_classes-requires-clause-top
settled_classes-requires-clause-top c = top (goal.at.settled_classes-requires-clause-top c).Start
