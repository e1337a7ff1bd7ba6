use Rattle.std.proofs.Common.{◌≡◌, ℕ, List, Option, length, sym, ap, ◌∙◌, subst, arith}
use Rattle.std.proofs.lemmas.Grind.{common_steps}
use Rattle.std.specs.Prelude.{IfOk, IfSome}
use Rattle.gs_filter.specs.Filter.{Filter}
use Rattle.gs_game.proofs.StopLaws.{stops_later, stops_signals}
use Rattle.gs_model.specs.{Classes.{list_of}, Frame.{frame_of, signal_count}, Signals.{Signal}}
use Rattle.gs_model.proofs.Walked.{last_round_of}
use Rattle.gs_tree.specs.Trees.{rules_of}
use Rattle.gs_lossless.specs.{Scans.{IsFirstApart}, declared.aspects.Aspect.TheVariants.{Deals}}
use Rattle.gs_lossless.proofs.{Scanned.{aspect_signals, aspect_top}, Settled.{if_ok}, Transfer.{apart_from}}
use Rattle.gs_lossless.proofs.stopped.first_apart_over.Goals as goal

pub count-end-requires-clause-in_range : goal.count-end-requires-clause-in_range
count-end-requires-clause-in_range c = aspect_top (rules_of c.args.grouped.now.signals.now) Deals c.args.round c.requires.aspect

pub first_apart-requires : goal.first_apart-requires
first_apart-requires c = record {
  aspect = let h = rules_of c.args.stopped.now in
      let l = stops_later (rules_of c.args.grouped.now.signals.now) h c.args.round (omega (arith, c.requires.before_last)) c.requires.stops in
      (c.requires.aspect.0, omega (arith, l, last_round_of h));
  within = let same = ap (λ (xs : List Signal). length xs)
      (stops_signals (rules_of c.args.grouped.now.signals.now) (rules_of c.args.stopped.now) c.args.round (omega (arith, c.requires.before_last))
      c.requires.stops) in
      omega (arith, same, c.count-end.ensures.value);
}

pub returns-in-Some : goal.returns-in-Some
returns-in-Some c =
    let g = rules_of c.args.grouped.now.signals.now in
    let h = rules_of c.args.stopped.now in
    let lists = c.args.grouped.now.classes.now.lists in
    let others = c.in-Some.seen.lists in
    let round = c.args.round in
    let same = subst (λ (o : Option Filter). IfSome o (λ (f : Filter). list_of f.lists round ≡ list_of lists round)) c.in-Some.is c.in_ok-seen.ensures.same in
    let all = c.count-end.ensures.value ∙ sym (aspect_signals g Deals round c.requires.aspect) in
    if_ok c.first_apart.result (IsFirstApart (frame_of h) others Deals round c.count-end.result)
    (IsFirstApart (frame_of g) lists Deals round (signal_count (frame_of g) round))
    (λ r apart. subst (λ (n : ℕ). IsFirstApart (frame_of g) lists Deals round n r) all
    (apart_from g h round lists others c.requires.aspect.0 c.requires.before_last
    c.args.grouped.now.signals.now.game.now.accepted c.requires.stops same c.count-end.result r apart))
    c.first_apart.ensures

pub returns : goal.returns
returns c =
    let g = rules_of c.args.grouped.now.signals.now in
    let all = c.count-end.ensures.value ∙ sym (aspect_signals g Deals c.args.round c.requires.aspect) in
    subst (λ (n : ℕ). IfOk c.first_apart-2.result (IsFirstApart (frame_of g) c.args.grouped.now.classes.now.lists Deals c.args.round n)) all
    c.first_apart-2.ensures

pub stopped_classes-requires-clause-top : goal.stopped_classes-requires-clause-top
stopped_classes-requires-clause-top c = grind arith

pub invariant_of-seen : goal.invariant_of-seen
invariant_of-seen c = grind (arith, common_steps)
