use Rattle.std.proofs.Common.{get_or, below_more, sym, ◌∙◌, ap, arith}
use Rattle.gs_filter.specs.Faults.{StaysTogether}
use Rattle.gs_filter.proofs.ApartLaws.{class_within, first_is, read_first_within, above_first_within}
use Rattle.gs_filter.proofs.apart.first_apart_in.Goals as goal

pub at-first-requires : goal.at-first-requires
at-first-requires c = class_within c.args.parents.now c.args.above.now c.args.list.now c.args.tallies.now c.requires c.loop-at.at c.loop-at-test.true

pub bounds-parents-first : goal.bounds-parents-first
bounds-parents-first c = read_first_within c.args.parents.now c.args.above.now c.args.list.now c.args.tallies.now c.requires c.loop-at.at c.loop-at-test.true
    c.at-first.result (c.at-first.ensures c.at-first.result)

pub bounds-above-parents : goal.bounds-above-parents
bounds-above-parents c = above_first_within c.args.parents.now c.args.above.now c.args.list.now c.args.tallies.now c.requires c.loop-at.at c.loop-at-test.true
    c.at-first.result (c.at-first.ensures c.at-first.result)

pub returns-then-above-parents : goal.returns-then-above-parents
returns-then-above-parents c =
    let e = first_is c.args.parents.now c.args.above.now c.args.list.now c.args.tallies.now c.requires c.loop-at.at c.loop-at-test.true
    c.at-first.result (c.at-first.ensures c.at-first.result) in
    record {
      within = c.loop-at-test.true;
      first = e;
      before = c.loop-at.invariant;
      here = λ h. c.if-above-parents.true (sym h ∙ ap (λ k. get_or c.args.above.now (get_or c.args.parents.now k 0) 0) (sym e));
    }

pub loop-at-preserved : goal.loop-at-preserved
loop-at-preserved c =
    let e = first_is c.args.parents.now c.args.above.now c.args.list.now c.args.tallies.now c.requires c.loop-at.at c.loop-at-test.true
    c.at-first.result (c.at-first.ensures c.at-first.result) in
    below_more (StaysTogether c.args.parents.now c.args.above.now c.args.list.now) c.loop-at.at c.loop-at.invariant
    (ap (λ k. get_or c.args.above.now (get_or c.args.parents.now k 0) 0) (sym e) ∙ sym c.if-above-parents.false)

pub bounds-above-parents-in-loop-at : goal.bounds-above-parents-in-loop-at
bounds-above-parents-in-loop-at c = grind arith

pub bounds-parents-at : goal.bounds-parents-at
bounds-parents-at c = grind arith
