use Rattle.std.proofs.Common.{◌-◌, ◌<◌, arith}
use Rattle.gs_seq.proofs.Forms.{form_moves}
use Rattle.gs_best.specs.Tables.{moves_of}
use Rattle.gs_play.specs.Sides.{side_frame, side_lists}
use Rattle.gs_play.proofs.{Paid.{began_before, old_in, old_read, paid_few, paid_off}, Slotted.{counted_none}}
use Rattle.gs_play.proofs.answers.pay_off.Goals.{Then-old}
use Rattle.gs_play.proofs.answers.pay_off.Goals as goal

pub index-old-requires : goal.index-old-requires
index-old-requires c = omega (arith, c.cell_of-cell.ensures.inside, c.requires.answer.taken, c.args.answer.now.taken.ok.0)

-- what is taken is a move
some_move : (c : Then-old) → c.index-old.result.now < 255
some_move c = omega (arith, c.if-old.true, c.type_inv.old.fits)

pub slot-slot-requires-clause-choice : goal.slot-slot-requires-clause-choice
slot-slot-requires-clause-choice c =
    old_in (side_frame c.args.side.now) (side_lists c.args.side.now) c.args.side.now.player c.args.now c.args.point c.args.class c.requires.point c.requires.own
    c.requires.class c.args.answer.now c.requires.answer c.cell_of-cell.result c.cell_of-cell.ensures.place c.index-old.result.now c.index-old.ensures
    (some_move (goal.at.slot-slot-requires-clause-choice c).Then-old)

pub index-requires : goal.index-requires
index-requires c = omega (arith, c.cell_of-cell.ensures.inside, c.requires.answer.since, c.args.answer.now.since.ok.0)

pub overflow_sub-now : goal.overflow_sub-now
overflow_sub-now c =
    began_before (side_frame c.args.side.now) (side_lists c.args.side.now) c.args.side.now.player c.args.now c.args.point c.args.class c.requires.point
    c.requires.own c.requires.class c.args.answer.now c.requires.answer c.cell_of-cell.result c.cell_of-cell.ensures.place c.index.result.now
    c.index.ensures

pub overflow_add-index_mut : goal.overflow_add-index_mut
overflow_add-index_mut c =
    let few = paid_few (side_frame c.args.side.now) (side_lists c.args.side.now) c.args.side.now.player c.args.now c.args.point c.args.class c.requires.point
    c.requires.own c.requires.class c.args.answer.now c.requires.answer c.cell_of-cell.result c.cell_of-cell.ensures.place c.index-old.result.now
    c.index.result.now c.slot-slot.result c.index_mut.result.now c.from.result c.index-old.ensures
    (some_move (goal.at.overflow_add-index_mut c).Then-old) c.index.ensures c.slot-slot.ensures.value c.index_mut.ensures.value c.from.ensures in
    record { fits = omega (arith, few, c.ranges.now.fits) }

pub returns-then-old-clause-weights : goal.returns-then-old-clause-weights
returns-then-old-clause-weights c = λ p e m lp his le lm.
    paid_off (side_frame c.args.side.now) (side_lists c.args.side.now) c.args.side.now.player c.args.now c.args.point c.args.class c.requires.point
    c.requires.own c.requires.class c.args.answer.now c.requires.answer c.cell_of-cell.result c.cell_of-cell.ensures.place c.index-old.result.now
    c.index.result.now c.slot-slot.result c.index_mut.result.now c.from.result c.index-old.ensures
    (some_move (goal.at.returns-then-old-clause-weights c).Then-old) c.index.ensures c.slot-slot.ensures.value c.index_mut.ensures.value
    c.from.ensures p e m his le lm

pub returns-else-old-clause-weights : goal.returns-else-old-clause-weights
returns-else-old-clause-weights c = λ p e m lp his le lm.
    let f = side_frame c.args.side.now in
    let lists = side_lists c.args.side.now in
    let a = c.args.answer.now in
    let taken = moves_of f lists a.taken.items c.args.point c.args.class in
    let began = moves_of f lists a.since.items c.args.point c.args.class in
    let read = old_read f lists c.args.side.now.player c.args.now c.args.point c.args.class c.requires.point c.requires.own c.requires.class a
    c.requires.answer c.cell_of-cell.result c.cell_of-cell.ensures.place c.index-old.result.now c.index-old.ensures in
    let few = (form_moves c.args.side.now.form.now p lp).few in
    let none = counted_none c.args.point c.args.class taken (c.args.now - began) p e m (omega (arith, read, few, lm, c.if-old.false)) in
    omega (arith, none)

pub index_mut-requires : goal.index_mut-requires
index_mut-requires c = grind arith

pub returns-then-old-clause-since : goal.returns-then-old-clause-since
returns-then-old-clause-since c = grind arith

pub returns-then-old-clause-taken : goal.returns-then-old-clause-taken
returns-then-old-clause-taken c = grind arith

pub returns-then-old-clause-turned : goal.returns-then-old-clause-turned
returns-then-old-clause-turned c = grind arith

pub slot-slot-requires-clause-point : goal.slot-slot-requires-clause-point
slot-slot-requires-clause-point c = grind arith
