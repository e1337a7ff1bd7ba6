use Rattle.std.proofs.lemmas.Grind.{common_steps}
use Rattle.std.proofs.Common.{Vec, ℕ, sym, subst, arith}
use Rattle.std.specs.declared.alloc.Global.{Global}
use Rattle.gs_model.specs.Frame.{point_count}
use Rattle.gs_seq.specs.Abstracts.{abstract_frame, lists_of}
use Rattle.gs_best.specs.Tables.{moves_of}
use Rattle.gs_play.specs.Answers.{AreRight}
use Rattle.gs_play.proofs.Seated.{inside_one, inside_two, right_kept, still_kept, turned}
use Rattle.gs_play.proofs.turns.turn.Goals as goal

pub renew-requires-clause-right : goal.renew-requires-clause-right
renew-requires-clause-right c =
    let f = abstract_frame c.args.form.now in
    let lists = lists_of c.args.form.now in
    right_kept f lists 1 (moves_of f lists c.args.one.now.answer.taken.items) c.args.one.now.tally c.sweep.new.tally c.requires.playing.seat_one.right
    c.sweep.ensures.swept.tells

pub renew-requires-2-clause-right : goal.renew-requires-2-clause-right
renew-requires-2-clause-right c =
    let f = abstract_frame c.args.form.now in
    let lists = lists_of c.args.form.now in
    let taken = moves_of f lists c.args.two.now.answer.taken.items in
    right_kept f lists 2 taken c.renew.new.tally c.sweep-2.new.tally
    (subst (λ (v : Vec ℕ Global). AreRight f lists 2 taken (moves_of f lists v.items)) (sym c.renew.ensures.renewed.kept.picks)
    c.requires.playing.seat_two.right)
    c.sweep-2.ensures.swept.tells

pub returns-clause-playing : goal.returns-clause-playing
returns-clause-playing c =
    let points = point_count (abstract_frame c.args.form.now) in
    turned c.args.form.now c.args.clock.turn c.args.clock.last c.args.clock.order c.args.clock.few c.args.one.now c.args.two.now c.requires.playing
    c.sweep.new.tally c.sweep.ensures.settled c.sweep.ensures.swept
    c.renew.new.answer c.renew.new.own c.renew.ensures.same c.renew.ensures.right
    c.renew.new.tally c.sweep-2.new.tally c.renew.ensures.renewed c.sweep-2.ensures.settled c.sweep-2.ensures.swept
    c.renew-2.new.answer c.renew-2.new.own c.renew-2.ensures.same c.renew-2.ensures.right
    c.renew-2.new.tally c.renew-2.ensures.renewed
    c.next_turn.result c.next_turn.ensures.later c.next_turn.ensures.one c.next_turn.ensures.two c.renew-2.ensures.own
    (still_kept points c.renew.new.own c.renew-2.new.tally c.renew-2.ensures.renewed.kept.moved c.renew.ensures.still) c.renew-2.ensures.still

pub renew-requires-2-clause-own : goal.renew-requires-2-clause-own
renew-requires-2-clause-own c = c.sweep-2.ensures.swept.room

pub sweep-requires-2 : goal.sweep-requires-2
sweep-requires-2 c = grind (arith, common_steps)

pub next_turn-requires : goal.next_turn-requires
next_turn-requires c = grind (arith, common_steps)

pub invariant_of-second : goal.invariant_of-second
invariant_of-second c = grind arith

pub renew-requires-clause-own : goal.renew-requires-clause-own
renew-requires-clause-own c = grind arith

pub sweep-requires : goal.sweep-requires
sweep-requires c = record { room = c.requires.playing.seat_one.room }

pub returns-clause-later : goal.returns-clause-later
returns-clause-later c = c.next_turn.ensures.later

pub returns-clause-most : goal.returns-clause-most
returns-clause-most c = c.next_turn.ensures.most

pub invariant_of-first : goal.invariant_of-first
invariant_of-first c = grind arith

pub renew-requires-clause-renewable : goal.renew-requires-clause-renewable
renew-requires-clause-renewable c = record {
  answer = c.requires.playing.seat_one.answer;
  long = c.sweep.ensures.swept.room.picks;
  moves = inside_one c.args.form.now c.args.clock.turn c.args.clock.last c.args.clock.order c.args.clock.few c.args.one.now c.args.two.now c.requires.playing
      c.sweep.new.tally c.sweep.ensures.settled c.sweep.ensures.swept;
  room = c.requires.playing.seat_two.room;
}

pub renew-requires-2-clause-renewable : goal.renew-requires-2-clause-renewable
renew-requires-2-clause-renewable c = record {
  answer = c.requires.playing.seat_two.answer;
  long = c.sweep-2.ensures.swept.room.picks;
  moves = inside_two c.args.form.now c.args.clock.turn c.args.clock.last c.args.clock.order c.args.clock.few c.args.one.now c.args.two.now c.requires.playing
      c.sweep.new.tally c.sweep.ensures.settled c.sweep.ensures.swept
      c.renew.new.answer c.renew.new.own c.renew.ensures.same c.renew.ensures.right
      c.renew.new.tally c.sweep-2.new.tally c.renew.ensures.renewed c.sweep-2.ensures.settled c.sweep-2.ensures.swept;
  room = c.renew.ensures.own;
}
