use Rattle.std.proofs.{Common.{ℕ, List, length, ap, ◌∙◌, arith}, lemmas.Int.{to_z-of_z}}
use Rattle.std.specs.Prelude.{ℤ}
use mir.Syntax.{w128}
use Rattle.gs_model.specs.{Frame.{round_of}, Positions.{at_end}}
use Rattle.gs_seq.specs.Abstracts.{abstract_frame, lists_of}
use Rattle.gs_seq.proofs.Forms.{form_walked}
use Rattle.gs_best.proofs.Rooms.{rows_written}
use Rattle.gs_best.proofs.judging.plans_pay.Goals as goal

pub payoff_in-requires-clause-sums : goal.payoff_in-requires-clause-sums
payoff_in-requires-clause-sums c =
    let f = abstract_frame c.args.form.now in
    let w = form_walked c.args.form.now 1 (omega arith) (omega arith) in
    λ z l. omega (arith, c.requires.room.ends (round_of f (at_end z)) (w.end_round z l) (w.end_in z l), ap (λ (l : List ℤ). length l) c.deref_mut.ensures.value)

pub payoff_in-requires-clause-numbers : goal.payoff_in-requires-clause-numbers
payoff_in-requires-clause-numbers c =
    let f = abstract_frame c.args.form.now in
    let w = form_walked c.args.form.now 1 (omega arith) (omega arith) in
    λ z l. omega (
      arith,
      c.requires.room.numbers (round_of f (at_end z)) (w.end_round z l) (w.end_in z l),
      ap (λ (l : List ℕ). length l)
          c.deref_mut-2.ensures.value,
    )

pub returns : goal.returns
returns c = record {
  paid = to_z-of_z w128 c.payoff_in.result (record { sfits = c.payoff_in.type_inv }) ∙ c.payoff_in.ensures;
  room = rows_written (abstract_frame c.args.form.now) (lists_of c.args.form.now) c.args.scratch.now c.payoff_in.new.numbers c.payoff_in.new.sums c.requires.room;
}

pub payoff_in-requires-clause-x : goal.payoff_in-requires-clause-x
payoff_in-requires-clause-x c = c.requires.one

pub payoff_in-requires-clause-y : goal.payoff_in-requires-clause-y
payoff_in-requires-clause-y c = c.requires.two
