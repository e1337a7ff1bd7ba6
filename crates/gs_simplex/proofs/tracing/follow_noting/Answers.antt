use Rattle.std.proofs.{Common.{◌≡◌, ◌+◌, ◌∷◌, ◌++◌, [], List, length, Option, MatchOption, sym, ap, subst, arith}, lemmas.List.{length_push}}
use Rattle.gs_simplex.specs.{State.{IsEnd, IsTurnAt, IsTurnedState}, Trace.{AreTurns}, declared.answer.Turn.{Turn}}
use Rattle.gs_simplex.proofs.Traces.{turns_more}
use Rattle.gs_simplex.proofs.tracing.follow_noting.Goals as goal

pub loop-made-preserved : goal.loop-made-preserved
loop-made-preserved c =
    let p = c.args.p.now in let o = c.args.opening.now in let v = c.loop-made.invariant in let xs = c.loop-made.turns.items in let turn = c.in-Some.turn in
    let M : Option Turn → Type 0 = λ x. MatchOption x (IsEnd p o c.args.limit c.loop-made.made c.step.new.basis c.step.new.table)
    (λ y. IsTurnedState p o c.args.limit c.loop-made.made y c.step.new.basis c.step.new.table) in
    let w : IsTurnedState p o c.args.limit c.loop-made.made turn c.step.new.basis c.step.new.table = subst M c.in-Some.is c.in_ok-step.ensures in
    let items : c.note.new.turns.items ≡ xs ++ turn ∷ [] = c.in_ok-note-in-Some.ensures in
    record {
      within = omega (arith, w.within);
      state = w.state;
      long = omega (arith, ap length items, length_push xs turn, v.long);
      turns = subst (λ (x : List Turn). AreTurns p o x) (sym items)
          (turns_more p o xs turn v.turns (subst (λ k. IsTurnAt p o (length o + k) turn) (sym v.long) w.pivot));
    }

pub loop-made-init : goal.loop-made-init
loop-made-init c = grind arith

pub step-requires-clause-task : goal.step-requires-clause-task
step-requires-clause-task c = c.requires.ready.task
