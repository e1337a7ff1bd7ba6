use Rattle.std.proofs.Common.{◌≡◌, ◌+◌, ◌≤◌, ℕ, length, sym, subst, arith}
use Rattle.gs_simplex.specs.{Program.{Listing}, State.{IsState}}
use Rattle.gs_simplex.proofs.path.follow.Goals as goal

pub returns-in-None : goal.returns-in-None
returns-in-None c = grind arith

pub step-requires-clause-task : goal.step-requires-clause-task
step-requires-clause-task c = c.requires.ready.task

not_below : (n : ℕ) → 0 ≤ n
not_below n = omega arith

and_none : (n : ℕ) → n ≡ n + 0
and_none n = omega arith

pub loop-made-init : goal.loop-made-init
loop-made-init c =
    let p = c.args.p.now in let o = c.args.opening.now in let held = c.args.table.now in let ready = c.requires.ready in
    record {
      within = not_below c.args.limit;
      state = subst (λ n. IsState p o n c.args.basis.now held) (and_none (length o))
          (subst (λ (l : Listing). IsState p o (length o) l held) (sym ready.same) ready.state);
    }
