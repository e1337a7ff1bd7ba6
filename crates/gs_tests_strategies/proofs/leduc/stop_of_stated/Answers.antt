use Rattle.std.proofs.Common.{sym, subst, arith}
use Rattle.gs_simplex.specs.Program.{IsOpening, Listing}
use Rattle.gs_tests_strategies.proofs.leduc.stop_of_stated.Goals as goal

pub run-answer-requires : goal.run-answer-requires
run-answer-requires g = record {
  opened = record {
    small_rows = grind arith;
    small_cols = grind arith;
    shaped = grind arith;
    opens = subst (λ (l : Listing). IsOpening g.in_ok-program.program l) (sym g.deref-2.ensures.value) g.in_ok-program.ensures.path.opens;
  };
  small_limit = omega arith;
}
