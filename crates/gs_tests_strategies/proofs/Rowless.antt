-- A program with no row is well shaped, and the empty list is an opening of it.
use Rattle.std.proofs.Common.{◌≡◌, ℕ, ◌<◌, ◌^◌, [], Bool, true, false, IsTrue, ℤ, pos, unsigned_abs, length, refl, sym, ap, subst, ◌∙◌, arith}
use Rattle.gs_simplex.specs.{declared.program.Program.{Program}, Program.{IsShaped, IsOpened, IsOpening}}
use Rattle.gs_simplex.proofs.Ring.{linear}
use Rattle.gs_tests_strategies.specs.Programs.{IsRowless}

rowless_shaped : (count : ℕ) (p : Program) → IsRowless count p → IsShaped p
rowless_shaped count p s = record {
  rows = ap length s.numbers ∙ sym s.rows;
  row = λ i h. absurd (omega (arith, s.rows));
  free = s.free_long ∙ sym s.cols;
  aim = s.aim_long ∙ sym s.cols;
  narrow = λ i j h g. absurd (omega (arith, s.rows));
  narrow_aim = λ j h. (let P : ℤ → Type 0 = λ t. unsigned_abs t < 2 ^ 62 in subst P (sym (s.aim j)) (omega arith));
}

rowless_opens : (count : ℕ) (p : Program) → IsRowless count p → IsOpening p []
rowless_opens count p s = record {
  long = sym s.rows;
  each_row = λ i h. absurd (omega (arith, s.rows));
  taken = λ k h. absurd (omega arith);
  free_named = λ j h f. (let P : Bool → Type 0 = λ t. IsTrue t in let e : false ≡ true = subst P (s.free j) f in absurd (cc));
  feasible = (
    pos 1,
    λ j. pos 0,
    record {
      solution = record { positive = omega (arith, linear); solves = λ i h. absurd (omega (arith, s.rows)) };
      nonnegative = λ j h bound. omega (arith, linear);
    },
    λ j h out. refl,
  );
}

pub rowless_opened : (count : ℕ) (p : Program) → IsRowless count p → count < 2 ^ 31 → IsOpened p []
rowless_opened count p s few = record {
  small_rows = omega (arith, s.rows);
  small_cols = omega (arith, s.cols, few);
  shaped = rowless_shaped count p s;
  opens = rowless_opens count p s;
}
