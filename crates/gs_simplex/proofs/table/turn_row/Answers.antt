use Rattle.std.proofs.Common.{◌<◌, ◌^◌, inr, ℤ, pos, neg_ℤ, ◌<ℤ◌, ◌≤ℤ◌, unsigned_abs, to_z, of_z, w64, sym, subst, arith}
use Rattle.std.proofs.lemmas.{Grind.{common_steps}, Int.{ints}}
use Rattle.gs_simplex.specs.Numbers.{at}
use Rattle.gs_simplex.proofs.{Fits.{kept_64, lt_true}, Ring.{linear}}
use Rattle.gs_simplex.proofs.table.turn_row.Goals as goal

turned_up : (x : ℤ) → x <ℤ pos 0 → pos 0 ≤ℤ neg_ℤ x
turned_up x h = omega (arith, linear)

turned_narrow : (x : ℤ) → unsigned_abs x < 2 ^ 62 → unsigned_abs (neg_ℤ x) < 2 ^ 62
turned_narrow x h = omega (arith, ints, h)

pub returns-then-row-c-lt0 : goal.returns-then-row-c-lt0
returns-then-row-c-lt0 c = record {
  turned = let x = at c.args.row.now c.args.c in
      let below : x <ℤ pos 0 = subst (λ t. t <ℤ pos 0) (kept_64 x (c.requires.narrow c.args.c c.requires.inside))
      (lt_true (to_z w64 (of_z w64 x)) (pos 0) c.if-row-c-lt0.true) in
      record { own = subst (λ t. pos 0 ≤ℤ t) (sym (c.turn.ensures c.args.c c.requires.inside)) (turned_up x below); self = inr c.turn.ensures };
  narrow = λ j h.
      let inside = subst (λ n. j < n) c.turn.auto.row h in
      subst (λ t. unsigned_abs t < 2 ^ 62) (sym (c.turn.ensures j inside)) (turned_narrow (at c.args.row.now j) (c.requires.narrow j inside));
}

pub returns-else-row-c-lt0 : goal.returns-else-row-c-lt0
returns-else-row-c-lt0 c = grind (arith, common_steps)

pub turn-requires : goal.turn-requires
turn-requires c = grind (arith, common_steps)
