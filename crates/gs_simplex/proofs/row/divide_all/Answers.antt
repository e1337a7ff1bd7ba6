use Rattle.std.proofs.Common.{◌≡◌, ℕ, ◌<◌, ◌^◌, length, slice_index, ℤ, pos, ◌*ℤ◌, unsigned_abs, to_z, of_z, w64, sym, ap, subst, ◌∙◌, arith}
use Rattle.std.proofs.lemmas.Grind.{common_steps}
use Prim.Native.Nat.{◌∣◌}
use Rattle.gs_simplex.specs.Numbers.{at}
use Rattle.gs_simplex.proofs.{Ring.{times_zero}, Fits.{kept_64, narrow_passed}, Supports.{columns_of, still_old, left_more, done_more, all_written}}
use Rattle.gs_simplex.proofs.row.divide_all.Goals as goal

pub guessed_quotient-requires-clause-multiple : goal.guessed_quotient-requires-clause-multiple
guessed_quotient-requires-clause-multiple c =
    let v = c.loop-k.invariant in let k = c.loop-k.k in let old = c.args.row.now in let row = c.loop-k.row in let places = c.args.places.now in let j =
    slice_index places k in
    let u = c.requires.support in let w = columns_of places c.args.found (length old) (at old) (at old) u in let kf = c.loop-k-test.true in
    let inside : j < length old = u.inside k kf in
    let e : at row j ≡ at old j = still_old places c.args.found k (length old) old row (pos 0) w kf c.loop-k.auto.row v.left in
    let N : ℤ → Type 0 = λ t. unsigned_abs t < 2 ^ 62 in
    let narrow : unsigned_abs (at row j) < 2 ^ 62 = subst N (sym e) (c.requires.narrow j inside) in
    let P : ℤ → Type 0 = λ t. c.args.by ∣ unsigned_abs t in
    record {
      some = c.requires.some;
      small = c.requires.small;
      narrow = narrow_passed (at row j) narrow;
      divides = subst P (sym (kept_64 (at row j) narrow ∙ e)) (c.requires.divides j inside);
    }

-- the quotient as it is stored
stored_is : (by : ℕ) (x old q : ℤ) → unsigned_abs old < 2 ^ 62 → unsigned_abs q < 2 ^ 62 → x ≡ old → to_z w64 (of_z w64 x) ≡ pos by *ℤ q
    → old ≡ pos by *ℤ to_z w64 (of_z w64 q)
stored_is by x old q ho hq e v = sym (kept_64 old ho) ∙ ap (λ t. to_z w64 (of_z w64 t)) (sym e) ∙ v ∙ ap (λ t. pos by *ℤ t) (sym (kept_64 q hq))

pub loop-k-preserved : goal.loop-k-preserved
loop-k-preserved c =
    let v = c.loop-k.invariant in let k = c.loop-k.k in let old = c.args.row.now in let row = c.loop-k.row in let places = c.args.places.now in let j =
    slice_index places k in
    let q = c.guessed_quotient.result in let n = c.guessed_quotient.ensures in let z = to_z w64 (of_z w64 q) in
    let u = c.requires.support in let w = columns_of places c.args.found (length old) (at old) (at old) u in let kf = c.loop-k-test.true in let long : length
    row ≡ length old = c.loop-k.auto.row in
    let e : at row j ≡ at old j = still_old places c.args.found k (length old) old row z w kf long v.left in
    let is : at old j ≡ pos c.args.by *ℤ z = stored_is c.args.by (at row j) (at old j) q (c.requires.narrow j (u.inside k kf)) n.narrow e n.value in
    let small : unsigned_abs z < 2 ^ 62 = (let P : ℤ → Type 0 = λ t. unsigned_abs t < 2 ^ 62 in subst P (sym (kept_64 q n.narrow)) n.narrow) in
    record {
      each = done_more places c.args.found k (length old) old row z w kf long v.left (λ i (t : ℤ). at old i ≡ pos c.args.by *ℤ t) v.each is;
      narrow = done_more places c.args.found k (length old) old row z w kf long v.left (λ i (t : ℤ). unsigned_abs t < 2 ^ 62) v.narrow small;
      left = left_more places c.args.found k (length old) old row z w kf long v.left;
    }

zero_times_by : (by : ℕ) (x y : ℤ) → x ≡ pos 0 → y ≡ x → x ≡ pos by *ℤ y
zero_times_by by x y e f = e ∙ sym (ap (λ t. pos by *ℤ t) (f ∙ e) ∙ times_zero (pos by))

pub returns : goal.returns
returns c =
    let v = c.loop-k.invariant in let old = c.args.row.now in let row = c.loop-k.row in let places = c.args.places.now in let u = c.requires.support in
    let P : ℤ → Type 0 = λ t. unsigned_abs t < 2 ^ 62 in
    record {
      each = all_written (λ j (t : ℤ). at old j ≡ pos c.args.by *ℤ t) places c.args.found (length old) row (λ k h. v.each k (omega arith))
          (λ j h none. zero_times_by c.args.by (at old j) (at row j) (u.outside j h none).0 (v.left j (λ k l. none k (omega arith))));
      narrow = all_written (λ j (t : ℤ). unsigned_abs t < 2 ^ 62) places c.args.found (length old) row (λ k h. v.narrow k (omega arith))
          (λ j h none. subst P (sym (v.left j (λ k l. none k (omega arith)))) (c.requires.narrow j h));
    }

pub bounds-row-j : goal.bounds-row-j
bounds-row-j c = grind (arith, common_steps)

pub slice_copy_out-guessed_quotient : goal.slice_copy_out-guessed_quotient
slice_copy_out-guessed_quotient c = grind arith

pub guessed_quotient-requires-clause-same : goal.guessed_quotient-requires-clause-same
guessed_quotient-requires-clause-same c = grind arith
