use Rattle.std.proofs.{Common.{◌≡◌, ℕ, ◌+◌, List, length, slice_index, slice_set, ◌<◌, ℤ, w64, sym, ap, subst, ◌∙◌, arith, rules}, lemmas.Int.{to_z-of_z}}
use mir.Val.{SFits}
use Rattle.gs_simplex.specs.{Numbers.{at}, Columns.{place_in, AreStands, IsSetRow}}
use Rattle.gs_simplex.proofs.{Slots.{set_more, set_none}, Standing.{place_past}, start.set_places.Goals.{then-place-part, else-place-part}}
use Rattle.gs_simplex.proofs.start.set_places.Goals as goal

pub loop-j-preserved : goal.loop-j-preserved
loop-j-preserved c =
    let m = c.args.rows in let n = length c.args.stands.now in let s = slice_index c.args.stands.now in let i = c.args.i in
    let part = c.loop-j.part in let next = c.if-place-part.part in let w = length part in let row = c.args.row.now in let j = c.loop-j.j in
    let k = c.place_of-place.result in
    let jn : j < n = omega (arith, c.loop-j-test.true, c.requires.long) in
    let A : ℕ → Type 0 = λ x. AreStands m x n s in
    let W : ℕ → Type 0 = λ x. IsSetRow m x (j + 1) s i (at row) (at next) in
    let P : List ℤ → Type 0 = λ x. IsSetRow m w (j + 1) s i (at row) (at x) in
    subst W (sym c.if-place-part.auto.part) (elim c.if-place-part.branch [
      | then-place-part x ↦ (let fits : SFits w64 (at row j) = search rules in
          let e : next ≡ slice_set part k (at row j) = x.part-is ∙ ap (λ z. slice_set part k z) (to_z-of_z w64 (at row j) fits) in
          subst P (sym e) (set_more m n s i j (at row) part k c.place_of-place.ensures c.loop-j.invariant
          (subst A (sym c.loop-j.auto.part) c.requires.stands) jn x.if-place-part.true))
      | else-place-part x ↦ (let B : ℕ → Type 0 = λ x. place_in m x (s j) i ≡ x in
          let out : place_in m w (s j) i ≡ w = place_past m w n s i (subst A (sym c.loop-j.auto.part) c.requires.stands) j jn
          (omega (arith, c.place_of-place.ensures, x.if-place-part.false)) in
          subst P (sym x.part-is) (set_none m n s i j (at row) part k c.place_of-place.ensures c.loop-j.invariant x.if-place-part.false
          (c.requires.apart j jn (subst B c.loop-j.auto.part out))))
    ])

pub loop-j-init : goal.loop-j-init
loop-j-init c = grind arith
