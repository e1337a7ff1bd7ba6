use Rattle.std.proofs.Common.{◌≡◌, ◌<◌, ◌^◌, length, slice_index, ◌+◌, ◌*◌, ℤ, ◌-ℤ◌, ◌*ℤ◌, unsigned_abs, to_z, of_z, w64, sym, ap, subst, ◌∙◌, arith}
use Rattle.std.proofs.lemmas.Int.{to_z-of_z}
use Rattle.gs_simplex.specs.Numbers.{at}
use Rattle.gs_simplex.proofs.{Fits.{kept_64}, Supports.{columns_changed, still_old, left_more, done_more, all_written}}
use Rattle.gs_simplex.proofs.row.mix_narrow.Goals as goal

-- the product as it is stored
stored_is : (own far x y r old : ℤ) → unsigned_abs r < 2 ^ 62 → unsigned_abs old < 2 ^ 62 → unsigned_abs y < 2 ^ 62 → x ≡ old
    → r ≡ own *ℤ to_z w64 (of_z w64 x) -ℤ far *ℤ to_z w64 (of_z w64 y)
    → to_z w64 (of_z w64 r) ≡ own *ℤ old -ℤ far *ℤ y
stored_is own far x y r old hr ho hy e v =
    kept_64 r hr ∙ v ∙ ap (λ t. own *ℤ to_z w64 (of_z w64 t) -ℤ far *ℤ to_z w64 (of_z w64 y)) e
    ∙ ap (λ t. own *ℤ t -ℤ far *ℤ to_z w64 (of_z w64 y)) (kept_64 old ho) ∙ ap (λ t. own *ℤ old -ℤ far *ℤ t) (kept_64 y hy)

-- a bound on products as they are passed
stored_bound : (own own' far far' x x' y y' : ℤ) → own' ≡ own → far' ≡ far → x' ≡ x → y' ≡ y
    → unsigned_abs own * unsigned_abs x + unsigned_abs far * unsigned_abs y < 2 ^ 62
    → unsigned_abs own' * unsigned_abs x' + unsigned_abs far' * unsigned_abs y' < 2 ^ 62
stored_bound own own' far far' x x' y y' e f g h b =
    let A : ℤ → Type 0 = λ t. unsigned_abs t * unsigned_abs x' + unsigned_abs far' * unsigned_abs y' < 2 ^ 62 in let B : ℤ
    → Type 0 = λ t. unsigned_abs own * unsigned_abs x' + unsigned_abs t * unsigned_abs y' < 2 ^ 62 in
    let C : ℤ → Type 0 = λ t. unsigned_abs own * unsigned_abs t + unsigned_abs far * unsigned_abs y' < 2 ^ 62 in let D : ℤ
    → Type 0 = λ t. unsigned_abs own * unsigned_abs x + unsigned_abs far * unsigned_abs t < 2 ^ 62 in
    subst A (sym e) (subst B (sym f) (subst C (sym g) (subst D (sym h) b)))

pub narrow_mixed_number-requires : goal.narrow_mixed_number-requires
narrow_mixed_number-requires c =
    let v = c.loop-k.invariant in let k = c.loop-k.k in let old = c.args.row.now in let lead = c.args.lead.now in let row = c.loop-k.row in let places =
    c.args.places.now in let j = slice_index places k in
    let u = c.requires.change in let w = columns_changed places c.args.found (length old) (at old) (at lead) c.args.own c.args.far u in let kf =
    c.loop-k-test.true in
    let inside : j < length old = u.inside k kf in
    let here : at row j ≡ at old j = still_old places c.args.found k (length old) old row (at old j) w kf c.loop-k.auto.row v.left in
    stored_bound c.args.own (to_z w64 (of_z w64 c.args.own)) c.args.far (to_z w64 (of_z w64 c.args.far)) (at old j) (to_z w64 (of_z w64 (at row j))) (at lead j)
    (to_z w64 (of_z w64 (at lead j)))
    (to_z-of_z w64 c.args.own c.ranges.own) (to_z-of_z w64 c.args.far c.ranges.far)
    (ap (λ t. to_z w64 (of_z w64 t)) here ∙ kept_64 (at old j) (c.requires.narrow_row j inside))
    (kept_64 (at lead j) (c.requires.narrow_lead j (omega (arith, c.requires.same_length))))
    (c.requires.narrow k kf)

pub loop-k-preserved : goal.loop-k-preserved
loop-k-preserved c =
    let v = c.loop-k.invariant in let k = c.loop-k.k in let old = c.args.row.now in let lead = c.args.lead.now in let row = c.loop-k.row in let places =
    c.args.places.now in
    let r = c.narrow_mixed_number.result in let n = c.narrow_mixed_number.ensures in let z = to_z w64 (of_z w64 r) in let j = slice_index places k in
    let own = to_z w64 (of_z w64 c.args.own) in let far = to_z w64 (of_z w64 c.args.far) in
    let u = c.requires.change in let w = columns_changed places c.args.found (length old) (at old) (at lead) c.args.own c.args.far u in let kf =
    c.loop-k-test.true in let long : length row ≡ length old = c.loop-k.auto.row in
    let inside : j < length old = u.inside k kf in
    let here : at row j ≡ at old j = still_old places c.args.found k (length old) old row z w kf long v.left in
    let no = c.requires.narrow_row j inside in let nl = c.requires.narrow_lead j (omega (arith, c.requires.same_length)) in
    let is : z ≡ own *ℤ at old j -ℤ far *ℤ at lead j = stored_is own far (at row j) (at lead j) r (at old j) n.narrow no nl here n.value in
    let small : unsigned_abs z < 2 ^ 62 = (let P : ℤ → Type 0 = λ t. unsigned_abs t < 2 ^ 62 in subst P (sym (kept_64 r n.narrow)) n.narrow) in
    record {
      mixed = done_more places c.args.found k (length old) old row z w kf long v.left (λ i (t : ℤ). t ≡ own *ℤ at old i -ℤ far *ℤ at lead i) v.mixed is;
      narrow = done_more places c.args.found k (length old) old row z w kf long v.left (λ i (t : ℤ). unsigned_abs t < 2 ^ 62) v.narrow small;
      left = left_more places c.args.found k (length old) old row z w kf long v.left;
    }

pub returns : goal.returns
returns c = record {
  mixed = let v = c.loop-k.invariant in let old = c.args.row.now in let lead = c.args.lead.now in let row = c.loop-k.row in let places = c.args.places.now in
      let own = to_z w64 (of_z w64 c.args.own) in let far = to_z w64 (of_z w64 c.args.far) in let u = c.requires.change in
      all_written (λ j (t : ℤ). t ≡ c.args.own *ℤ at old j -ℤ c.args.far *ℤ at lead j) places c.args.found (length old) row
      (λ k h. let j = slice_index places k in v.mixed k (omega arith) ∙ ap (λ t. t *ℤ at old j -ℤ far *ℤ at lead j) (to_z-of_z w64 c.args.own c.ranges.own)
      ∙ ap (λ t. c.args.own *ℤ at old j -ℤ t *ℤ at lead j) (to_z-of_z w64 c.args.far c.ranges.far))
      (λ j h none. v.left j (λ i il. none i (omega arith)) ∙ sym (u.outside j h none));
  narrow = let v = c.loop-k.invariant in let old = c.args.row.now in let row = c.loop-k.row in let places = c.args.places.now in
      let P : ℤ → Type 0 = λ t. unsigned_abs t < 2 ^ 62 in
      λ j h. all_written (λ i (t : ℤ). unsigned_abs t < 2 ^ 62) places c.args.found (length old) row (λ k l. v.narrow k (omega arith))
      (λ i l none. subst P (sym (v.left i (λ k m. none k (omega arith)))) (c.requires.narrow_row i l)) j (omega (arith, c.loop-k.auto.row));
}

pub bounds-lead-j : goal.bounds-lead-j
bounds-lead-j c = grind arith
