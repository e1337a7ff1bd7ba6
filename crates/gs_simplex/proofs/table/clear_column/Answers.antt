use Rattle.std.proofs.Common.{◌≡◌, ◌≢◌, ◌⊎◌, ℕ, ◌+◌, ◌*◌, ◌<◌, ◌≤◌, ℤ, List, length, slice_index, refl, sym, subst, ◌∙◌, arith, below_more}
use Rattle.std.proofs.lemmas.Grind.{common_steps}
use Rattle.gs_simplex.specs.{Numbers.{at, cell, IsAtMost}, Columns.{IsRowCleared}}
use Rattle.gs_simplex.proofs.Places.{at_most_same, row_stays, row_inside, row_ends, rows_left, tops_more, tops_left_more}
use Rattle.gs_simplex.proofs.Standing.{slot_freed_same, row_cleared_same}
use Rattle.gs_simplex.proofs.table.clear_column.Goals as goal

pub loop-i-preserved-then-i-lead : goal.loop-i-preserved-then-i-lead
loop-i-preserved-then-i-lead c =
    let v = c.loop-i.invariant in let lead = c.args.lead.now in let w = length lead.numbers.now in let now = c.loop-i.numbers in let i = c.loop-i.i in
    let here : IsAtMost w (cell now w i) lead.most = (let P : ℕ → Type 0 = λ t. IsAtMost w (cell now w t) lead.most in
    subst P (sym c.if-i-lead.true) (at_most_same w lead.most (at lead.numbers.now) (cell now w lead.row) (λ j jw. sym (v.kept j jw ∙ c.requires.lead j jw))
    lead.bound)) in
    record {
      width = refl;
      done = below_more _ c.loop-i.i v.done (λ ne. absurd (ne c.if-i-lead.true));
      left = λ h l j jw. v.left h (omega arith) j jw;
      kept = v.kept;
      narrow = v.narrow;
      tops_done = tops_more now now c.loop-i.tops w i lead.most (omega (arith, c.loop-i.auto.tops, c.loop-i-test.true)) (λ h l j jw. refl) v.tops_done here;
      tops_left = tops_left_more c.loop-i.tops c.args.tops.now i lead.most v.tops_left;
    }

pub reduce_at-requires-clause-live : goal.reduce_at-requires-clause-live
reduce_at-requires-clause-live c = λ mid u.
    let lead = c.args.lead.now in let v = c.loop-i.invariant in let w = length lead.numbers.now in let i = c.loop-i.i in
    c.requires.live i c.loop-i-test.true c.if-i-lead.false mid (slot_freed_same c.args.q lead.column w (cell c.loop-i.numbers w i) (cell c.args.numbers.now w i)
    (omega (arith, c.requires.place, c.requires.spare)) (omega (arith, c.requires.spare)) (λ k l. v.left i (omega arith) k l) mid u)

pub reduce_at-requires-clause-bound : goal.reduce_at-requires-clause-bound
reduce_at-requires-clause-bound c =
    let lead = c.args.lead.now in let v = c.loop-i.invariant in
    let w = length lead.numbers.now in let i = c.loop-i.i in
    let P : ℕ → Type 0 = λ t. IsAtMost w (cell c.loop-i.numbers w i) t in
    subst P (sym (v.tops_left i (omega arith))) (at_most_same w (slice_index c.args.tops.now i) (cell c.args.numbers.now w i) (cell c.loop-i.numbers w i)
    (λ j jw. sym (v.left i (omega arith) j jw)) (c.requires.tops i c.loop-i-test.true c.if-i-lead.false))

pub returns-in-Err-clause-cleared : goal.returns-in-Err-clause-cleared
returns-in-Err-clause-cleared c =
    let lead = c.args.lead.now in let count = length c.args.tops.now in
    let w = length lead.numbers.now in let i = c.loop-i.i in let old = c.args.numbers.now in let now = c.loop-i.numbers in
    let v = c.loop-i.invariant in let a = c.in-Err.ensures.answer in
    record {
      inside = c.loop-i-test.true;
      apart = c.if-i-lead.false;
      here = (
        a.0,
        slot_freed_same c.args.q lead.column w (cell now w i) (cell old w i) (omega (arith, c.requires.place, c.requires.spare))
            (omega (arith, c.requires.spare)) (λ k l. v.left i (omega arith) k l) a.0 a.1,
        a.2,
      );
      before = λ h l ne. (
        cell now w h,
        v.done h l ne,
        λ k kw. v.narrow (h * w + k) (let e : length now ≡ count * w = omega (arith, c.loop-i.auto.numbers, c.requires.long) in
            omega (arith, row_inside count w h k (omega arith) kw)),
      );
    }

-- one more row, which is cleared
module _ (old now new : List ℤ) (lead : ℕ → ℤ) (w r q b i : ℕ) (qw : q < w) (bw : b < w) (ne : i ≢ r)
    (done : (h : ℕ) → h < i → h ≢ r → IsRowCleared lead q b w (cell old w h) (cell now w h))
    (left : (h : ℕ) → i ≤ h → (j : ℕ) → j < w → cell now w h j ≡ cell old w h j)
    (kept : (j : ℕ) → j < w → cell now w r j ≡ cell old w r j)
    (others : (k : ℕ) → (k < i * w) ⊎ (i * w + w ≤ k) → at new k ≡ at now k)
    (here : IsRowCleared lead q b w (cell now w i) (cell new w i)) where
  done_more : (h : ℕ) → h < i + 1 → h ≢ r → IsRowCleared lead q b w (cell old w h) (cell new w h)
  done_more = below_more (λ h. h ≢ r → IsRowCleared lead q b w (cell old w h) (cell new w h)) i
      (λ h l d. row_cleared_same q b w (cell old w h) (cell old w h) qw bw (λ j jw. refl) lead (cell now w h) (cell new w h)
      (λ j jw. sym (row_stays now new w i others h (λ e. omega arith) j jw)) (done h l d))
      (λ d. row_cleared_same q b w (cell now w i) (cell old w i) qw bw (λ j jw. left i (omega arith) j jw) lead (cell new w i) (cell new w i)
      (λ j jw. refl) here)

  kept_more : (j : ℕ) → j < w → cell new w r j ≡ cell old w r j
  kept_more j jw = row_stays now new w i others r (λ e. ne (sym e)) j jw ∙ kept j jw

pub loop-i-preserved : goal.loop-i-preserved
loop-i-preserved c =
    let lead = c.args.lead.now in let q = c.args.q in let b = lead.column in
    let w = length lead.numbers.now in let i = c.loop-i.i in let old = c.args.numbers.now in let now = c.loop-i.numbers in let new = c.reduce_at.new.numbers in
    let row = at lead.numbers.now in
    let v = c.loop-i.invariant in
    let a = c.in-Ok.ensures.answer in
    let qw : q < w = omega (arith, c.requires.place, c.requires.spare) in let bw : b < w = omega (arith, c.requires.spare) in
    record {
      width = refl;
      done = done_more old now new row w lead.row q b i qw bw c.if-i-lead.false v.done v.left v.kept c.reduce_at.ensures.others a.0;
      left = rows_left old now new w i c.reduce_at.ensures.others v.left;
      kept = kept_more old now new row w lead.row q b i qw bw c.if-i-lead.false v.done v.left v.kept c.reduce_at.ensures.others a.0;
      narrow = a.1;
      tops_done = tops_more now new c.loop-i.tops w i c.in-Ok.top (omega (arith, c.loop-i.auto.tops, c.loop-i-test.true))
          (λ h l j jw. row_stays now new w i c.reduce_at.ensures.others h (λ e. omega arith) j jw) v.tops_done a.2;
      tops_left = tops_left_more c.loop-i.tops c.args.tops.now i c.in-Ok.top v.tops_left;
    }

pub returns : goal.returns
returns c = record {
  cleared = record {
    others = λ i h ne. c.loop-i.invariant.done i (omega arith) ne;
    kept = c.loop-i.invariant.kept;
    narrow = c.loop-i.invariant.narrow;
  };
  tops = λ i h. c.loop-i.invariant.tops_done i (omega arith);
}

pub reduce_at-requires-clause-inside : goal.reduce_at-requires-clause-inside
reduce_at-requires-clause-inside c =
    let w = length c.args.lead.now.numbers.now in
    omega (arith, c.loop-i.auto.numbers, c.requires.long, row_ends (length c.args.tops.now) w c.loop-i.i c.loop-i-test.true)

pub loop-i-init : goal.loop-i-init
loop-i-init c = grind (arith, common_steps)
